-- Places rise: along names, along the items of a body, and along pieces; and a flow begins before its items. Each holds of all bytes. Assumes nothing.
use Rattle.std.specs.Prelude.{Result, Ok, Err}
use Rattle.fields.specs.declared.Refusal.{Refusal}
use Rattle.story.specs.declared.Heading.{Heading}
use mathlib.Core.Path.{◌≡◌, ap}
use mathlib.Core.List.Memᴰ
use mathlib.Core.List.{List, [], ◌∷◌, map, Memᴰ}
use mathlib.Core.Logic.{◌⊎◌, inl, inr}
use Prim.Native.Nat.{ℕ, zero, suc, ◌+◌, ◌≤◌, ◌<◌}
use native.Mathlib.Omega.{arith}
use lib.ListN.{length, get_or, take, drop, length-drop}
use Rattle.names.specs.Words.{Sorted}
use Rattle.fields.specs.Bytes.{Span, list_of}
use Rattle.records.specs.Trace.{Record, met, Ending, well, refused, ends}
use Rattle.records.specs.Grammar.{nodes}
use Rattle.records.proofs.Places.{places-rise, lies_within}
use Rattle.story.specs.declared.Sections.{Sections}
use Rattle.records.specs.Items.{Item, item_as, item_of, items_ended, items_in}
use Rattle.story.specs.Story.{Name, Stitch, Flow}
use Rattle.story.specs.Headings.{heading_of}
use Rattle.story.specs.Flows.{names_n, counted_in, titled_at, titled_in, pieces_at, pieces_n, pieces_in, stitch_in, title_end, flow_in, flows_in, part}
use Rattle.story.specs.File.{story_in}

-- one item before another, and one name before another
abbrev pub ItemBefore : Item → Item → Type 0
ItemBefore i j = i.place < j.place

-- at an earlier place
abbrev pub NameBefore : Name → Name → Type 0
NameBefore m n = m.at < n.at

-- 1. Names

-- names stand at the place or after it, and before the end of the bytes
pub name-within : (n at : ℕ) (s : List ℕ) (m : Name) → Memᴰ m (names_n n at s) → (at ≤ m.at) × (m.at < at + length s)
unfolding names_n
name-within zero at s m i = absurd (Memᴰ.not-nil i)
name-within (suc n) at [] m i = absurd (Memᴰ.not-nil i)
name-within (suc n) at (x ∷ s) m i = by_cases (name-within n (at + (1 + x)) (drop x s) m) (Memᴰ.cases_cons i)
  where
    by_cases : (Memᴰ m (names_n n (at + (1 + x)) (drop x s)) → (at + (1 + x) ≤ m.at) × (m.at < at + (1 + x) + length (drop x s)))
        → (m ≡ record { at = at; bytes = take x s }) ⊎ Memᴰ m (names_n n (at + (1 + x)) (drop x s)) → (at ≤ m.at) × (m.at < at + suc (length s))
    by_cases later (inl e) = omega (arith, ap (λ (y : Name). y.at) e)
    by_cases later (inr j) = omega (arith, later j, length-drop x s)

pub names-rise : (n at : ℕ) (s : List ℕ) → Sorted NameBefore (names_n n at s)
unfolding names_n
names-rise zero at s = tt
names-rise (suc n) at [] = tt
names-rise (suc n) at (x ∷ s) = (λ m i. omega (arith, name-within n (at + (1 + x)) (drop x s) m i), names-rise n (at + (1 + x)) (drop x s))

pub counted-rise : (at : ℕ) (s : List ℕ) → Sorted NameBefore (counted_in at s)
unfolding counted_in
counted-rise at s = names-rise (get_or s 0 0) (at + 1) (drop 1 s)

-- 2. Items

pub items-sorted : (rs : List Record) → Sorted (λ (x y : Record). x.place < y.place) rs → Sorted ItemBefore (map item_of rs)
unfolding item_of item_as
items-sorted [] h = tt
items-sorted (r ∷ rs) h = (later, items-sorted rs h.1)
  where
    later : (i : Item) → Memᴰ i (map item_of rs) → r.place < i.place
    later i m = let o = Memᴰ.of_map item_of rs m in omega (arith, h.0 o.0 o.1, ap (λ (y : Item). y.place) o.2)

items-as-rise : (b : ℕ) (s : List ℕ) (e : Ending) → Sorted ItemBefore (items_ended e (met b (nodes s)))
unfolding items_ended
items-as-rise b s well = items-sorted (met b (nodes s)) (places-rise b s)
items-as-rise b s (refused x) = tt

pub items-rise : (b : ℕ) (s : List ℕ) → Sorted ItemBefore (items_in b s)
unfolding items_in
items-rise b s = items-as-rise b s (ends (nodes s))

-- an item is that of a record
pub item-of : (b : ℕ) (s : List ℕ) (i : Item) → Memᴰ i (items_in b s) → (r : Record) × Memᴰ r (met b (nodes s)) × (item_of r ≡ i)
unfolding items_in items_ended
item-of b s i m = by_end (ends (nodes s)) m
  where
    by_end : (e : Ending) → Memᴰ i (items_ended e (met b (nodes s))) → (r : Record) × Memᴰ r (met b (nodes s)) × (item_of r ≡ i)
    by_end well m = Memᴰ.of_map item_of (met b (nodes s)) m
    by_end (refused x) m = absurd (Memᴰ.not-nil m)

-- items stand at the place or after it, and before the end of the bytes
pub item-within : (b : ℕ) (s : List ℕ) (i : Item) → Memᴰ i (items_in b s) → (b ≤ i.place) × (i.place < b + length s)
unfolding item_of item_as
item-within b s i m =
    let o = item-of b s i m in omega (arith, lies_within b s o.0 o.1, ap (λ (y : Item). y.place) o.2)

-- 3. Pieces

-- a piece is made of bytes that stand where it begins
module _ {A : Type 0} (f : ℕ → List ℕ → A) where
  piece-of-n : (n at : ℕ) (t : List ℕ) (x : A) → Memᴰ x (pieces_n n f at t) → (p : ℕ) × (s : List ℕ) × (x ≡ f p s)
  unfolding pieces_n pieces_at
  piece-of-n zero at t x m = absurd (Memᴰ.not-nil m)
  piece-of-n (suc n) at t x m = by_span (list_of t) (λ k. piece-of-n n (at + (4 + k)) (drop (4 + k) t) x) m
    where
      by_cases : (k : ℕ) → (Memᴰ x (pieces_n n f (at + (4 + k)) (drop (4 + k) t)) → (p : ℕ) × (s : List ℕ) × (x ≡ f p s))
          → (x ≡ f at (take k (drop 4 t))) ⊎ Memᴰ x (pieces_n n f (at + (4 + k)) (drop (4 + k) t)) → (p : ℕ) × (s : List ℕ) × (x ≡ f p s)
      by_cases k later (inl e) = (at, take k (drop 4 t), e)
      by_cases k later (inr i) = later i

      by_span : (r : Span) → ((k : ℕ) → Memᴰ x (pieces_n n f (at + (4 + k)) (drop (4 + k) t)) → (p : ℕ) × (s : List ℕ) × (x ≡ f p s))
          → Memᴰ x (pieces_at r f (pieces_n n f) at t) → (p : ℕ) × (s : List ℕ) × (x ≡ f p s)
      by_span (Span.Bytes k) later i = by_cases k (later k) (Memᴰ.cases_cons i)
      by_span (Span.Refused x) later i = absurd (Memᴰ.not-nil i)

  pub piece_of : (at : ℕ) (t : List ℕ) (x : A) → Memᴰ x (pieces_in f at t) → (p : ℕ) × (s : List ℕ) × (x ≡ f p s)
  unfolding pieces_in
  piece_of at t x m = piece-of-n (length t) at t x m

-- 4. Stitches and flows

titled-body-rises : (at : ℕ) (s : List ℕ) (r : Result Heading Refusal) → Sorted ItemBefore (titled_at r at s).body
unfolding titled_at
titled-body-rises at s (Ok h) = items-rise (at + h.nodes) (part h.nodes h.end s)
titled-body-rises at s (Err x) = tt

titled-params-rise : (at : ℕ) (s : List ℕ) (r : Result Heading Refusal) → Sorted NameBefore (titled_at r at s).params
unfolding titled_at
titled-params-rise at s (Ok h) = counted-rise (at + h.params) (drop h.params s)
titled-params-rise at s (Err x) = tt

titled-begins : (at : ℕ) (s : List ℕ) (r : Result Heading Refusal) (i : Item) → Memᴰ i (titled_at r at s).body → at ≤ i.place
unfolding titled_at
titled-begins at s (Ok h) i m = omega (arith, item-within (at + h.nodes) (part h.nodes h.end s) i m)
titled-begins at s (Err x) i m = absurd (Memᴰ.not-nil m)

pub stitch-body-rises : (at : ℕ) (s : List ℕ) → Sorted ItemBefore (stitch_in at s).body
unfolding stitch_in titled_in
stitch-body-rises at s = titled-body-rises (at + 4) s (heading_of s)

module _ (at : ℕ) (s : List ℕ) where
  pub flow-params-rise : Sorted NameBefore (flow_in at s).params
  unfolding flow_in titled_in
  flow-params-rise = titled-params-rise (at + 5) (drop 1 s) (heading_of (drop 1 s))

  pub flow-body-rises : Sorted ItemBefore (flow_in at s).body
  unfolding flow_in titled_in
  flow-body-rises = titled-body-rises (at + 5) (drop 1 s) (heading_of (drop 1 s))

  pub flow-begins : (i : Item) → Memᴰ i (flow_in at s).body → (flow_in at s).at < i.place
  unfolding flow_in titled_in
  flow-begins i m = omega (arith, titled-begins (at + 5) (drop 1 s) (heading_of (drop 1 s)) i m)

  pub flow-stitches-rise : (t : Stitch) → Memᴰ t (flow_in at s).stitches → Sorted ItemBefore t.body
  unfolding flow_in
  flow-stitches-rise t m =
      let o = piece_of stitch_in (at + (5 + title_end (heading_of (drop 1 s)))) (drop (1 + title_end (heading_of (drop 1 s))) s) t m in
      rw o.2 (stitch-body-rises o.0 o.1)

-- 5. A story

-- the places of a flow: its parameters rise, it begins before its items, they rise, and so do those of its stitches
pub record FlowRises (f : Flow) : Type 0 where
  pub params : Sorted NameBefore f.params
  pub begins : (i : Item) → Memᴰ i f.body → f.at < i.place
  pub body : Sorted ItemBefore f.body
  pub stitches : (t : Stitch) → Memᴰ t f.stitches → Sorted ItemBefore t.body

flow-rises : (at : ℕ) (s : List ℕ) → FlowRises (flow_in at s)
flow-rises at s = record {
  params = flow-params-rise at s;
  begins = flow-begins at s;
  body = flow-body-rises at s;
  stitches = flow-stitches-rise at s;
}

module _ (c : Sections) (s : List ℕ) where
  pub story-root-rises : Sorted ItemBefore (story_in c s).root
  unfolding story_in
  story-root-rises = items-rise c.root (part c.root c.flows s)

  pub story-flows-rise : (f : Flow) → Memᴰ f (story_in c s).flows → FlowRises f
  unfolding story_in flows_in
  story-flows-rise f m =
      let o = piece_of flow_in c.flows (part c.flows c.end s) f m in rw o.2 (flow-rises o.0 o.1)
