-- The names of a readable file in file order: they rise, lie before the trailer, and are what the file has at their places. Assumes nothing.
use Rattle.std.specs.Prelude.{Ok}
use mathlib.Core.Path.{◌≡◌, refl, sym, ◌∙◌, ap}
use mathlib.Core.List.Memᴰ
use mathlib.Core.List.{List, [], ◌∷◌, ◌++◌, map, Memᴰ}
use mathlib.Core.Bool.{true}
use mathlib.Core.Logic.{⊎_elim}
use Prim.Native.Nat.{ℕ, zero, suc, ◌+◌, ◌-◌, ◌≤◌, ◌<◌}
use native.Mathlib.Omega.{arith}
use lib.ListN.{length, get_or, take, drop, length-take, length-drop}
use lib.Seq.{drop-drop}
use Rattle.fields.specs.Bytes.{Span, list_of}
use Rattle.fields.proofs.Laws.{list-fits}
use Rattle.names.specs.Words.{Sorted, only, each}
use Rattle.names.proofs.Bools.{is_true}
use Rattle.names.proofs.Lists.{of-only, of-each, sorted-append, sorted-each, sorted-only}
use Rattle.records.specs.Trace.{Record, met, Ending, well, refused, ends}
use Rattle.records.specs.Grammar.{Reading, repeat, ending, nodes, piece}
use Rattle.records.proofs.Places.{lies_within}
use Rattle.story.specs.declared.Sections.{Sections}
use Rattle.story.specs.declared.Heading.{Heading}
use Rattle.records.specs.Items.{Item, name_in, item_of, items_ended, items_in}
use Rattle.story.specs.Story.{Name, Stitch, Flow, Story, own_name}
use Rattle.story.specs.Headings.{counted_reach}
use Rattle.story.specs.Flows.{names, stitch, flow, names_in, counted_in, part, pieces_at, pieces_n, pieces_in, stitch_in, flow_in, flows_in, stitches}
use Rattle.story.specs.File.{story_in}
use Rattle.story.proofs.Reaches.{counted-fits}
use Rattle.story.proofs.Unfolding.{titled-in, flow-in}
use Rattle.story.proofs.Readable.{Readable, piece-first, piece-rest, flows-pieces, TitledWell, titled-heading, flow-titled, stitch-titled}
use Rattle.story.proofs.Parts.{counted-part, part_length}
use Rattle.story.proofs.Places.{NameBefore, name-within, names-rise, counted-rise, item-of}
use Rattle.story.proofs.WellInside.{Apart, records-apart}
use Rattle.story.proofs.Named.{Lies, lies-in-file, lies_at, lies-drop, lies-take, lies-part, AsFile, names-as-file, counted-as-file, name-in-lies, named-near, label-as-file}

-- 1. Names between two places of a file

-- names in file order between two places, each what the file has there
pub record Own (file : List ℕ) (lo hi : ℕ) (l : List Name) : Type 0 where
  pub rise : Sorted NameBefore l
  pub within : (m : Name) → Memᴰ m l → (lo ≤ m.at) × (m.at < hi)
  pub as-file : (m : Name) → Memᴰ m l → AsFile file m

module _ {file : List ℕ} where
  own-none : (lo hi : ℕ) → Own file lo hi []
  own-none lo hi = record { rise = tt; within = λ m i. absurd (Memᴰ.not-nil i); as-file = λ m i. absurd (Memᴰ.not-nil i) }

  own-one : (n : Name) → AsFile file n → Own file n.at (n.at + 1) (n ∷ [])
  own-one n e = record {
    rise = (λ m i. absurd (Memᴰ.not-nil i), tt);
    within = λ m i. omega (arith, ap (λ (x : Name). x.at) (Memᴰ.eq_of_singleton i));
    as-file = λ m i. rw (Memᴰ.eq_of_singleton i) e;
  }

  own-wider : {lo hi lo' hi' : ℕ} {l : List Name} → lo' ≤ lo → hi ≤ hi' → Own file lo hi l → Own file lo' hi' l
  own-wider p q o = record { rise = o.rise; within = λ m i. omega (arith, o.within m i); as-file = o.as-file }

  own-append : {lo mid hi : ℕ} (a b : List Name) → lo ≤ mid → mid ≤ hi → Own file lo mid a → Own file mid hi b → Own file lo hi (a ++ b)
  own-append a b p q o r = record {
    rise = sorted-append NameBefore a b o.rise r.rise (λ x y i j. omega (arith, o.within x i, r.within y j));
    within = λ m i. ⊎_elim (λ j. omega (arith, o.within m j)) (λ j. omega (arith, r.within m j)) (Memᴰ.append_cases a i);
    as-file = λ m i. ⊎_elim (o.as-file m) (r.as-file m) (Memᴰ.append_cases a i);
  }

-- 2. The names of a part

module _ {file : List ℕ} {b : ℕ} {t : List ℕ} (l : Lies file b t) where
  -- names to the end
  names-own : ends (names t) ≡ well → Own file b (b + length t) (names_in b t)
  unfolding names_in
  names-own good = record { rise = names-rise (length t) b t; within = name-within (length t) b t; as-file = names-as-file (length t) t l good }

  -- a count byte and so many names
  counted-own : (p e : ℕ) → counted_reach t p ≡ Ok e → Own file (b + p) (b + e) (counted_in (b + p) (drop p t))
  unfolding counted_in part
  counted-own p e q = record { rise = counted-rise (b + p) (drop p t); within = between; as-file = counted-as-file l p q }
    where
      inside : (m : Name) → Memᴰ m (counted_in (b + p) (part p e t)) → (b + p ≤ m.at) × (m.at < b + e)
      inside m i =
          let w = name-within (get_or (part p e t) 0 0) (b + p + 1) (drop 1 (part p e t)) m i in
          omega (arith, w, length-drop 1 (take (e - p) (drop p t)), length-take (e - p) (drop p t), counted-fits t p refl q)

      between : (m : Name) → Memᴰ m (counted_in (b + p) (drop p t)) → (b + p ≤ m.at) × (m.at < b + e)
      between m i = inside m (rw (counted-part (b + p) p t q) i)

-- the labels of a body, as names
unfoldable pub label_names : List Item → List Name
label_names body = each (λ (i : Item). only i.what.labels (own_name i)) body

-- named at an earlier place
abbrev NamedBefore : Item → Item → Type 0
NamedBefore i j = i.named < j.named

named-rise : (rs : List Record) → Sorted Apart rs → Sorted NamedBefore (map item_of rs)
named-rise [] h = tt
named-rise (r ∷ rs) h = (later, named-rise rs h.1)
  where
    later : (i : Item) → Memᴰ i (map item_of rs) → (item_of r).named < i.named
    later i m =
        let o = Memᴰ.of_map item_of rs m in
        omega (arith, h.0 o.0 o.1, named-near r, named-near o.0, ap (λ (x : Item). x.named) o.2)

items-named-rise : (b : ℕ) (t : List ℕ) → Sorted NamedBefore (items_in b t)
unfolding items_in items_ended
items-named-rise b t = by_end (ends (nodes t))
  where
    by_end : (e : Ending) → Sorted NamedBefore (items_ended e (met b (nodes t)))
    by_end well = named-rise (met b (nodes t)) (records-apart b t)
    by_end (refused x) = tt

-- a label is the name of an item
label_of : (b : ℕ) (t : List ℕ) (m : Name) → Memᴰ m (label_names (items_in b t)) → (i : Item) × Memᴰ i (items_in b t) × (i.what.labels ≡ true) × (m ≡ own_name i)
unfolding label_names
label_of b t m k =
    let o = of-each (λ (i : Item). only i.what.labels (own_name i)) (items_in b t) k in
    let p = of-only o.0.what.labels o.2 in
    (o.0, o.1, is_true o.0.what.labels p.0, p.1)

-- it stands after the place of the bytes
item_from : (b : ℕ) (t : List ℕ) (i : Item) → Memᴰ i (items_in b t) → b ≤ i.named
item_from b t i m =
    let o = item-of b t i m in omega (arith, lies_within b t o.0 o.1, named-near o.0, ap (λ (x : Item). x.named) o.2)

module _ {file : List ℕ} {b : ℕ} {t : List ℕ} (l : Lies file b t) (good : ends (nodes t) ≡ well) where
  labels-within : (m : Name) → Memᴰ m (label_names (items_in b t)) → (b ≤ m.at) × (m.at < b + length t)
  labels-within m k =
      let o = label_of b t m k in
      omega (arith, item_from b t o.0 o.1, (label-as-file l good o.0 o.1 o.2).before, ap (λ (x : Name). x.at) o.3)

  labels-as-file : (m : Name) → Memᴰ m (label_names (items_in b t)) → AsFile file m
  labels-as-file m k = let o = label_of b t m k in rw o.3 (label-as-file l good o.0 o.1 o.2).name

  -- the labels of a body
  labels-own : Own file b (b + length t) (label_names (items_in b t))
  unfolding label_names
  labels-own = record { rise = rising; within = labels-within; as-file = labels-as-file }
    where
      rising : Sorted NameBefore (label_names (items_in b t))
      rising = sorted-each NamedBefore NameBefore (λ (i : Item). only i.what.labels (own_name i)) (items_in b t) (items-named-rise b t)
          (λ i m. sorted-only NameBefore i.what.labels (own_name i))
          (λ i j x y q p r. omega (arith, q, ap (λ (n : Name). n.at) (of-only i.what.labels p).1, ap (λ (n : Name). n.at) (of-only j.what.labels r).1))

-- 3. Titles, stitches and flows

-- the names that a stitch owns, in file order
abbrev pub stitch_names : Stitch → List Name
stitch_names t = t.name ∷ t.params ++ label_names t.body

-- those of a flow
abbrev pub flow_names : Flow → List Name
flow_names f = f.name ∷ f.params ++ label_names f.body ++ each stitch_names f.stitches

-- those of a story
abbrev pub own_names : Story → List Name
own_names s = s.globals ++ label_names s.root ++ each flow_names s.flows

module _ {file : List ℕ} {at : ℕ} {k : Reading} {h : Heading} {s : List ℕ} (l : Lies file at s) (w : TitledWell k h s) where
  -- name, parameters and labels of a title
  pub title-own : Own file at (at + h.end) (record { at = at; bytes = name_in s } ∷ counted_in (at + h.params) (drop h.params s) ++ label_names (items_in (at + h.nodes) (part h.nodes h.end s)))
  unfolding part
  title-own =
      let named : AsFile file (record { at = at; bytes = name_in s }) = name-in-lies l (h.params - 1, w.laid.name-read) in
      own-append (record { at = at; bytes = name_in s } ∷ []) _ (omega arith) (omega (arith, w.laid))
      (own-wider (omega arith) (omega (arith, w.laid)) (own-one (record { at = at; bytes = name_in s }) named))
      (own-append _ _ (omega (arith, w.laid)) (omega (arith, w.laid)) (counted-own l h.params h.marks w.laid.params-read)
      (own-wider (omega (arith, w.laid)) (omega (arith, w.laid, length-take (h.end - h.nodes) (drop h.nodes s)))
      (labels-own (lies-part l h.nodes h.end) w.nodes)))

-- each piece, made by g of bytes that r reads well
module _ {A : Type 0} {file : List ℕ} (r : Reading) (g : ℕ → List ℕ → A) where
  -- what holds of each piece holds of those that are read to the end
  pieces-each-n : (Q : A → Type 0) → ((p : ℕ) (u : List ℕ) → Lies file (p + 4) u → ends (r u) ≡ well → Q (g p u))
      → (n : ℕ) {at : ℕ} (t : List ℕ) → Lies file at t → ends (repeat (piece r) t) ≡ well → (x : A) → Memᴰ x (pieces_n n g at t) → Q x
  unfolding pieces_n pieces_at
  pieces-each-n Q q zero t l good x m = absurd (Memᴰ.not-nil m)
  pieces-each-n Q q (suc n) {at} t l good x m = by_span (list_of t) refl m (λ k e. pieces-each-n Q q n (drop (4 + k) t) (lies-drop l (4 + k)) (piece-rest r t good k refl e) x)
    where
      by_span : (y : Span) → list_of t ≡ y → Memᴰ x (pieces_at y g (pieces_n n g) at t)
          → ((k : ℕ) → list_of t ≡ Span.Bytes k → Memᴰ x (pieces_n n g (at + (4 + k)) (drop (4 + k) t)) → Q x) → Q x
      by_span (Span.Bytes k) e i later =
          ⊎_elim (λ here. rw here (q at (take k (drop 4 t)) (lies-take (lies-drop l 4) k) (piece-first r t good k refl e))) (later k e) (Memᴰ.cases_cons i)
      by_span (Span.Refused x) e i later = absurd (Memᴰ.not-nil i)

  pub pieces-each : (Q : A → Type 0) → ((p : ℕ) (u : List ℕ) → Lies file (p + 4) u → ends (r u) ≡ well → Q (g p u))
      → {at : ℕ} (t : List ℕ) → Lies file at t → ends (repeat (piece r) t) ≡ well → (x : A) → Memᴰ x (pieces_in g at t) → Q x
  unfolding pieces_in
  pieces-each Q q t l good x m = pieces-each-n Q q (length t) t l good x m

  -- where each piece owns its names, the pieces own theirs
  module _ (f : A → List Name) (q : (p : ℕ) (u : List ℕ) → Lies file (p + 4) u → ends (r u) ≡ well → Own file p (p + (4 + length u)) (f (g p u))) where
    pieces-own-n : (n at : ℕ) (t : List ℕ) → Lies file at t → ends (repeat (piece r) t) ≡ well → Own file at (at + length t) (each f (pieces_n n g at t))
    unfolding pieces_n pieces_at
    pieces-own-n zero at t l good = own-none at (at + length t)
    pieces-own-n (suc n) at t l good = by_span (list_of t) refl (λ k e. pieces-own-n n (at + (4 + k)) (drop (4 + k) t) (lies-drop l (4 + k)) (piece-rest r t good k refl e))
      where
        by_span : (y : Span) → list_of t ≡ y
            → ((k : ℕ) → list_of t ≡ Span.Bytes k → Own file (at + (4 + k)) (at + (4 + k) + length (drop (4 + k) t)) (each f (pieces_n n g (at + (4 + k)) (drop (4 + k) t))))
            → Own file at (at + length t) (each f (pieces_at y g (pieces_n n g) at t))
        by_span (Span.Bytes k) e later =
            let fits : 4 + k ≤ length t = list-fits t k refl e in
            own-append {mid = at + (4 + k)} (f (g at (take k (drop 4 t)))) _ (omega arith) (omega arith)
            (own-wider (omega arith) (omega (arith, length-take k (drop 4 t))) (q at (take k (drop 4 t)) (lies-take (lies-drop l 4) k) (piece-first r t good k refl e)))
            (own-wider (omega arith) (omega (arith, length-drop (4 + k) t)) (later k e))
        by_span (Span.Refused x) e later = own-none at (at + length t)

    pieces-own : (at : ℕ) (t : List ℕ) → Lies file at t → ends (repeat (piece r) t) ≡ well → Own file at (at + length t) (each f (pieces_in g at t))
    unfolding pieces_in
    pieces-own at t l good = pieces-own-n (length t) at t l good

pub stitch-own : {file : List ℕ} (p : ℕ) (u : List ℕ) → Lies file (p + 4) u → ends (stitch u) ≡ well → Own file p (p + (4 + length u)) (stitch_names (stitch_in p u))
unfolding stitch_in
stitch-own p u l good =
    let d = titled-heading ending u (stitch-titled u good) in
    rw (titled-in (p + 4) u d.0 refl d.1.told) (own-wider (omega arith) (omega (arith, d.1.laid.within)) (title-own l d.1))

module _ {file : List ℕ} (p : ℕ) (u : List ℕ) (l : Lies file (p + 4) u) where
  pub flow-own : ends (flow u) ≡ well → Own file p (p + (4 + length u)) (flow_names (flow_in p u))
  flow-own good =
      let f = flow-titled u good in
      let d = titled-heading stitches (drop 1 u) f.1 in
      let h = d.0 in
      let begin : p + 4 + 1 ≡ p + 5 = omega arith in
      let after : p + 4 + (1 + h.end) ≡ p + (5 + h.end) = omega arith in
      let title = title-own (lies_at (lies-drop l 1) begin) d.1 in
      let stitches = pieces-own stitch stitch_in stitch_names stitch-own (p + (5 + h.end)) (drop (1 + h.end) u) (lies_at (lies-drop l (1 + h.end)) after) (rw (drop-drop h.end 1 u) at d.1.rest) in
      let fits : 1 + h.end ≤ length u = omega (arith, f.0, d.1.laid.within, length-drop 1 u) in
      rw (flow-in p u h refl d.1.told)
      (own-append {mid = p + (5 + h.end)} _ _ (omega arith) (omega arith) (own-wider (omega arith) (omega arith) title)
      (own-wider (omega arith) (omega (arith, length-drop (1 + h.end) u)) stitches))

-- 4. A readable file

module _ (c : Sections) (s : List ℕ) (r : Readable c s) where
  section : {a b : ℕ} {l : List Name} → a ≤ b → b ≤ length s → Own s a (a + length (part a b s)) l → Own s a b l
  section {a} {b} p q o = own-wider (omega arith) (omega (arith, part_length a b s q)) o

  globals-own : Own s 0 c.externals (story_in c s).globals
  unfolding story_in
  globals-own = section (omega arith) (omega (arith, r.order)) (names-own (lies-in-file s 0 c.externals) r.globals)

  root-own : Own s c.root c.flows (label_names (story_in c s).root)
  unfolding story_in
  root-own = section r.order.root (omega (arith, r.order)) (labels-own (lies-in-file s c.root c.flows) r.root)

  flows-own : Own s c.flows c.end (each flow_names (story_in c s).flows)
  unfolding story_in flows_in
  flows-own =
      section r.order.flows (omega (arith, r.order))
      (pieces-own flow flow_in flow_names flow-own c.flows (part c.flows c.end s) (lies-in-file s c.flows c.end) (sym (flows-pieces (part c.flows c.end s)) ∙ r.flows))

  -- all names that the index has, before the trailer
  pub story-own : Own s 0 c.end (own_names (story_in c s))
  story-own =
      own-append _ _ (omega arith) r.order.flows
      (own-append {mid = c.root} _ _ (omega arith) r.order.root (own-wider (omega arith) r.order.externals globals-own) root-own) flows-own
