-- Equal bytes at two places are the same to the rules, but for places. Assumes nothing.
use Rattle.std.specs.Prelude.{Result, Ok, Err}
use Rattle.fields.specs.declared.Refusal.{Refusal}
use Rattle.story.specs.declared.Heading.{Heading}
use mathlib.Core.Path.{◌≡◌, refl, sym, ◌∙◌, ap}
use mathlib.Core.List.{List, [], ◌∷◌, map}
use Prim.Native.Nat.{ℕ, zero, suc, ◌+◌}
use lib.ListN.{length, get_or, take, drop}
use Rattle.names.specs.Words.{Bytes}
use Rattle.records.specs.Trace.{Trace, Record, met, moved, Ending, well, refused, ends}
use Rattle.records.specs.Grammar.{nodes}
use Rattle.records.proofs.Moved.{met-from-0}
use Rattle.records.specs.Items.{What, item_as, item_of, items_ended, items_in}
use Rattle.story.specs.Story.{Stitch, Flow, words, whats}
use Rattle.story.specs.Headings.{heading_of}
use Rattle.story.specs.Flows.{names_n, names_in, counted_in, part, titled_at, titled_in, stitch_in, flow_in}

-- 1. Items and names

items-moved : (a : ℕ) (rs : List Record) → whats (map item_of (map (moved a) rs)) ≡ whats (map item_of rs)
unfolding item_of item_as moved
items-moved a [] = refl
items-moved a (r ∷ rs) = ap (λ (l : List What). (item_of r).what ∷ l) (items-moved a rs)

items_as : (a b : ℕ) (t : Trace) (e : Ending) → whats (items_ended e (met a t)) ≡ whats (items_ended e (met b t))
unfolding items_ended
items_as a b t well = rw (met-from-0 a t, met-from-0 b t) (items-moved a (met 0 t) ∙ sym (items-moved b (met 0 t)))
items_as a b t (refused x) = refl

pub same-items : (a b : ℕ) (s : List ℕ) → whats (items_in a s) ≡ whats (items_in b s)
unfolding items_in
same-items a b s = items_as a b (nodes s) (ends (nodes s))

pub same_names : (n a b : ℕ) (s : List ℕ) → words (names_n n a s) ≡ words (names_n n b s)
unfolding names_n
same_names zero a b s = refl
same_names (suc n) a b [] = refl
same_names (suc n) a b (x ∷ s) = ap (λ (l : List Bytes). take x s ∷ l) (same_names n (a + (1 + x)) (b + (1 + x)) (drop x s))

pub same-names-in : (a b : ℕ) (s : List ℕ) → words (names_in a s) ≡ words (names_in b s)
unfolding names_in
same-names-in a b s = same_names (length s) a b s

pub same-counted : (a b : ℕ) (s : List ℕ) → words (counted_in a s) ≡ words (counted_in b s)
unfolding counted_in
same-counted a b s = same_names (get_or s 0 0) (a + 1) (b + 1) (drop 1 s)

-- 2. Stitches

-- the same stitch, but for places
pub record SameStitch (x y : Stitch) : Type 0 where
  pub name : x.name.bytes ≡ y.name.bytes
  pub params : words x.params ≡ words y.params
  pub marks : words x.marks ≡ words y.marks
  pub body : whats x.body ≡ whats y.body

same-titled-at : (a b : ℕ) (s : List ℕ) (r : Result Heading Refusal) → SameStitch (titled_at r a s) (titled_at r b s)
unfolding titled_at
same-titled-at a b s (Ok h) = record {
  name = refl;
  params = same-counted (a + h.params) (b + h.params) (drop h.params s);
  marks = same-counted (a + h.marks) (b + h.marks) (drop h.marks s);
  body = same-items (a + h.nodes) (b + h.nodes) (part h.nodes h.end s);
}
same-titled-at a b s (Err x) = record { name = refl; params = refl; marks = refl; body = refl }

same-titled : (a b : ℕ) (s : List ℕ) → SameStitch (titled_in a s) (titled_in b s)
unfolding titled_in
same-titled a b s = same-titled-at a b s (heading_of s)

pub same-stitch : (a b : ℕ) (s : List ℕ) → SameStitch (stitch_in a s) (stitch_in b s)
unfolding stitch_in
same-stitch a b s = same-titled (a + 4) (b + 4) s

-- 3. Flows

-- the same flow, but for places and stitches
pub record SameFlow (x y : Flow) : Type 0 where
  pub function : x.function ≡ y.function
  pub name : x.name.bytes ≡ y.name.bytes
  pub params : words x.params ≡ words y.params
  pub marks : words x.marks ≡ words y.marks
  pub body : whats x.body ≡ whats y.body

pub same_flow : (a b : ℕ) (s : List ℕ) → SameFlow (flow_in a s) (flow_in b s)
unfolding flow_in
same_flow a b s =
    let title = same-titled (a + 5) (b + 5) (drop 1 s) in
    record { function = refl; name = title.name; params = title.params; marks = title.marks; body = title.body }
