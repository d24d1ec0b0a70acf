-- Where the records of a whole file stand: their places rise from the first to the last, and the bytes at their places are theirs. Assumes nothing.
use Rattle.std.specs.Prelude.{Result, Ok, Err}
use Rattle.fields.specs.declared.Refusal.{Refusal}
use Rattle.story.specs.declared.Heading.{Heading}
use mathlib.Core.Path.{◌≡◌, refl, ap, subst}
use mathlib.Core.List.Memᴰ
use mathlib.Core.List.{List, [], ◌∷◌, map, Memᴰ}
use Prim.Native.Nat.{ℕ, ◌+◌, ◌-◌, ◌<◌}
use native.Mathlib.Omega.{arith}
use lib.ListN.{length, take, drop}
use Rattle.names.specs.Words.{Sorted}
use Rattle.records.specs.Trace.{and_then, shift, Record, met, Ending, well, refused, ends}
use Rattle.records.specs.Grammar.{Reading, repeat, ending, nodes, piece}
use Rattle.records.specs.Stands.{Stands}
use Rattle.records.proofs.Places.{Placed, placed-wider, placed-then, Places, rest-placed, part_placed, ending-places, repeat-places, piece-places, flagged-places, nodes-places, met-placed, met-rising}
use Rattle.story.specs.declared.Sections.{Sections}
use Rattle.records.specs.Items.{Item, item_as, item_of}
use Rattle.story.specs.Headings.{heading_of}
use Rattle.story.specs.Flows.{names, titled, stitch, stitches, flow, flows, part}
use Rattle.story.specs.File.{sections_read, story_in, InOrder}
use Rattle.story.proofs.Reaches.{heading-laid}
use Rattle.story.proofs.Places.{ItemBefore}
use Rattle.story.specs.Story.{story_items}
use Rattle.story.proofs.Titled.{title_trace, titled-trace, quiet, names-quiet}
use Rattle.story.proofs.StoryItems.{story-items}

-- 1. Stitches and flows place their records within their bytes

title-places : (k : Reading) → Places k → (s : List ℕ) (r : Result Heading Refusal) → r ≡ heading_of s → Placed s 0 (length s) (title_trace r k s)
unfolding title_trace Placed part
title-places k g s (Ok h) e =
    let laid = heading-laid s h e refl in
    let n = h.end - h.nodes in
    let own = part_placed h.nodes n s nodes nodes-places (omega (arith, laid)) in
    placed-then s (shift h.nodes (nodes (take n (drop h.nodes s)))) (shift h.end (k (drop h.end s))) (omega (arith, laid)) laid.within
    (placed-wider s (shift h.nodes (nodes (take n (drop h.nodes s)))) (omega arith) (omega (arith, laid)) own) (rest-placed h.end s k g laid.within)
title-places k g s (Err x) e = tt

titled-places : (k : Reading) → Places k → Places (titled k)
titled-places k g s = rw (titled-trace k s) (title-places k g s (heading_of s) refl)

pub pieces-places : (g : Reading) → Places g → Places (repeat (piece g))
pieces-places g f = repeat-places (piece g) (λ k h. piece-places g k f h)

pub stitch-places : Places stitch
unfolding stitch
stitch-places s = titled-places ending ending-places s

flow-places : Places flow
unfolding flow
flow-places s = let rest = titled-places stitches (pieces-places stitch stitch-places) in flagged-places (titled stitches) (titled stitches) rest rest s

pub flows-places : Places flows
unfolding flows
flows-places s = pieces-places flow flow-places s

-- 2. A file

module _ (c : Sections) (s : List ℕ) (o : InOrder c s) where
  names-placed : (u : List ℕ) → Placed s 0 0 (names u)
  unfolding quiet Placed
  names-placed u = rw (names-quiet u) (by_end (ends (names u)))
    where
      by_end : (e : Ending) → Placed s 0 0 (quiet e)
      by_end well = tt
      by_end (refused r) = tt

  pub sections-placed : Placed s 0 (length s) (sections_read c s)
  unfolding sections_read part
  sections-placed =
      let n = c.flows - c.root in
      let m = c.end - c.flows in
      let root = shift c.root (nodes (take n (drop c.root s))) in
      let rest = shift c.flows (flows (take m (drop c.flows s))) in
      let behind : Placed s 0 (length s) (and_then root rest) =
      placed-then s {lo = 0} {mid = c.flows} {hi = length s} root rest (omega (arith, o)) (omega (arith, o))
      (placed-wider s {lo = c.root} {hi = c.root + n} root (omega arith) (omega (arith, o)) (part_placed c.root n s nodes nodes-places (omega (arith, o))))
      (placed-wider s {lo = c.flows} {hi = c.flows + m} rest (omega arith) (omega (arith, o)) (part_placed c.flows m s flows flows-places (omega (arith, o)))) in
      let x = names (take (c.root - c.externals) (drop c.externals s)) in
      placed-then s {lo = 0} {mid = 0} {hi = length s} (names (take (c.externals - 0) (drop 0 s))) (and_then x (and_then root rest)) (omega arith) (omega arith) (names-placed (take (c.externals - 0) (drop 0 s)))
      (placed-then s {lo = 0} {mid = 0} {hi = length s} x (and_then root rest) (omega arith) (omega arith) (names-placed (take (c.root - c.externals) (drop c.externals s))) behind)

  -- places rise across the whole file
  records-rise : Sorted (λ (x y : Record). x.place < y.place) (met 0 (sections_read c s))
  records-rise = met-rising s 0 (length s) 0 (sections_read c s) sections-placed

  -- a record stands in the file at its place
  pub record-stands : (r : Record) → Memᴰ r (met 0 (sections_read c s)) → Stands s r.place r.kind r.payload × (r.place < length s)
  record-stands r m =
      let x = met-placed s 0 (length s) 0 (sections_read c s) sections-placed r m in
      let e : x.0 ≡ r.place = omega (arith, x.1) in
      (subst (λ (p : ℕ). Stands s p r.kind r.payload) e x.3, omega (arith, x.1, x.2))

items-sorted : (rs : List Record) → Sorted (λ (x y : Record). x.place < y.place) rs → Sorted ItemBefore (map item_of rs)
unfolding item_of item_as
items-sorted [] h = tt
items-sorted (r ∷ rs) h = (later, items-sorted rs h.1)
  where
    later : (i : Item) → Memᴰ i (map item_of rs) → r.place < i.place
    later i m = let x = Memᴰ.of_map item_of rs m in omega (arith, h.0 x.0 x.1, ap (λ (y : Item). y.place) x.2)

-- THE PLACES of a readable file's items rise, from the first of the root to the last of the last flow
pub story-rises : (c : Sections) (s : List ℕ) → InOrder c s → ends (sections_read c s) ≡ well → Sorted ItemBefore (story_items (story_in c s))
story-rises c s o h = rw (← story-items c s h) (items-sorted (met 0 (sections_read c s)) (records-rise c s o))

-- an item of a readable file is that of a record that stands in it
pub story-stands : (c : Sections) (s : List ℕ) → InOrder c s → ends (sections_read c s) ≡ well → (i : Item) → Memᴰ i (story_items (story_in c s))
    → (r : Record) × (item_of r ≡ i) × Stands s r.place r.kind r.payload × (r.place < length s)
story-stands c s o h i m =
    let x = Memᴰ.of_map item_of (met 0 (sections_read c s)) (rw (← story-items c s h) at m) in
    let y = record-stands c s o x.0 x.1 in
    (x.0, x.2, y.0, y.1)
