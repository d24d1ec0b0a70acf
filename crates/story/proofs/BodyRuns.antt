-- A body is the run of kept numbers with from ≤ place < to. Assumes nothing.
use mathlib.Core.Path.{◌≡◌, refl, sym, ◌∙◌}
use mathlib.Core.Bool.{Bool, true, false, not, ◌&&◌, and-false, true≢false}
use mathlib.Core.List.{List, [], ◌∷◌, ◌++◌, append-nil}
use mathlib.Core.Logic.{◌⊎◌, inl, inr}
use Prim.Native.Nat.{ℕ, suc, ◌+◌, ◌≤◌, ◌<◌}
use native.Mathlib.Omega.{arith}
use lib.Dec.{ltb}
use lib.ListN.{length}
use borrow.Author.Tests.{ltb-true, ltb-false, lt-ltb, le-ltb}
use Rattle.fields.specs.Bytes.{pick}
use Rattle.names.specs.Words.{each}
use Rattle.records.specs.Trace.{Trace, done, refuse, emit, met, Ending, well, refused, ends}
use Rattle.records.specs.Grammar.{Reading, nodes}
use Rattle.records.proofs.Places.{Placed, Places, nodes-places}
use Rattle.story.specs.declared.Sections.{Sections}
use Rattle.records.specs.declared.sorts.Sort.TheVariants.{Plain as plain}
use Rattle.records.specs.Items.{is, Item, item_as, item_of, items_ended, items_in}
use Rattle.story.specs.Flows.{flows, flows_in, stitch, stitches, stitch_in, pieces_in, part}
use Rattle.story.specs.File.{story_in, InOrder}
use Rattle.story.proofs.Parts.{part_length}
use Rattle.records.specs.Numbers.{number_of, kept_numbers, place_in, between}
use Rattle.records.specs.Work.{items_of}
use Rattle.story.specs.Story.{stitch_items, flow_items, story_items}
use Rattle.story.proofs.Unpacked.{place-back}
use Rattle.story.proofs.StoryItems.{pieces-items, stitch-items, flows-items}
use Rattle.story.proofs.Standing.{pieces-places, stitch-places, flows-places}

-- 1. Kept numbers of two lists, and of items that lie in a range

pub kept_append : (l m : List Item) → kept_numbers (l ++ m) ≡ kept_numbers l ++ kept_numbers m
unfolding kept_numbers
kept_append [] m = refl
kept_append (i ∷ l) m = by-test (is plain i.what) (kept_append l m)
  where
    by-test : (x : Bool) → kept_numbers (l ++ m) ≡ kept_numbers l ++ kept_numbers m → pick x (kept_numbers (l ++ m)) (number_of i ∷ kept_numbers (l ++ m)) ≡ pick x (kept_numbers l) (number_of i ∷ kept_numbers l) ++ kept_numbers m
    by-test true e = e
    by-test false e = rw e

-- items with lo ≤ place < hi
unfoldable pub Lies : ℕ → ℕ → List Item → Type 0
Lies lo hi [] = Unit {0}
Lies lo hi (i ∷ l) = ((lo ≤ i.place) × (i.place < hi)) × Lies lo hi l

pub lies-wider : {lo hi lo' hi' : ℕ} (l : List Item) → lo' ≤ lo → hi ≤ hi' → Lies lo hi l → Lies lo' hi' l
unfolding Lies
lies-wider [] p q h = tt
lies-wider (i ∷ l) p q h = (omega (arith, h.0), lies-wider l p q h.1)

pub lies-append : (lo hi : ℕ) (l m : List Item) → Lies lo hi l → Lies lo hi m → Lies lo hi (l ++ m)
unfolding Lies
lies-append lo hi [] m p q = q
lies-append lo hi (i ∷ l) m p q = (p.0, lies-append lo hi l m p.1 q)

placed-lies : (s : List ℕ) (lo hi b : ℕ) (t : Trace) → Placed s lo hi t → Lies (b + lo) (b + hi) (items_of b t)
unfolding Placed Lies met item_of item_as
placed-lies s lo hi b done h = tt
placed-lies s lo hi b (refuse r) h = tt
placed-lies s lo hi b (emit role kind p bs t) h = (omega (arith, h.0), lies-wider (items_of b t) (omega (arith, h.0)) (omega arith) (placed-lies s (suc p) hi b t h.2))

-- the items of a reading lie where its bytes stand
reading-lies : (k : Reading) → Places k → (b : ℕ) (s : List ℕ) → Lies b (b + length s) (items_of b (k s))
reading-lies k g b s = lies-wider (items_of b (k s)) (omega arith) (omega arith) (placed-lies s 0 (length s) b (k s) (g s))

module _ (from to : ℕ) where
  between-append : (xs ys : List ℕ) → between from to (xs ++ ys) ≡ between from to xs ++ between from to ys
  unfolding between
  between-append [] ys = refl
  between-append (x ∷ xs) ys = by-test (not (ltb (place_in x) from) && ltb (place_in x) to) (between-append xs ys)
    where
      by-test : (b : Bool) → between from to (xs ++ ys) ≡ between from to xs ++ between from to ys
          → pick b (x ∷ between from to (xs ++ ys)) (between from to (xs ++ ys)) ≡ pick b (x ∷ between from to xs) (between from to xs) ++ between from to ys
      by-test true e = rw e
      by-test false e = e

  -- a run inside a run
  pub between-inside : (lo hi : ℕ) → lo ≤ from → to ≤ hi → (xs : List ℕ) → between from to (between lo hi xs) ≡ between from to xs
  unfolding between
  between-inside lo hi p q [] = refl
  between-inside lo hi p q (x ∷ xs) = by-test (not (ltb (place_in x) from) && ltb (place_in x) to) refl (between-inside lo hi p q xs)
    where
      outer : List ℕ
      outer = between lo hi xs

      both : (a b : Bool) → (not a && b) ≡ true → (a ≡ false) × (b ≡ true)
      both true b e = absurd (true≢false (sym e))
      both false b e = (refl, e)

      by-outer : (a : Bool) → (not (ltb (place_in x) from) && ltb (place_in x) to) ≡ false → between from to outer ≡ between from to xs → between from to (pick a (x ∷ outer) outer) ≡ between from to xs
      by-outer true e r = rw (e, r)
      by-outer false e r = r

      by-test : (a : Bool) → (not (ltb (place_in x) from) && ltb (place_in x) to) ≡ a → between from to outer ≡ between from to xs
          → between from to (pick (not (ltb (place_in x) lo) && ltb (place_in x) hi) (x ∷ outer) outer) ≡ pick a (x ∷ between from to xs) (between from to xs)
      by-test true e r =
          let w = both (ltb (place_in x) from) (ltb (place_in x) to) e in
          rw (le-ltb (place_in x) lo (omega (arith, ltb-false (place_in x) from w.0)), lt-ltb (place_in x) hi (omega (arith, ltb-true (place_in x) to w.1)), e, r)
      by-test false e r = by-outer (not (ltb (place_in x) lo) && ltb (place_in x) hi) e r

  -- all of them
  pub all-between : {lo hi : ℕ} (l : List Item) → Lies lo hi l → hi ≤ 1048576 → from ≤ lo → hi ≤ to → between from to (kept_numbers l) ≡ kept_numbers l
  unfolding Lies kept_numbers between
  all-between [] h low p q = refl
  all-between {lo} {hi} (i ∷ l) h low p q = by-test (is plain i.what) (all-between l h.1 low p q)
    where
      by-test : (x : Bool) → between from to (kept_numbers l) ≡ kept_numbers l → between from to (pick x (kept_numbers l) (number_of i ∷ kept_numbers l)) ≡ pick x (kept_numbers l) (number_of i ∷ kept_numbers l)
      by-test true e = e
      by-test false e = rw (place-back i (omega (arith, h.0)), le-ltb i.place from (omega (arith, h.0)), lt-ltb i.place to (omega (arith, h.0)), e)

  -- none of them
  none_between : {lo hi : ℕ} (l : List Item) → Lies lo hi l → hi ≤ 1048576 → (hi ≤ from) ⊎ (to ≤ lo) → between from to (kept_numbers l) ≡ []
  unfolding Lies kept_numbers between
  none_between [] h low p = refl
  none_between {lo} {hi} (i ∷ l) h low p = by-test (is plain i.what) p (none_between l h.1 low p)
    where
      by-test : (x : Bool) → (hi ≤ from) ⊎ (to ≤ lo) → between from to (kept_numbers l) ≡ [] → between from to (pick x (kept_numbers l) (number_of i ∷ kept_numbers l)) ≡ []
      by-test true q e = e
      by-test false (inl q) e = rw (place-back i (omega (arith, h.0)), lt-ltb i.place from (omega (arith, h.0))) e
      by-test false (inr q) e = rw (place-back i (omega (arith, h.0)), le-ltb i.place to (omega (arith, h.0)), and-false (not (ltb i.place from))) e

  -- of two lists, the first, or the second
  pub between_first : {mid hi : ℕ} (l m : List Item) → Lies mid hi m → hi ≤ 1048576 → to ≤ mid → between from to (kept_numbers (l ++ m)) ≡ between from to (kept_numbers l)
  between_first l m h low p = rw (kept_append l m, between-append (kept_numbers l) (kept_numbers m), none_between m h low (inr p), append-nil (between from to (kept_numbers l)))

  pub between-second : (lo : ℕ) {mid : ℕ} (l m : List Item) → Lies lo mid l → mid ≤ 1048576 → mid ≤ from → between from to (kept_numbers (l ++ m)) ≡ between from to (kept_numbers m)
  between-second lo l m h low p = rw (kept_append l m, between-append (kept_numbers l) (kept_numbers m), none_between l h low (inl p))

-- 2. A list of nodes

items_lie : (b : ℕ) (s : List ℕ) → Lies b (b + length s) (items_in b s)
unfolding items_in items_ended Lies
items_lie b s = by_end (ends (nodes s))
  where
    by_end : (e : Ending) → Lies b (b + length s) (items_ended e (met b (nodes s)))
    by_end well = reading-lies nodes nodes-places b s
    by_end (refused r) = tt

-- those of a part of some bytes lie in its range
module _ (at end : ℕ) (s : List ℕ) (ordered : at ≤ end) (within : end ≤ length s) where
  part_lies : (k : Reading) → Places k → Lies at end (items_of at (k (part at end s)))
  part_lies k g = lies-wider (items_of at (k (part at end s))) (omega arith) (omega (arith, part_length at end s within)) (reading-lies k g at (part at end s))

  pub nodes-lie : Lies at end (items_in at (part at end s))
  nodes-lie = lies-wider (items_in at (part at end s)) (omega arith) (omega (arith, part_length at end s within)) (items_lie at (part at end s))

  pub stitches-lie-there : ends (stitches (part at end s)) ≡ well → Lies at end (each stitch_items (pieces_in stitch_in at (part at end s)))
  stitches-lie-there good = rw (← pieces-items stitch stitch_in stitch_items stitch-items at (part at end s) good) (part_lies stitches (pieces-places stitch stitch-places))

  pub flows-lie-there : ends (flows (part at end s)) ≡ well → Lies at end (each flow_items (flows_in at (part at end s)))
  flows-lie-there good = rw (← flows-items at (part at end s) good) (part_lies flows flows-places)

-- 3. A file

module _ (c : Sections) (s : List ℕ) (o : InOrder c s) (good : ends (flows (part c.flows c.end s)) ≡ well) where
  flows-lie : Lies c.flows c.end (each flow_items (story_in c s).flows)
  unfolding story_in
  flows-lie = flows-lie-there c.flows c.end s o.flows (omega (arith, o)) good

  root-lies : Lies c.root c.flows (story_in c s).root
  unfolding story_in
  root-lies = nodes-lie c.root c.flows s o.root (omega (arith, o))

  -- the root's
  pub root-run : between c.root c.flows (kept_numbers (story_items (story_in c s))) ≡ kept_numbers (story_in c s).root
  unfolding story_items
  root-run =
      between_first c.root c.flows (story_in c s).root (each flow_items (story_in c s).flows) flows-lie (omega (arith, o)) (omega arith)
      ∙ all-between c.root c.flows (story_in c s).root root-lies (omega (arith, o)) (omega arith) (omega arith)

  -- those of the flows
  pub flows_run : (from to : ℕ) → c.flows ≤ from → between from to (kept_numbers (story_items (story_in c s))) ≡ between from to (kept_numbers (each flow_items (story_in c s).flows))
  unfolding story_items
  flows_run from to p = between-second from to c.root (story_in c s).root (each flow_items (story_in c s).flows) root-lies (omega (arith, o)) p
