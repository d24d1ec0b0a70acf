-- The whole list: where the limit is not reached, every breach is counted, and written where there is room. Assumes nothing.
use mathlib.Core.Path.{◌≡◌, refl, sym, ap, ◌∙◌}
use mathlib.Core.Bool.{Bool, true, false}
use mathlib.Core.List.{List, [], ◌∷◌}
use Prim.Native.Nat.{ℕ, suc, ◌+◌, ◌*◌, ◌≤◌, ◌<◌}
use native.Mathlib.Nat.{add-zero, zero-add, mod-eq_of_lt}
use native.Mathlib.Omega.{arith}
use lib.Dec.{leb}
use lib.ListN.{length}
use lib.Seq.{sets, length-sets, sets-eq}
use borrow.Author.Tests.{leb-true, leb-false, lt-leb}
use Rattle.names.specs.Words.{each}
use Rattle.records.specs.Buffers.{overlay}
use Rattle.story.specs.Story.{Story}
use Rattle.rules.specs.Rules.{number}
use Rattle.rules.specs.Steps.{runs, Breach, breaches}
use Rattle.steps.specs.Heard.{fresh, four, four_of, Heard, heard, full, added, hear_all, hear_runs}
use Rattle.steps.proofs.Hearing.{hear-next, hear-full, written-room}
use Rattle.steps.proofs.Runs.{unnumbered, runs-all}

-- 1. How many are heard

-- not full where there is room below the limit
room : (h : Heard) → h.tally.count < h.tally.limit → full h ≡ false
room h l = lt-leb h.tally.limit h.tally.count l

pub all-count : (h : Heard) (bs : List Breach) → h.tally.count + length bs ≤ h.tally.limit → (hear_all h bs).tally.count ≡ h.tally.count + length bs
unfolding hear_all
all-count h [] l = sym (add-zero h.tally.count)
all-count h (b ∷ bs) l = ap (λ (g : Heard). g.tally.count) (hear-next h (room h (omega arith)) b bs) ∙ all-count (added h b) bs (omega arith) ∙ omega arith

-- no more than the limit
pub all-limit : (h : Heard) (bs : List Breach) → h.tally.count ≤ h.tally.limit → h.tally.limit ≤ h.tally.count + length bs → (hear_all h bs).tally.count ≡ h.tally.limit
unfolding hear_all
all-limit h [] l m = omega arith
all-limit h (b ∷ bs) l m = by-test (full h) refl (λ k. all-limit (added h b) bs k (omega arith))
  where
    by-test : (f : Bool) → full h ≡ f → (h.tally.count + 1 ≤ h.tally.limit → (hear_all (added h b) bs).tally.count ≡ h.tally.limit) → (hear_all h (b ∷ bs)).tally.count ≡ h.tally.limit
    by-test true e rest = rw (hear-full h e (b ∷ bs)) (omega (arith, leb-true h.tally.limit h.tally.count e))
    by-test false e rest = ap (λ (g : Heard). g.tally.count) (hear-next h e b bs) ∙ rest (omega (arith, leb-false h.tally.limit h.tally.count e))

-- 2. What is written

pub all_list : (h : Heard) (bs : List Breach) → h.tally.count + length bs ≤ h.tally.limit → 4 * (h.tally.count + length bs) ≤ length h.list
    → (hear_all h bs).list ≡ sets h.list (4 * h.tally.count) (each four_of bs)
unfolding hear_all
all_list h [] l m = refl
all_list h (b ∷ bs) l m =
    let n = h.tally.count in
    let more : 4 * (n + 1) ≡ suc (suc (suc (suc (4 * n)))) = omega arith in
    let w = written-room n (number b.rule) b.instance b.place h.list (omega arith) in
    let same : length (added h b).list ≡ length h.list = ap length w ∙ length-sets h.list (4 * n) (four_of b) in
    ap (λ (g : Heard). g.list) (hear-next h (room h (omega arith)) b bs) ∙ all_list (added h b) bs (omega arith) (omega arith) ∙ rw (w, more)

-- the numbers of so many breaches
length-fours : (bs : List Breach) → length (each four_of bs) ≡ 4 * length bs
length-fours [] = refl
length-fours (b ∷ bs) = omega (arith, length-fours bs)

-- 3. THE LIST of a story's breaches

module _ (s : Story) (limit : ℕ) (list : List ℕ) (fits : length (runs s) ≤ 4294967295) where
  -- the runs of a story have all its breaches
  heard-breaches : unnumbered (hear_runs s (heard (fresh limit) list) (runs s)) ≡ unnumbered (hear_all (heard (fresh limit) list) (breaches s))
  unfolding breaches
  heard-breaches = runs-all s (heard (fresh limit) list) (runs s) (omega arith)

  pub heard-count : length (breaches s) ≤ limit → (hear_runs s (heard (fresh limit) list) (runs s)).tally.count ≡ length (breaches s)
  heard-count l =
      ap (λ (h : Heard). h.tally.count) heard-breaches ∙ all-count (heard (fresh limit) list) (breaches s) (omega arith) ∙ zero-add (length (breaches s))

  -- where fewer than the limit were heard, these are all
  pub heard-below : (hear_runs s (heard (fresh limit) list) (runs s)).tally.count < limit → length (breaches s) ≤ limit
  heard-below l = by-test (leb (length (breaches s)) limit) refl
    where
      by-test : (b : Bool) → leb (length (breaches s)) limit ≡ b → length (breaches s) ≤ limit
      by-test true e = leb-true (length (breaches s)) limit e
      by-test false e =
          let m = leb-false (length (breaches s)) limit e in
          absurd (omega (arith, ap (λ (h : Heard). h.tally.count) heard-breaches, all-limit (heard (fresh limit) list) (breaches s) (omega arith) (omega arith)))

  pub heard-list : length (breaches s) ≤ limit → 4 * length (breaches s) ≤ length list
      → (hear_runs s (heard (fresh limit) list) (runs s)).list ≡ overlay (each four_of (breaches s)) list
  unfolding overlay
  heard-list l m =
      let k : 0 + length (each four_of (breaches s)) ≤ length list = omega (arith, length-fours (breaches s)) in
      ap (λ (h : Heard). h.list) heard-breaches
      ∙ all_list (heard (fresh limit) list) (breaches s) (omega arith) (omega arith)
      ∙ (rw (zero-add (length (each four_of (breaches s)))) at (sets-eq (each four_of (breaches s)) list 0 k))

-- numbers of 32 bits are written as they are
pub four-narrow : (rule : ℕ) {instance place : ℕ} → instance < 4294967296 → place < 4294967296 → four rule instance place ≡ rule ∷ instance ∷ place ∷ 0 ∷ []
four-narrow rule h k = rw (mod-eq_of_lt h, mod-eq_of_lt k)
