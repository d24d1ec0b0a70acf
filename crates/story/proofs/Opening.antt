-- The file: its sections stand in order, how reading them ends, and what it answers in numbers. Assumes nothing.
use Rattle.std.specs.Prelude.{Result, Ok, Err}
use mathlib.Core.Path.{◌≡◌, refl, sym, ◌∙◌, ap}
use mathlib.Core.List.{List, []}
use mathlib.Core.Bool.{Bool, true, false, not, ◌&&◌, ◌||◌}
use Prim.Native.Nat.{ℕ, ◌-◌}
use native.Mathlib.Omega.{arith}
use lib.Dec.{ltb, eqb}
use lib.ListN.{length, get_or}
use borrow.Author.Tests.{ltb-false}
use Rattle.fields.specs.declared.Refusal.{Refusal}
use Rattle.fields.specs.declared.Refusal.TheVariants.{Length, Mark, Starts}
use Rattle.fields.specs.Bytes.{pick}
use Rattle.fields.proofs.Refusals.{by_number, refusal-at}
use Rattle.records.specs.Trace.{Ending, well, refused, ends}
use Rattle.records.specs.Grammar.{nodes}
use Rattle.story.specs.declared.Sections.{Sections}
use Rattle.story.specs.Flows.{names, flows, part}
use Rattle.story.specs.File.{marked, start_at, sections_of, InOrder, opened_of, sections_read, read_ended, read_at, read_of}
use Rattle.story.specs.Results.{ReadResult, read_result_of, answer_of, reading_of}
use Rattle.story.specs.Results as result
use Rattle.story.proofs.Endings.{then_ends, ends-then, ends-shift}

-- 1. The trailer

-- the refusals by their tests
abbrev tested : Bool → Bool → Bool → Bool → Bool → Bool → Bool → List ℕ → Result Sections Refusal
tested short long mark first second third fourth s =
    pick (short || long) (Err Length)
    (pick (not mark) (Err Mark)
    (pick (not (first && not second && not third && not fourth)) (Err Starts) (Ok (sections_of s))))

in_order : (s : List ℕ) (c : Sections) (short long mark first second third fourth : Bool)
    → ltb (length s) 20 ≡ short → ltb 1048576 (length s) ≡ long → ltb (start_at s 8) (start_at s 4) ≡ second → ltb (start_at s 12) (start_at s 8) ≡ third → ltb (length s - 20) (start_at s 12) ≡ fourth
    → tested short long mark first second third fourth s ≡ Ok c → InOrder c s
in_order s c false false true true false false false p q r t u e =
    let same : sections_of s ≡ c = cc in
    rw (← same) (record {
      externals = ltb-false (start_at s 8) (start_at s 4) r;
      root = ltb-false (start_at s 12) (start_at s 8) t;
      flows = ltb-false (length s - 20) (start_at s 12) u;
      trailer = omega (arith, ltb-false (length s) 20 p);
      short = ltb-false 1048576 (length s) q;
    })
in_order s c true long mark first second third fourth p q r t u e = let z : ◌≡◌ {A = ℕ} 0 1 = cc in absurd (omega arith)
in_order s c false true mark first second third fourth p q r t u e = let z : ◌≡◌ {A = ℕ} 0 1 = cc in absurd (omega arith)
in_order s c false false false first second third fourth p q r t u e = let z : ◌≡◌ {A = ℕ} 0 1 = cc in absurd (omega arith)
in_order s c false false true false second third fourth p q r t u e = let z : ◌≡◌ {A = ℕ} 0 1 = cc in absurd (omega arith)
in_order s c false false true true true third fourth p q r t u e = let z : ◌≡◌ {A = ℕ} 0 1 = cc in absurd (omega arith)
in_order s c false false true true false true fourth p q r t u e = let z : ◌≡◌ {A = ℕ} 0 1 = cc in absurd (omega arith)
in_order s c false false true true false false true p q r t u e = let z : ◌≡◌ {A = ℕ} 0 1 = cc in absurd (omega arith)

-- the sections that the trailer tells stand in order
pub opened-in-order : (s : List ℕ) (c : Sections) {r : Result Sections Refusal} → r ≡ opened_of s → r ≡ Ok c → InOrder c s
unfolding opened_of
opened-in-order s c p q =
    in_order s c (ltb (length s) 20) (ltb 1048576 (length s)) (marked s) (eqb (start_at s 0) 0) (ltb (start_at s 8) (start_at s 4)) (ltb (start_at s 12) (start_at s 8)) (ltb (length s - 20) (start_at s 12)) refl refl refl refl refl (sym p ∙ q)

-- what the trailer refuses is refused
pub opened-refused : (file : List ℕ) {r : Result Sections Refusal} {x : Refusal} → r ≡ opened_of file → r ≡ Err x → read_of file ≡ Err x
unfolding read_of read_at
opened-refused file p q = rw (← p, q)

-- 2. The sections

module _ (c : Sections) (s : List ℕ) where
  pub sections-end : ends (sections_read c s)
      ≡ then_ends (ends (names (part 0 c.externals s))) (then_ends (ends (names (part c.externals c.root s)))
      (then_ends (ends (nodes (part c.root c.flows s))) (ends (flows (part c.flows c.end s)))))
  unfolding sections_read
  sections-end = simp (ends-then, ends-shift)

-- a readable file's sections end well
module _ (file : List ℕ) (c : Sections) (e : read_of file ≡ Ok c) where
  ended_at : (x : Ending) (d : Sections) → read_ended x (Ok d) ≡ Ok c → (x ≡ well) × (d ≡ c)
  unfolding read_ended
  ended_at well d q = (refl, cc)
  ended_at (refused r) d q = let z : ◌≡◌ {A = ℕ} 0 1 = cc in absurd (omega arith)

  opened-at : (x : Result Sections Refusal) → read_at x file ≡ Ok c → ends (sections_read c file) ≡ well
  unfolding read_at
  opened-at (Ok d) q = let h = ended_at (ends (sections_read d file)) d q in rw (← h.1) h.0
  opened-at (Err r) q = let z : ◌≡◌ {A = ℕ} 0 1 = cc in absurd (omega arith)

  pub sections-well : ends (sections_read c file) ≡ well
  unfolding read_of
  sections-well = opened-at (opened_of file) e

-- 3. In numbers

-- what was answered with a result
read_of_result : ReadResult → Result (Sections × ℕ × ℕ) Refusal
read_of_result (result.refused n) = get_or (by_number Err (Err Length) []) n (Err Length)
read_of_result (result.sections externals root flows end kept all) = Ok ((record { externals = externals; root = root; flows = flows; end = end }), kept, all)

back : (r : Result (Sections × ℕ × ℕ) Refusal) → read_of_result (read_result_of r) ≡ r
unfolding read_of_result read_result_of
back (Err r) = refusal-at Err (Err Length) [] r
back (Ok (c, kept, all)) = refl

-- the numbers tell what was answered
pub read_answer : (r : Result (Sections × ℕ × ℕ) Refusal) (file : List ℕ) → read_result_of r ≡ reading_of file → r ≡ answer_of (read_of file) file
unfolding reading_of
read_answer r file e = sym (back r) ∙ (ap read_of_result e ∙ back (answer_of (read_of file) file))
