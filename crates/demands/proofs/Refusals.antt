-- The definition of reading refuses with a number exactly in the case that is stated for it: `unreadable-exactly`, `readable-exactly`. Assumes nothing.
use Rattle.std.specs.Prelude.{Result, Ok, Err}
use mathlib.Core.Path.{◌≡◌, refl, sym, ◌∙◌}
use mathlib.Core.Bool.{Bool, true, false, not, ◌&&◌, ◌||◌, true≢false}
use mathlib.Core.List.{List, [], ◌∷◌}
use mathlib.Core.Logic.{◌⊎◌, inl, inr, ◌↔◌}
use Prim.Native.Nat.{ℕ, suc, ◌-◌, ◌≤◌, ◌<◌}
use native.Mathlib.Omega.{arith}
use lib.Dec.{T, ltb, eqb, eqb→eq}
use lib.ListN.{length, get_or, drop}
use lib.Seq.{drop-cons, drop-length}
use borrow.Author.Tests.{ltb-true, ltb-false, eqb-true, lt-ltb, le-ltb, eq-eqb}
use Rattle.names.proofs.Bools.{and_left, and_right}
use Rattle.fields.specs.declared.Refusal.{Refusal}
use Rattle.fields.specs.declared.Refusal.TheVariants.{Length, Mark, Starts}
use Rattle.fields.specs.Refusals.{refusal_number}
use Rattle.records.specs.Trace.{Ending, well, refused, ends}
use Rattle.story.specs.declared.Sections.{Sections}
use Rattle.story.specs.File.{bad_length, marked, start_at, ordered, sections_of, opened_of, sections_read, read_ended, read_at, read_of}
use Rattle.story.proofs.Endings.{then_ends}
use Rattle.story.proofs.Opening.{sections-end}
use Rattle.rules.specs.Reader.{Readable}
use Rattle.demands.specs.Refusals.{GoodLength, Marked, start, GoodStarts, read_globals, read_externals, read_root, read_flows, Meets, FirstMet, in_globals, in_externals, in_root, in_flows, Unreadable, refusal_1, refusal_2, refusal_3, refusals_4_to_6, NoneApplies}

-- 1. The three tests on the trailer, by what is stated

-- the byte that stands so many before the end
abbrev byte : List ℕ → ℕ → ℕ
byte file k = get_or file (length file - k) 0

-- a test that passes
passed : {b : Bool} → b ≡ true → T b
passed e = rw e tt

module _ (file : List ℕ) where
  bad-length : (length file < 20) ⊎ (1048576 < length file) → bad_length file ≡ true
  bad-length (inl h) = rw (lt-ltb (length file) 20 h)
  bad-length (inr h) = second (ltb (length file) 20) (lt-ltb 1048576 (length file) h)
    where
      second : (a : Bool) {b : Bool} → b ≡ true → a || b ≡ true
      second true e = refl
      second false e = e

  good_length : GoodLength file → bad_length file ≡ false
  good_length h = rw (le-ltb (length file) 20 h.not_under, le-ltb 1048576 (length file) h.not_over)

  length-told : (a b : Bool) → ltb (length file) 20 ≡ a → ltb 1048576 (length file) ≡ b
      → ((a || b ≡ true) × ((length file < 20) ⊎ (1048576 < length file))) ⊎ ((a || b ≡ false) × GoodLength file)
  length-told true b p q = inl (refl, inl (ltb-true (length file) 20 p))
  length-told false true p q = inl (refl, inr (ltb-true 1048576 (length file) q))
  length-told false false p q = inr (refl, record { not_under = ltb-false (length file) 20 p; not_over = ltb-false 1048576 (length file) q })

  -- the last four bytes, one by one
  last-bytes : 20 ≤ length file → drop (length file - 4) file ≡ byte file 4 ∷ byte file 3 ∷ byte file 2 ∷ byte file 1 ∷ []
  last-bytes h =
      let a : suc (length file - 4) ≡ length file - 3 = omega arith in
      let b : suc (length file - 3) ≡ length file - 2 = omega arith in
      let c : suc (length file - 2) ≡ length file - 1 = omega arith in
      let d : suc (length file - 1) ≡ length file = omega arith in
      let first = drop-cons file (length file - 4) 0 (omega arith) in
      let second = drop-cons file (length file - 3) 0 (omega arith) in
      let third = drop-cons file (length file - 2) 0 (omega arith) in
      let fourth = drop-cons file (length file - 1) 0 (omega arith) in
      rw (first, a, second, b, third, c, fourth, d, drop-length file)

  good-mark : GoodLength file → Marked file → marked file ≡ true
  unfolding marked
  good-mark h m =
      let all = last-bytes h.not_under in
      let a : byte file 4 ≡ 73 = cc in
      let b : byte file 3 ≡ 75 = cc in
      let c : byte file 2 ≡ 1 = cc in
      let d : byte file 1 ≡ 0 = cc in
      rw (eq-eqb (byte file 4) 73 a, eq-eqb (byte file 3) 75 b, eq-eqb (byte file 2) 1 c, eq-eqb (byte file 1) 0 d)

  mark-told : GoodLength file → marked file ≡ true → Marked file
  unfolding marked
  mark-told h e =
      let t = passed e in
      let ab = eqb (byte file 4) 73 && eqb (byte file 3) 75 in
      let abc = ab && eqb (byte file 2) 1 in
      let first = eqb→eq (byte file 4) 73 (and_left (eqb (byte file 4) 73) (eqb (byte file 3) 75) (and_left ab (eqb (byte file 2) 1) (and_left abc (eqb (byte file 1) 0) t))) in
      let second = eqb→eq (byte file 3) 75 (and_right (eqb (byte file 4) 73) (eqb (byte file 3) 75) (and_left ab (eqb (byte file 2) 1) (and_left abc (eqb (byte file 1) 0) t))) in
      let third = eqb→eq (byte file 2) 1 (and_right ab (eqb (byte file 2) 1) (and_left abc (eqb (byte file 1) 0) t)) in
      let fourth = eqb→eq (byte file 1) 0 (and_right abc (eqb (byte file 1) 0) t) in
      last-bytes h.not_under ∙ cc

  good-starts : GoodStarts file → ordered file ≡ true
  unfolding start_at
  good-starts h =
      rw (eq-eqb (start file 0) 0 h.first, le-ltb (start file 2) (start file 1) h.third, le-ltb (start file 3) (start file 2) h.fourth, le-ltb (length file - 20) (start file 3) h.last)

  starts-told : ordered file ≡ true → GoodStarts file
  unfolding start_at
  starts-told e = by_tests (eqb (start file 0) 0) (ltb (start file 2) (start file 1)) (ltb (start file 3) (start file 2)) (ltb (length file - 20) (start file 3)) refl refl refl refl e
    where
      by_tests : (a b c d : Bool) → eqb (start file 0) 0 ≡ a → ltb (start file 2) (start file 1) ≡ b → ltb (start file 3) (start file 2) ≡ c → ltb (length file - 20) (start file 3) ≡ d
          → a && not b && not c && not d ≡ true → GoodStarts file
      by_tests true false false false p q r t e =
          let zero-first = eqb-true (start file 0) 0 p in
          record {
            first = zero-first;
            second = omega (arith, zero-first);
            third = ltb-false (start file 2) (start file 1) q;
            fourth = ltb-false (start file 3) (start file 2) r;
            last = ltb-false (length file - 20) (start file 3) t;
          }
      by_tests false b c d p q r t e = let z : ◌≡◌ {A = ℕ} 0 1 = cc in absurd (omega arith)
      by_tests true true c d p q r t e = let z : ◌≡◌ {A = ℕ} 0 1 = cc in absurd (omega arith)
      by_tests true false true d p q r t e = let z : ◌≡◌ {A = ℕ} 0 1 = cc in absurd (omega arith)
      by_tests true false false true p q r t e = let z : ◌≡◌ {A = ℕ} 0 1 = cc in absurd (omega arith)

  -- 2. The sections, front to back

  -- how reading the four sections ends
  sections-ended : GoodStarts file → ends (sections_read (sections_of file) file)
      ≡ then_ends (ends (read_globals file)) (then_ends (ends (read_externals file)) (then_ends (ends (read_root file)) (ends (read_flows file))))
  unfolding start_at
  sections-ended h = rw h.first (sections-end (sections_of file) file)

  -- a refusal that is first met is the end
  met-ends : {n : ℕ} → GoodStarts file → FirstMet file n → Meets (sections_read (sections_of file) file) n
  unfolding then_ends
  met-ends h (in_globals (r, e, k)) = (r, sections-ended h ∙ rw e, k)
  met-ends h (in_externals a (r, e, k)) = (r, sections-ended h ∙ rw (a, e), k)
  met-ends h (in_root a b (r, e, k)) = (r, sections-ended h ∙ rw (a, b, e), k)
  met-ends h (in_flows a b c (r, e, k)) = (r, sections-ended h ∙ rw (a, b, c, e), k)

  -- where the end is a refusal, it is the first met
  first-met : GoodStarts file → (r : Refusal) → ends (sections_read (sections_of file) file) ≡ refused r → FirstMet file (refusal_number r)
  unfolding then_ends
  first-met h r e =
      by-ends (ends (read_globals file)) (ends (read_externals file)) (ends (read_root file)) (ends (read_flows file)) refl refl refl refl (sym (sections-ended h) ∙ e)
    where
      by-ends : (a b c d : Ending) → ends (read_globals file) ≡ a → ends (read_externals file) ≡ b → ends (read_root file) ≡ c → ends (read_flows file) ≡ d
          → then_ends a (then_ends b (then_ends c d)) ≡ refused r → FirstMet file (refusal_number r)
      by-ends (refused x) b c d p q s t e = let same : x ≡ r = cc in in_globals (x, p, rw same)
      by-ends well (refused x) c d p q s t e = let same : x ≡ r = cc in in_externals p (x, q, rw same)
      by-ends well well (refused x) d p q s t e = let same : x ≡ r = cc in in_root p q (x, s, rw same)
      by-ends well well well (refused x) p q s t e = let same : x ≡ r = cc in in_flows p q s (x, t, rw same)
      by-ends well well well well p q s t e = let z : ◌≡◌ {A = ℕ} 0 1 = cc in absurd (omega arith)

  -- 3. Reading, by the tests on the trailer

  read_length : bad_length file ≡ true → read_of file ≡ Err Length
  unfolding read_of read_at opened_of
  read_length e = rw e

  read-mark : bad_length file ≡ false → marked file ≡ false → read_of file ≡ Err Mark
  unfolding read_of read_at opened_of
  read-mark e m = rw (e, m)

  read-starts : bad_length file ≡ false → marked file ≡ true → ordered file ≡ false → read_of file ≡ Err Starts
  unfolding read_of read_at opened_of
  read-starts e m o = rw (e, m, o)

  read-sections : bad_length file ≡ false → marked file ≡ true → ordered file ≡ true
      → read_of file ≡ read_ended (ends (sections_read (sections_of file) file)) (Ok (sections_of file))
  unfolding read_of read_at opened_of
  read-sections e m o = rw (e, m, o)

  -- what is stated is what reading answers
  reads_so : {n : ℕ} → Unreadable file n → (r : Refusal) × (read_of file ≡ Err r) × (refusal_number r ≡ n)
  unfolding refusal_number read_ended
  reads_so (refusal_1 h) = (Length, read_length (bad-length h), refl)
  reads_so (refusal_2 l m) = (Mark, read-mark (good_length l) (not-marked (marked file) refl), refl)
    where
      not-marked : (b : Bool) → marked file ≡ b → b ≡ false
      not-marked false e = refl
      not-marked true e = absurd (m (mark-told l e))
  reads_so (refusal_3 l m s) = (Starts, read-starts (good_length l) (good-mark l m) (not-ordered (ordered file) refl), refl)
    where
      not-ordered : (b : Bool) → ordered file ≡ b → b ≡ false
      not-ordered false e = refl
      not-ordered true e = absurd (s (starts-told e))
  reads_so (refusals_4_to_6 l m s f) =
      let end = met-ends s f in
      (end.0, read-sections (good_length l) (good-mark l m) (good-starts s) ∙ rw end.1, end.2)

  -- what reading answers is what is stated
  stated-so : (r : Refusal) → read_of file ≡ Err r → Unreadable file (refusal_number r)
  unfolding refusal_number read_ended
  stated-so r e = by_length (length-told (ltb (length file) 20) (ltb 1048576 (length file)) refl refl)
    where
      by_end : (l : GoodLength file) → Marked file → (s : GoodStarts file) → (x : Ending) → ends (sections_read (sections_of file) file) ≡ x
          → read_of file ≡ read_ended x (Ok (sections_of file)) → Unreadable file (refusal_number r)
      by_end l m s (refused y) q f = let same : y ≡ r = cc in refusals_4_to_6 l m s (first-met s r (rw same at q))
      by_end l m s well q f = let z : ◌≡◌ {A = ℕ} 0 1 = cc in absurd (omega arith)

      by-starts : (l : GoodLength file) → Marked file → (b : Bool) → ordered file ≡ b → Unreadable file (refusal_number r)
      by-starts l m true q =
          let s = starts-told q in
          by_end l m s (ends (sections_read (sections_of file) file)) refl (read-sections (good_length l) (good-mark l m) q)
      by-starts l m false q =
          let same : Starts ≡ r = cc (read-starts (good_length l) (good-mark l m) q) in
          rw (← same) (refusal_3 l m (λ s. let z : ◌≡◌ {A = Bool} true false = sym (good-starts s) ∙ q in absurd (true≢false z)))

      by-mark : (l : GoodLength file) → (b : Bool) → marked file ≡ b → Unreadable file (refusal_number r)
      by-mark l true q = by-starts l (mark-told l q) (ordered file) refl
      by-mark l false q =
          let same : Mark ≡ r = cc (read-mark (good_length l) q) in
          rw (← same) (refusal_2 l (λ m. absurd (true≢false (sym (good-mark l m) ∙ q))))

      by_length : ((bad_length file ≡ true) × ((length file < 20) ⊎ (1048576 < length file))) ⊎ ((bad_length file ≡ false) × GoodLength file) → Unreadable file (refusal_number r)
      by_length (inl (q, h)) = let same : Length ≡ r = cc (read_length q) in rw (← same) (refusal_1 h)
      by_length (inr (q, l)) = by-mark l (marked file) refl

-- REFUSALS 1 TO 6: reading refuses with the number exactly in its stated case
pub unreadable-exactly : (file : List ℕ) (n : ℕ) → ((r : Refusal) × (read_of file ≡ Err r) × (refusal_number r ≡ n)) ↔ Unreadable file n
unreadable-exactly file n = (λ p. rw p.2 at (stated-so file p.0 p.1), reads_so file)

-- a file is readable exactly when none of them applies
pub readable-exactly : (file : List ℕ) → Readable file ↔ NoneApplies file
readable-exactly file = (λ r n u. let p = reads_so file u in let z : ◌≡◌ {A = ℕ} 0 1 = cc (r.told, p.1) in absurd (omega arith), by-opened (read_of file) refl)
  where
    by-opened : (o : Result Sections Refusal) → read_of file ≡ o → NoneApplies file → Readable file
    by-opened (Ok c) e h = record { sections = c; told = e }
    by-opened (Err r) e h = absurd (h (refusal_number r) (stated-so file r e))

-- the sections of a readable file are those that its trailer has
pub sections-read : (file : List ℕ) (c : Sections) → read_of file ≡ Ok c → c ≡ sections_of file
unfolding read_ended
sections-read file c told = by_tests (bad_length file) (marked file) (ordered file) refl refl refl
  where
    by_end : (x : Ending) → read_of file ≡ read_ended x (Ok (sections_of file)) → c ≡ sections_of file
    by_end well e = cc
    by_end (refused r) e = let z : ◌≡◌ {A = ℕ} 0 1 = cc in absurd (omega arith)

    by_tests : (a b d : Bool) → bad_length file ≡ a → marked file ≡ b → ordered file ≡ d → c ≡ sections_of file
    by_tests true b d p q s = let z : ◌≡◌ {A = ℕ} 0 1 = cc (read_length file p) in absurd (omega arith)
    by_tests false false d p q s = let z : ◌≡◌ {A = ℕ} 0 1 = cc (read-mark file p q) in absurd (omega arith)
    by_tests false true false p q s = let z : ◌≡◌ {A = ℕ} 0 1 = cc (read-starts file p q s) in absurd (omega arith)
    by_tests false true true p q s = by_end (ends (sections_read (sections_of file) file)) (read-sections file p q s)
