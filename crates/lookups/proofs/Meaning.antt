-- What the answers of a lookup say: an entry matches, and Missing says that nothing does. Assumes nothing.
use Rattle.std.specs.Prelude.{Option, Some, None}
use mathlib.Core.Path.{◌≡◌, refl, sym, ◌∙◌, ap}
use mathlib.Core.Bool.{Bool, true, false, ◌||◌}
use mathlib.Core.List.{List, [], ◌∷◌}
use mathlib.Core.Logic.{◌↔◌}
use Prim.Native.Nat.{ℕ}
use native.Mathlib.Omega.{arith}
use Rattle.fields.specs.Bytes.{pick}
use Rattle.names.specs.Words.{Bytes, same, any, one_of, ends}
use Rattle.names.specs.Reserved.{END, DONE, back}
use Rattle.names.specs.Targets.{passes}
use Rattle.story.specs.Story.{Flow}
use Rattle.searches.specs.Called.{is_function}
use Rattle.symbols.specs.Fits.{answers}
use Rattle.symbols.specs.Rows.{first_of}
use Rattle.symbols.proofs.Searched.{FirstAt, first-at, first-none, none_first}
use Rattle.lookups.specs.Results.{Answer}
use Rattle.lookups.specs.Results as answer
use Rattle.lookups.specs.Lookup.{ending_answer, entry_of, target_of}
use Rattle.lookups.specs.Meaning.{Sought}

-- some spelling answers where one is the target or one ends in it
any-either : (t : Bytes) (l : List Bytes) → any (answers t) l ≡ any (same t) l || any (ends (46 ∷ t)) l
any-either t [] = refl
any-either t (x ∷ xs) = rw (any-either t xs) (by_tests (same t x) (ends (46 ∷ t) x) (any (same t) xs) (any (ends (46 ∷ t)) xs))
  where
    by_tests : (a b c d : Bool) → (a || b) || (c || d) ≡ (a || c) || (b || d)
    by_tests true b c d = refl
    by_tests false true true d = refl
    by_tests false true false d = refl
    by_tests false false c d = refl

both_false : (a b : Bool) → a || b ≡ false → (a ≡ false) × (b ≡ false)
both_false true b e = let z : ◌≡◌ {A = ℕ} 0 1 = cc in absurd (omega arith)
both_false false b e = (refl, e)

-- what was found, by the answer
exact-of : (x y : Option ℕ) (k : ℕ) → entry_of x y ≡ answer.exact k → x ≡ Some k
unfolding entry_of ending_answer
exact-of (Some m) y k e = let z : m ≡ k = cc in ap Some z
exact-of None (Some m) k e = let z : ◌≡◌ {A = ℕ} 0 1 = cc in absurd (omega arith)
exact-of None None k e = let z : ◌≡◌ {A = ℕ} 0 1 = cc in absurd (omega arith)

ending_of : (x y : Option ℕ) (k : ℕ) → entry_of x y ≡ answer.ending k → (x ≡ None) × (y ≡ Some k)
unfolding entry_of ending_answer
ending_of (Some m) y k e = let z : ◌≡◌ {A = ℕ} 0 1 = cc in absurd (omega arith)
ending_of None (Some m) k e = let z : m ≡ k = cc in (refl, ap Some z)
ending_of None None k e = let z : ◌≡◌ {A = ℕ} 0 1 = cc in absurd (omega arith)

missing-of : (x y : Option ℕ) → entry_of x y ≡ answer.missing → (x ≡ None) × (y ≡ None)
unfolding entry_of ending_answer
missing-of (Some m) y e = let z : ◌≡◌ {A = ℕ} 0 1 = cc in absurd (omega arith)
missing-of None (Some m) e = let z : ◌≡◌ {A = ℕ} 0 1 = cc in absurd (omega arith)
missing-of None None e = (refl, refl)

module _ (flows : List Flow) (spelled : List Bytes) (t : Bytes) where
  -- an answer that only an entry can give
  module _ (a : Answer) (p : answer.pass ≡ a → ⊥) (f : answer.function ≡ a → ⊥) (r : answer.reserved ≡ a → ⊥) where
    by-entry : target_of flows spelled t ≡ a → Sought flows t × (entry_of (first_of (same t) 0 spelled) (first_of (ends (46 ∷ t)) 0 spelled) ≡ a)
    unfolding target_of
    by-entry e = by_tests (passes t) (any (is_function t) flows) (one_of t (END ∷ DONE ∷ back ∷ [])) refl refl refl e
      where
        by_tests : (i j k : Bool) → passes t ≡ i → any (is_function t) flows ≡ j → one_of t (END ∷ DONE ∷ back ∷ []) ≡ k
            → pick i answer.pass (pick j answer.function (pick k answer.reserved (entry_of (first_of (same t) 0 spelled) (first_of (ends (46 ∷ t)) 0 spelled)))) ≡ a
            → Sought flows t × (entry_of (first_of (same t) 0 spelled) (first_of (ends (46 ∷ t)) 0 spelled) ≡ a)
        by_tests true j k x y z e = absurd (p e)
        by_tests false true k x y z e = absurd (f e)
        by_tests false false true x y z e = absurd (r e)
        by_tests false false false x y z e = (record { looked = x; no_function = y; free = z }, e)

  -- an exact answer names the first entry that is spelled so
  pub exact_matches : (k : ℕ) → target_of flows spelled t ≡ answer.exact k → Sought flows t × FirstAt (same t) 0 spelled k
  exact_matches k e =
      let d = by-entry (answer.exact k) (λ z. let w : ◌≡◌ {A = ℕ} 0 1 = cc in omega arith) (λ z. let w : ◌≡◌ {A = ℕ} 0 1 = cc in omega arith) (λ z. let w : ◌≡◌ {A = ℕ} 0 1 = cc in omega arith) e in
      (d.0, first-at (same t) 0 spelled k (exact-of (first_of (same t) 0 spelled) (first_of (ends (46 ∷ t)) 0 spelled) k d.1))

  -- an answer by an ending names the first entry that ends in "." and the target; none is spelled so
  pub ending_matches : (k : ℕ) → target_of flows spelled t ≡ answer.ending k → Sought flows t × (any (same t) spelled ≡ false) × FirstAt (ends (46 ∷ t)) 0 spelled k
  ending_matches k e =
      let d = by-entry (answer.ending k) (λ z. let w : ◌≡◌ {A = ℕ} 0 1 = cc in omega arith) (λ z. let w : ◌≡◌ {A = ℕ} 0 1 = cc in omega arith) (λ z. let w : ◌≡◌ {A = ℕ} 0 1 = cc in omega arith) e in
      let x = ending_of (first_of (same t) 0 spelled) (first_of (ends (46 ∷ t)) 0 spelled) k d.1 in
      (d.0, first-none (same t) 0 spelled x.0, first-at (ends (46 ∷ t)) 0 spelled k x.1)

  nothing : target_of flows spelled t ≡ answer.missing → Sought flows t × (any (answers t) spelled ≡ false)
  nothing e =
      let d = by-entry answer.missing (λ z. let w : ◌≡◌ {A = ℕ} 0 1 = cc in omega arith) (λ z. let w : ◌≡◌ {A = ℕ} 0 1 = cc in omega arith) (λ z. let w : ◌≡◌ {A = ℕ} 0 1 = cc in omega arith) e in
      let x = missing-of (first_of (same t) 0 spelled) (first_of (ends (46 ∷ t)) 0 spelled) d.1 in
      (d.0, any-either t spelled ∙ rw (first-none (same t) 0 spelled x.0, first-none (ends (46 ∷ t)) 0 spelled x.1))

  absent : Sought flows t × (any (answers t) spelled ≡ false) → target_of flows spelled t ≡ answer.missing
  unfolding target_of entry_of ending_answer
  absent h =
      let b = both_false (any (same t) spelled) (any (ends (46 ∷ t)) spelled) (sym (any-either t spelled) ∙ h.1) in
      rw (h.0.looked, h.0.no_function, h.0.free, none_first (same t) 0 spelled b.0, none_first (ends (46 ∷ t)) 0 spelled b.1)

  -- MISSING, exactly where nothing matches
  pub missing_means : (target_of flows spelled t ≡ answer.missing) ↔ (Sought flows t × (any (answers t) spelled ≡ false))
  missing_means = (nothing, absent)
