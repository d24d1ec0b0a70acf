-- Searching the index's entries one by one: what is left of it, and what was found. Assumes nothing.
use Rattle.std.specs.Prelude.{is_some}
use mathlib.Core.Path.{◌≡◌, refl, sym, ◌∙◌, ap}
use mathlib.Core.Bool.{Bool, true, false, ◌||◌}
use mathlib.Core.List.{List, [], ◌∷◌, map}
use Prim.Native.Nat.{ℕ, zero, suc, ◌+◌, ◌-◌, ◌≤◌, ◌<◌}
use native.Mathlib.Omega.{arith}
use native.Mathlib.Nat.{sub-zero}
use native.Mathlib.Numerals.{sub-one}
use native.Mathlib.Decide.{dec_le}
use Rattle.std.specs.Prelude.{min, ◌*◌, ◌/◌, Option, Some, None}
use lib.ListN.{length, get_or, take, drop, length-drop}
use lib.Seq.{take-nil, drop-drop, get_or-drop}
use Rattle.fields.specs.Bytes.{pick}
use Rattle.names.specs.Words.{Bytes, same, any, ends}
use Rattle.names.proofs.Words.{same-eq, ends-short}
use Rattle.symbols.specs.declared.Places.{Places}
use Rattle.symbols.specs.declared.Fit.{Fit}
use Rattle.symbols.specs.declared.Fit.TheVariants.{Exact, Ending, Differs}
use Rattle.symbols.specs.Fits.{fit_of, answers}
use Rattle.symbols.specs.Rows.{rows, row_at, spelling_in, spellings_in, first_of, wanted, sought}

-- 1. The first entry of some numbers, and the others

-- the first three numbers
abbrev pub row_of : List ℕ → Places
row_of s = record { flow = get_or s 0 0; stitch = get_or s 1 0; own = get_or s 2 0 }

rows_short : (s : List ℕ) → length s < 3 → rows s ≡ []
unfolding rows
rows_short [] h = refl
rows_short (a ∷ []) h = refl
rows_short (a ∷ b ∷ []) h = refl
rows_short (a ∷ b ∷ c ∷ s) h = absurd (omega arith)

rows_next : (s : List ℕ) → 3 ≤ length s → rows s ≡ row_of s ∷ rows (drop 3 s)
unfolding rows
rows_next [] h = absurd (omega arith)
rows_next (a ∷ []) h = absurd (omega arith)
rows_next (a ∷ b ∷ []) h = absurd (omega arith)
rows_next (a ∷ b ∷ c ∷ s) h = refl

take_next : (p : Places) (ps : List Places) (n : ℕ) → 0 < n → take n (p ∷ ps) ≡ p ∷ take (n - 1) ps
take_next p ps zero h = absurd (omega arith)
take_next p ps (suc n) h = rw (sub-one (suc n))

module _ (file s : List ℕ) (n : ℕ) where
  spell-end : n ≡ 0 → spellings_in file n s ≡ []
  unfolding spellings_in
  spell-end e = rw e

  spell-short : length s < 3 → spellings_in file n s ≡ []
  unfolding spellings_in
  spell-short h = rw (rows_short s h, take-nil n)

  spell_next : 0 < n → 3 ≤ length s → spellings_in file n s ≡ spelling_in file (row_of s) ∷ spellings_in file (n - 1) (drop 3 s)
  unfolding spellings_in
  spell_next m h = rw (rows_next s h) (ap (map (spelling_in file)) (take_next (row_of s) (rows (drop 3 s)) n m))

-- the first three numbers from entry number k on
row-drop : (index : List ℕ) (k : ℕ) → row_of (drop (3 * k) index) ≡ row_at index k
row-drop index k =
    let z : 3 * k + 0 ≡ 3 * k = omega arith in
    rw (get_or-drop (3 * k) index 0 0, get_or-drop (3 * k) index 1 0, get_or-drop (3 * k) index 2 0, z)

drop-row : (index : List ℕ) (k : ℕ) → drop 3 (drop (3 * k) index) ≡ drop (3 * (k + 1)) index
drop-row index k = let e : 3 * k + 3 ≡ 3 * (k + 1) = omega arith in drop-drop 3 (3 * k) index ∙ rw e

-- 2. What is left of the search

-- the entries from number k on decide
pub record Left (file index target : List ℕ) (count k : ℕ) (exact ending : Bool) : Type 0 where
  pub within : k ≤ count
  pub left : first_of (sought exact ending target) 0 (spellings_in file count index) ≡ first_of (sought exact ending target) k (spellings_in file (count - k) (drop (3 * k) index))

pub left-start : {file index target : List ℕ} {count : ℕ} {exact ending : Bool} → Left file index target count 0 exact ending
left-start {count = count} = record { within = omega arith; left = rw (sub-zero count) }

module _ {file index target : List ℕ} {count k : ℕ} {exact ending : Bool} (l : Left file index target count k exact ending) where
  -- all of them were passed
  pub left_end : min count (length index / 3) ≤ k → None ≡ first_of (sought exact ending target) 0 (spellings_in file count index)
  unfolding first_of
  left_end h = by_count (dec_le count k)
    where
      by_count : Dec (count ≤ k) → None ≡ first_of (sought exact ending target) 0 (spellings_in file count index)
      by_count (yes p) = sym (l.left ∙ rw (spell-end file (drop (3 * k) index) (count - k) (omega arith)))
      by_count (no p) = sym (l.left ∙ rw (spell-short file (drop (3 * k) index) (count - k) (simp length-drop (omega arith))))

  module _ (m : k < min count (length index / 3)) {p : Places} {fit : Fit} {r : Bool} (q : p ≡ row_at index k) (e : fit ≡ fit_of target (spelling_in file p)) (w : r ≡ wanted exact ending fit) where
    next : first_of (sought exact ending target) 0 (spellings_in file count index)
        ≡ pick r (Some k) (first_of (sought exact ending target) (k + 1) (spellings_in file (count - k - 1) (drop (3 * (k + 1)) index)))
    unfolding first_of sought
    next = l.left ∙ rw (spell_next file (drop (3 * k) index) (count - k) (omega arith) (simp length-drop (omega arith)), row-drop index k, drop-row index k, w, e, q)

    pub left-found : r ≡ true → Some k ≡ first_of (sought exact ending target) 0 (spellings_in file count index)
    left-found t = sym (next ∙ rw t)

    pub left-next : r ≡ false → Left file index target count (k + 1) exact ending
    left-next t =
        let n : count - (k + 1) ≡ count - k - 1 = omega arith in
        record { within = omega arith; left = next ∙ rw (t, n) }

-- 3. What is looked for, in the words of the rules

module _ (t s : Bytes) where
  -- by their lengths no target is a spelling that also ends in "." and the target
  not-both : same t s ≡ true → ends (46 ∷ t) s ≡ false
  not-both e = ends-short (46 ∷ t) s (omega (arith, ap length (same-eq t s (rw e tt))))

  pub sought-exact : sought true false t s ≡ same t s
  unfolding sought
  sought-exact = by_tests (same t s) (ends (46 ∷ t) s)
    where
      by_tests : (i j : Bool) → wanted true false (pick i Exact (pick j Ending Differs)) ≡ i
      by_tests true j = refl
      by_tests false true = refl
      by_tests false false = refl

  pub sought-ending : sought false true t s ≡ ends (46 ∷ t) s
  unfolding sought
  sought-ending = by_tests (same t s) (ends (46 ∷ t) s) not-both
    where
      by_tests : (i j : Bool) → (i ≡ true → j ≡ false) → wanted false true (pick i Exact (pick j Ending Differs)) ≡ j
      by_tests true j h = sym (h refl)
      by_tests false true h = refl
      by_tests false false h = refl

  pub sought-either : sought true true t s ≡ answers t s
  unfolding sought
  sought-either = by_tests (same t s) (ends (46 ∷ t) s)
    where
      by_tests : (i j : Bool) → wanted true true (pick i Exact (pick j Ending Differs)) ≡ i || j
      by_tests true j = refl
      by_tests false true = refl
      by_tests false false = refl

-- the same test finds the same
pub first-same : (f g : Bytes → Bool) → ((s : Bytes) → f s ≡ g s) → (k : ℕ) (l : List Bytes) → first_of f k l ≡ first_of g k l
unfolding first_of
first-same f g e k [] = refl
first-same f g e k (x ∷ xs) = rw (e x, first-same f g e (k + 1) xs)

-- something is found where some spelling passes
pub first_any : (f g : Bytes → Bool) → ((s : Bytes) → f s ≡ g s) → (k : ℕ) (l : List Bytes) → is_some (first_of f k l) ≡ any g l
unfolding first_of
first_any f g e k [] = refl
first_any f g e k (x ∷ xs) = rw (e x) (by-test (g x) (first_any f g e (k + 1) xs))
  where
    by-test : (i : Bool) → is_some (first_of f (k + 1) xs) ≡ any g xs → is_some (pick i (Some k) (first_of f (k + 1) xs)) ≡ i || any g xs
    by-test true h = refl
    by-test false h = h

-- 4. What was found: the first that passes, and nothing where none does

module _ (f : Bytes → Bool) where
  -- entry number m is the first, counted from k
  pub record FirstAt (k : ℕ) (l : List Bytes) (m : ℕ) : Type 0 where
    pub after : k ≤ m
    pub within : m < k + length l
    pub passes : f (get_or l (m - k) []) ≡ true
    pub first : (j : ℕ) → j < m - k → f (get_or l j []) ≡ false

  one_later : (k m : ℕ) → k + 1 ≤ m → m - k ≡ suc (m - (k + 1))
  one_later k m h = omega arith

  first-later : (k : ℕ) (x : Bytes) (xs : List Bytes) (m : ℕ) → f x ≡ false → FirstAt (k + 1) xs m → FirstAt k (x ∷ xs) m
  first-later k x xs m e h = record {
    after = omega (arith, h.after);
    within = omega (arith, h.within);
    passes = rw (one_later k m h.after) h.passes;
    first = earlier;
  }
    where
      earlier : (j : ℕ) → j < m - k → f (get_or (x ∷ xs) j []) ≡ false
      earlier zero i = e
      earlier (suc j) i = h.first j (omega (arith, one_later k m h.after))

  pub first-at : (k : ℕ) (l : List Bytes) (m : ℕ) → first_of f k l ≡ Some m → FirstAt k l m
  unfolding first_of
  first-at k [] m e = let z : ◌≡◌ {A = ℕ} 0 1 = cc in absurd (omega arith)
  first-at k (x ∷ xs) m e = by-test (first-at (k + 1) xs m) (f x) refl e
    where
      by-test : (first_of f (k + 1) xs ≡ Some m → FirstAt (k + 1) xs m) → (b : Bool) → f x ≡ b → pick b (Some k) (first_of f (k + 1) xs) ≡ Some m → FirstAt k (x ∷ xs) m
      by-test later true p q =
          let z : k ≡ m = cc in
          let n : m - k ≡ 0 = omega arith in
          record { after = omega arith; within = omega arith; passes = rw n p; first = λ j i. absurd (omega arith) }
      by-test later false p q = first-later k x xs m p (later q)

  -- some spelling passes, or none
  pub first-none : (k : ℕ) (l : List Bytes) → first_of f k l ≡ None → any f l ≡ false
  first-none k l e = sym (first_any f f (λ s. refl) k l) ∙ ap is_some e

  pub none_first : (k : ℕ) (l : List Bytes) → any f l ≡ false → first_of f k l ≡ None
  none_first k l e = by-found (first_of f k l) (first_any f f (λ s. refl) k l ∙ e)
    where
      by-found : (r : Option ℕ) → is_some r ≡ false → r ≡ None
      by-found (Some m) q = let z : ◌≡◌ {A = ℕ} 0 1 = cc in absurd (omega arith)
      by-found None q = refl
