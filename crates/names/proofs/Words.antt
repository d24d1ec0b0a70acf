-- What the tests on words say: `same` is equality, `begins` and `ends` split the word. Assumes nothing.
use mathlib.Core.Path.{◌≡◌, refl, sym, ◌∙◌, ap, ap₂, subst}
use mathlib.Core.Bool.{true, false, or-false}
use mathlib.Core.List.{[], ◌∷◌, ◌++◌}
use mathlib.Core.Logic.{◌⊎◌, inl, inr}
use Prim.Native.Nat.{ℕ, ◌+◌, ◌-◌, ◌≤◌, ◌<◌}
use native.Mathlib.Omega.{arith}
use native.Mathlib.Numerals.{add-one}
use lib.Dec.{T, eqb, eqb→eq, eqb_refl}
use lib.ListN.{length, get_or, take, drop, length-append, length-drop, take-append-drop, drop_of_length-le}
use lib.Seq.{drop-cons}
use borrow.Author.Tests.{eq-eqb, ne_eqb}
use Rattle.names.specs.Words.{Bytes, same, begins, ends}
use Rattle.names.proofs.Bools.{is_false, and_left, and_right, and_both, or_cases, or_left, or_right}

-- SAME
pub same-eq : (a b : Bytes) → T (same a b) → a ≡ b
same-eq [] [] h = refl
same-eq [] (y ∷ ys) h = absurd h
same-eq (x ∷ xs) [] h = absurd h
same-eq (x ∷ xs) (y ∷ ys) h =
    ap₂ ◌∷◌ (eqb→eq x y (and_left (eqb x y) (same xs ys) h)) (same-eq xs ys (and_right (eqb x y) (same xs ys) h))

pub same_refl : (a : Bytes) → T (same a a)
same_refl [] = tt
same_refl (x ∷ xs) = and_both (eqb x x) (same xs xs) (eqb_refl x) (same_refl xs)

pub eq-same : (a b : Bytes) → a ≡ b → T (same a b)
eq-same a b e = subst (λ (x : Bytes). T (same a x)) e (same_refl a)

-- names of two lengths are not the same
pub same-lengths : (a b : Bytes) → (length a ≡ length b → ⊥) → same a b ≡ false
same-lengths a b h = is_false (same a b) (λ t. h (ap length (same-eq a b t)))

-- the names agree before i, so that they are the same if their rests are (a record, so that both are found at each use)
pub record Agree (a b : Bytes) (i : ℕ) : Type 0 where
  pub rests : same a b ≡ same (drop i a) (drop i b)

pub agree-start : (a b : Bytes) → Agree a b 0
agree-start a b = record { rests = refl }

module _ {a b : Bytes} {i : ℕ} (agree : Agree a b i) where
  -- at their ends they are the same
  pub agree-end : length a ≤ i → length b ≤ i → same a b ≡ true
  agree-end h k = agree.rests ∙ rw (drop_of_length-le a h, drop_of_length-le b k)

  -- the byte at i too
  pub agree-next : i < length a → i < length b → get_or a i 0 ≡ get_or b i 0 → Agree a b (i + 1)
  agree-next h k e = record { rests = agree.rests ∙ rw (drop-cons a i 0 h, drop-cons b i 0 k, eq-eqb _ _ e, add-one) }

  -- another byte at i
  pub agree-stop : i < length a → i < length b → (get_or a i 0 ≡ get_or b i 0 → ⊥) → same a b ≡ false
  agree-stop h k e = agree.rests ∙ rw (drop-cons a i 0 h, drop-cons b i 0 k, ne_eqb _ _ e)

-- BEGINS
pub begins-split : (b : ℕ) (w : Bytes) → T (begins b w) → (r : Bytes) × (w ≡ b ∷ r)
begins-split b [] h = absurd h
begins-split b (x ∷ xs) h = (xs, ap (λ (y : ℕ). y ∷ xs) (sym (eqb→eq b x h)))

pub begins-join : (b : ℕ) (w r : Bytes) → w ≡ b ∷ r → T (begins b w)
begins-join b w r e = subst (λ (v : Bytes). T (begins b v)) (sym e) (eqb_refl b)

-- ENDS
pub ends-split : (end w : Bytes) → T (ends end w) → (p : Bytes) × (w ≡ p ++ end)
ends-split end [] h = ([], sym (same-eq end [] h))
ends-split end (x ∷ xs) h = go (λ i. ends-split end xs i) (or_cases (same end (x ∷ xs)) (ends end xs) h)
  where
    go : (T (ends end xs) → (p : Bytes) × (xs ≡ p ++ end)) → T (same end (x ∷ xs)) ⊎ T (ends end xs) → (p : Bytes) × (x ∷ xs ≡ p ++ end)
    go rest (inl i) = ([], sym (same-eq end (x ∷ xs) i))
    go rest (inr i) = let r = rest i in (x ∷ r.0, ap (λ (l : Bytes). x ∷ l) r.1)

-- every word ends in itself, and in what stands after any part of it
pub ends-self : (w : Bytes) → T (ends w w)
ends-self [] = tt
ends-self (x ∷ xs) = or_left (same (x ∷ xs) (x ∷ xs)) (ends (x ∷ xs) xs) (same_refl (x ∷ xs))

pub ends-after : (end p : Bytes) → T (ends end (p ++ end))
ends-after end [] = ends-self end
ends-after end (x ∷ p) = or_right (same end (x ∷ (p ++ end))) (ends end (p ++ end)) (ends-after end p)

pub ends_join : (end w p : Bytes) → w ≡ p ++ end → T (ends end w)
ends_join end w p e = subst (λ (v : Bytes). T (ends end v)) (sym e) (ends-after end p)

-- a shorter word does not end in a longer one
pub ends-short : (end w : Bytes) → length w < length end → ends end w ≡ false
ends-short end w h = is_false (ends end w) (λ t. let s = ends-split end w t in omega (arith, simp length-append at (ap length s.1)))

-- only as many last bytes count as the ending has
pub ends_last : (end p w : Bytes) → length end ≤ length w → ends end (p ++ w) ≡ ends end w
ends_last end [] w h = refl
ends_last end (x ∷ p) w h = rw (same-lengths end (x ∷ (p ++ w)) (λ e. omega (arith, simp length-append at e))) (ends_last end p w h)

-- a word of the ending's length ends in it only as a whole
pub ends-whole : (end w : Bytes) → length end ≡ length w → ends end w ≡ same end w
ends-whole end [] h = refl
ends-whole end (x ∷ xs) h = rw (ends-short end xs (omega arith)) (or-false (same end (x ∷ xs)))

-- so the last bytes decide
pub ends_at : (end w : Bytes) → length end ≤ length w → ends end w ≡ same end (drop (length w - length end) w)
ends_at end w h =
    let n = length w - length end in
    let l : length end ≡ length (drop n w) = simp length-drop (omega arith) in
    ap (ends end) (sym (take-append-drop n w)) ∙ ends_last end (take n w) (drop n w) (omega arith) ∙ ends-whole end (drop n w) l
