-- Numbered lists: numbers rise; and what is numbered in lists one after the other, and in a part for each element. Assumes nothing.
use mathlib.Core.Path.{◌≡◌, refl, sym, ◌∙◌, ap, subst}
use mathlib.Core.List.Memᴰ
use mathlib.Core.List.{List, [], ◌∷◌, ◌++◌, Memᴰ}
use mathlib.Core.Logic.{◌⊎◌, inl, inr, ⊎_elim}
use Prim.Native.Nat.{ℕ, suc, ◌+◌, ◌≤◌, ◌<◌}
use native.Mathlib.Omega.{arith}
use lib.ListN.{length, length-append}
use Rattle.names.specs.Words.{each, ◌∈◌, Sorted}
use Rattle.rules.specs.Steps.{Numbered, numbered}

pub number-from : {A : Type 0} (n : ℕ) (xs : List A) (y : Numbered A) → Memᴰ y (numbered n xs) → n ≤ y.no
number-from n [] y m = absurd (Memᴰ.not-nil m)
number-from n (x ∷ xs) y m = go (λ i. number-from (suc n) xs y i) (Memᴰ.cases_cons m)
  where
    go : (Memᴰ y (numbered (suc n) xs) → suc n ≤ y.no) → (y ≡ record { no = n; it = x }) ⊎ Memᴰ y (numbered (suc n) xs) → n ≤ y.no
    go rest (inl e) = omega (arith, ap (λ (z : Numbered _). z.no) e)
    go rest (inr i) = omega (arith, rest i)

pub number-below : {A : Type 0} (n : ℕ) (xs : List A) (y : Numbered A) → Memᴰ y (numbered n xs) → y.no < n + length xs
number-below n [] y m = absurd (Memᴰ.not-nil m)
number-below n (x ∷ xs) y m =
    ⊎_elim (λ e. omega (arith, ap (λ (z : Numbered _). z.no) e)) (λ i. omega (arith, number-below (suc n) xs y i)) (Memᴰ.cases_cons m)

pub sorted-numbered : {A : Type 0} (n : ℕ) (xs : List A) → Sorted (λ (a b : Numbered A). a.no < b.no) (numbered n xs)
sorted-numbered n [] = tt
sorted-numbered n (x ∷ xs) = (λ y m. number-from (suc n) xs y m, sorted-numbered (suc n) xs)

-- two lists one after the other: the numbers of the second begin after the first
pub numbered-append : {A : Type 0} (n : ℕ) (a b : List A) → numbered n (a ++ b) ≡ numbered n a ++ numbered (n + length a) b
numbered-append n [] b = ap (λ (k : ℕ). numbered k b) (omega arith)
numbered-append n (x ∷ xs) b =
    ap (λ (l : List (Numbered _)). record { no = n; it = x } ∷ l)
    (numbered-append (suc n) xs b ∙ ap (λ (k : ℕ). numbered (suc n) xs ++ numbered k b) (omega arith))

module _ {A : Type 0} (n : ℕ) (a b : List A) {y : Numbered A} where
  pub in-numbered-first : y ∈ numbered n a → y ∈ numbered n (a ++ b)
  in-numbered-first m = rw (numbered-append n a b) (Memᴰ.append_left _ m)

  pub in-numbered-second : {k : ℕ} → n + length a ≡ k → y ∈ numbered k b → y ∈ numbered n (a ++ b)
  in-numbered-second e m = rw (numbered-append n a b, e) (Memᴰ.append_right (numbered n a) m)

  pub of-numbered-append : {k : ℕ} → n + length a ≡ k → y ∈ numbered n (a ++ b) → y ∈ numbered n a ⊎ y ∈ numbered k b
  of-numbered-append e m = Memᴰ.append_cases (numbered n a) (rw (numbered-append n a b, e) at m)

-- what stands in the part of one element, whose numbers begin after the parts of those before it
pub record InPart {A B : Type 0} (f : A → List B) (n : ℕ) (xs : List A) (y : Numbered B) : Type 0 where
  pub before : List A
  pub x : A
  pub after : List A
  pub split : xs ≡ before ++ (x ∷ after)
  pub within : y ∈ numbered (n + length (each f before)) (f x)

module _ {A B : Type 0} (f : A → List B) where
  -- the part of x, behind that of z
  behind : (n : ℕ) (z : A) (zs : List A) → n + length (f z) + length (each f zs) ≡ n + length (each f (z ∷ zs))
  behind n z zs = omega (arith, length-append (f z) (each f zs))

  pub in-numbered-each : (n : ℕ) (before : List A) (x : A) (after : List A) {y : Numbered B}
      → y ∈ numbered (n + length (each f before)) (f x) → y ∈ numbered n (each f (before ++ (x ∷ after)))
  in-numbered-each n [] x after {y} m =
      in-numbered-first n (f x) (each f after) (subst (λ (k : ℕ). y ∈ numbered k (f x)) (omega arith) m)
  in-numbered-each n (z ∷ zs) x after {y} m =
      in-numbered-second n (f z) (each f (zs ++ (x ∷ after))) refl
      (in-numbered-each (n + length (f z)) zs x after (subst (λ (k : ℕ). y ∈ numbered k (f x)) (sym (behind n z zs)) m))

  pub of-numbered-each : (n : ℕ) (xs : List A) {y : Numbered B} → y ∈ numbered n (each f xs) → InPart f n xs y
  of-numbered-each n [] m = absurd (Memᴰ.not-nil m)
  of-numbered-each n (x ∷ xs) {y} m =
      ⊎_elim
      (λ i. record { before = []; x = x; after = xs; split = refl; within = subst (λ (k : ℕ). y ∈ numbered k (f x)) (omega arith) i })
      (λ i. let r = of-numbered-each (n + length (f x)) xs i in record {
        before = x ∷ r.before;
        x = r.x;
        after = r.after;
        split = ap (λ (l : List A). x ∷ l) r.split;
        within = subst (λ (k : ℕ). y ∈ numbered k (f r.x)) (behind n x r.before) r.within;
      })
      (of-numbered-append n (f x) (each f xs) refl m)
