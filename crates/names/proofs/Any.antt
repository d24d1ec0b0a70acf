-- `any` over lists built up from parts, and as a statement. Assumes nothing.
use mathlib.Core.Path.{◌≡◌, refl, sym, ◌∙◌, ap₂, subst}
use mathlib.Core.Bool.{Bool, true, false, ◌&&◌, ◌||◌, or_assoc, or-false}
use mathlib.Core.List.{List, [], ◌∷◌, ◌++◌, map, Memᴰ}
use mathlib.Core.Logic.{◌⊎◌, inl, inr}
use lib.Dec.{T}
use Rattle.names.specs.Words.{any, only, each}
use Rattle.names.proofs.Bools.{or_cases, or_left, or_right}

module _ {A : Type 0} (p : A → Bool) where
  pub any_append : (xs ys : List A) → any p (xs ++ ys) ≡ any p xs || any p ys
  any_append [] ys = refl
  any_append (x ∷ xs) ys = rw (any_append xs ys) (sym (or_assoc (p x) (any p xs) (any p ys)))

  pub any-only : (t : Bool) (x : A) → any p (only t x) ≡ t && p x
  any-only true x = or-false (p x)
  any-only false x = refl

  pub any-each : {B : Type 0} (f : B → List A) (xs : List B) → any p (each f xs) ≡ any (λ x. any p (f x)) xs
  any-each f [] = refl
  any-each f (x ∷ xs) = any_append (f x) (each f xs) ∙ rw (any-each f xs)

  pub any-map : {B : Type 0} (f : B → A) (xs : List B) → any p (map f xs) ≡ any (λ x. p (f x)) xs
  any-map f [] = refl
  any-map f (x ∷ xs) = rw (any-map f xs)

  -- one in the middle may as well stand first
  pub any-middle : (xs : List A) (y : A) (zs : List A) → any p (xs ++ (y ∷ zs)) ≡ p y || any p (xs ++ zs)
  any-middle [] y zs = refl
  any-middle (x ∷ xs) y zs = rw (any-middle xs y zs) (swap (p x) (p y) (any p (xs ++ zs)))
    where
      swap : (a b c : Bool) → (a || (b || c)) ≡ (b || (a || c))
      swap true true c = refl
      swap true false c = refl
      swap false true c = refl
      swap false false c = refl

-- the same test, element by element
pub any_same : {A : Type 0} (p q : A → Bool) → ((x : A) → p x ≡ q x) → (xs : List A) → any p xs ≡ any q xs
any_same p q h [] = refl
any_same p q h (x ∷ xs) = ap₂ ◌||◌ (h x) (any_same p q h xs)

-- as a statement: some element of the list passes
pub any-in : {A : Type 0} (p : A → Bool) {x : A} {xs : List A} → Memᴰ x xs → T (p x) → T (any p xs)
any-in p (Memᴰ.head {x = y} {xs = ys} e) h = or_left (p y) (any p ys) (subst (λ z. T (p z)) e h)
any-in p (Memᴰ.tail {x = y} {xs = ys} m) h = or_right (p y) (any p ys) (any-in p m h)

pub any_of : {A : Type 0} (p : A → Bool) (xs : List A) → T (any p xs) → (x : A) × Memᴰ x xs × T (p x)
any_of p [] h = absurd h
any_of {A} p (x ∷ xs) h = go (λ i. any_of p xs i) (or_cases (p x) (any p xs) h)
  where
    go : (T (any p xs) → (y : A) × Memᴰ y xs × T (p y)) → T (p x) ⊎ T (any p xs) → (y : A) × Memᴰ y (x ∷ xs) × T (p y)
    go rest (inl i) = (x, Memᴰ.head refl, i)
    go rest (inr i) = let r = rest i in (r.0, Memᴰ.tail r.1, r.2)
