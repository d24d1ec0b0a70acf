-- What `only` and `each` hold, and when what they give is in order. Assumes nothing.
use mathlib.Core.Path.{◌≡◌, refl, subst}
use mathlib.Core.Bool.{Bool, true, false}
use mathlib.Core.List.Memᴰ
use mathlib.Core.List.{List, [], ◌∷◌, ◌++◌, Memᴰ}
use mathlib.Core.Logic.{◌⊎◌, inl, inr, ⊎_elim}
use lib.Dec.{T}
use Rattle.names.specs.Words.{only, each, Sorted}

-- membership in `only` and `each`
pub in-only : {A : Type 0} (t : Bool) {x : A} → T t → Memᴰ x (only t x)
in-only true h = Memᴰ.head refl
in-only false h = absurd h

pub of-only : {A : Type 0} (t : Bool) {x y : A} → Memᴰ y (only t x) → T t × (y ≡ x)
of-only true m = (tt, Memᴰ.eq_of_singleton m)
of-only false m = absurd (Memᴰ.not-nil m)

pub in-each : {A B : Type 0} (f : A → List B) {x : A} {b : B} {xs : List A} → Memᴰ x xs → Memᴰ b (f x) → Memᴰ b (each f xs)
in-each f {b = b} (Memᴰ.head {xs = ys} e) m = Memᴰ.append_left (each f ys) (subst (λ y. Memᴰ b (f y)) e m)
in-each f (Memᴰ.tail {x = y} i) m = Memᴰ.append_right (f y) (in-each f i m)

pub of-each : {A B : Type 0} (f : A → List B) {b : B} (xs : List A) → Memᴰ b (each f xs) → (x : A) × Memᴰ x xs × Memᴰ b (f x)
of-each f [] m = absurd (Memᴰ.not-nil m)
of-each {A} f {b} (x ∷ xs) m = go (λ i. of-each f xs i) (Memᴰ.append_cases (f x) m)
  where
    go : (Memᴰ b (each f xs) → (y : A) × Memᴰ y xs × Memᴰ b (f y))
        → Memᴰ b (f x) ⊎ Memᴰ b (each f xs) → (y : A) × Memᴰ y (x ∷ xs) × Memᴰ b (f y)
    go rest (inl i) = (x, Memᴰ.head refl, i)
    go rest (inr i) = let r = rest i in (r.0, Memᴰ.tail r.1, r.2)

pub sorted-append : {A : Type 0} (R : A → A → Type 0) (xs ys : List A) → Sorted R xs → Sorted R ys
    → ((x y : A) → Memᴰ x xs → Memᴰ y ys → R x y) → Sorted R (xs ++ ys)
sorted-append R [] ys p q h = q
sorted-append R (x ∷ xs) ys p q h = (
  λ y m. ⊎_elim (p.0 y) (h x y (Memᴰ.head refl)) (Memᴰ.append_cases xs m),
  sorted-append R xs ys p.1 q (λ a b i j. h a b (Memᴰ.tail i) j),
)

-- what `each` gives is in order if each part is, and the parts are
pub sorted-each : {A B : Type 0} (Q : A → A → Type 0) (R : B → B → Type 0) (f : A → List B) (xs : List A) → Sorted Q xs
    → ((x : A) → Memᴰ x xs → Sorted R (f x))
    → ((x y : A) (b c : B) → Q x y → Memᴰ b (f x) → Memᴰ c (f y) → R b c)
    → Sorted R (each f xs)
sorted-each Q R f [] q parts h = tt
sorted-each Q R f (x ∷ xs) q parts h =
    sorted-append R (f x) (each f xs) (parts x (Memᴰ.head refl))
    (sorted-each Q R f xs q.1 (λ y m. parts y (Memᴰ.tail m)) h)
    (λ b c i j. let r = of-each f xs j in h x r.0 b c (q.0 r.0 r.1) i r.2)

pub sorted-only : {A : Type 0} (R : A → A → Type 0) (t : Bool) (x : A) → Sorted R (only t x)
sorted-only R true x = (λ y m. absurd (Memᴰ.not-nil m), tt)
sorted-only R false x = tt

-- what holds of every element
abbrev pub Every : {A : Type 0} → (A → Type 0) → List A → Type 0
Every {A} P l = (x : A) → Memᴰ x l → P x

pub every_append : {A : Type 0} (P : A → Type 0) (xs ys : List A) → Every P xs → Every P ys → Every P (xs ++ ys)
every_append P xs ys p q x m = ⊎_elim (p x) (q x) (Memᴰ.append_cases xs m)

pub every-each : {A B : Type 0} (P : B → Type 0) (f : A → List B) (xs : List A) → ((x : A) → Memᴰ x xs → Every P (f x)) → Every P (each f xs)
every-each P f xs h b m = let r = of-each f xs m in h r.0 r.1 b r.2
