-- Paired lists; and `any` over numbered lists, over paired lists, and over lists with the same words equally often. Assumes nothing.
use mathlib.Core.Path.{◌≡◌, refl, sym, ◌∙◌, ap, ap₂, subst}
use mathlib.Core.Bool.{Bool, true, false, ◌||◌}
use mathlib.Core.List.Memᴰ
use mathlib.Core.List.{List, [], ◌∷◌, ◌++◌}
use Prim.Native.Nat.{ℕ, suc, ◌<◌}
use native.Mathlib.Omega.{arith}
use lib.Dec.{T}
use Rattle.names.specs.Words.{Bytes, same, any, ◌∈◌}
use Rattle.names.proofs.Bools.{bool-ext}
use Rattle.names.proofs.Words.{same-eq, eq-same}
use Rattle.names.proofs.Any.{any-middle, any-in, any_of}
use Rattle.rules.specs.Steps.{Numbered, numbered}
use Rattle.rules.specs.Alike.{more, count, EquallyOften, Paired}

pub any-numbered : {A : Type 0} (p : A → Bool) (n : ℕ) (xs : List A) → any (λ (u : Numbered A). p u.it) (numbered n xs) ≡ any p xs
any-numbered p n [] = refl
any-numbered p n (x ∷ xs) = rw (any-numbered p (suc n) xs)

-- equal lists are paired, and pairs may be weakened
pub paired-eq : {A : Type 0} (xs ys : List A) → xs ≡ ys → Paired (λ v w. v ≡ w) xs ys
paired-eq [] ys e = sym e
paired-eq (x ∷ xs) ys e = (x, [], xs, sym e, refl, paired-eq xs xs refl)

pub paired-weaken : {A : Type 0} (R S : A → A → Type 0) → ((x y : A) → R x y → S x y) → (xs ys : List A) → Paired R xs ys → Paired S xs ys
paired-weaken R S f [] ys e = e
paired-weaken R S f (x ∷ xs) ys w = (w.0, w.1, w.2, w.3, f x w.0 w.4, paired-weaken R S f xs (w.1 ++ w.2) w.5)

-- two may change places
pub paired-swapped : {A : Type 0} (R : A → A → Type 0) {x y a b : A} → R x a → R y b → Paired R (x ∷ y ∷ []) (b ∷ a ∷ [])
paired-swapped R {a = a} {b = b} p q = (a, b ∷ [], [], refl, p, (b, [], [], refl, q, refl))

-- paired lists
pub any-paired : {A : Type 0} (R : A → A → Type 0) (p q : A → Bool) → ((x y : A) → R x y → p x ≡ q y) → (xs ys : List A) → Paired R xs ys → any p xs ≡ any q ys
any-paired R p q h [] ys e = sym (ap (any q) e)
any-paired R p q h (x ∷ xs) ys w =
    ap₂ ◌||◌ (h x w.0 w.4) (any-paired R p q h xs (w.1 ++ w.2) w.5)
    ∙ sym (any-middle q w.1 w.0 w.2) ∙ sym (ap (any q) w.3)

-- the same words equally often
in_count : {w : Bytes} {l : List Bytes} → w ∈ l → 0 < count w l
in_count {w} (Memᴰ.head {x = y} {xs = ys} e) = go (same w y) (eq-same w y e)
  where
    go : (t : Bool) → T t → 0 < more t (count w ys)
    go true h = omega arith
    go false h = absurd h
in_count {w} (Memᴰ.tail {x = y} {xs = ys} m) = go (same w y) (in_count m)
  where
    go : (t : Bool) → 0 < count w ys → 0 < more t (count w ys)
    go true h = omega arith
    go false h = h

count-in : (w : Bytes) (l : List Bytes) → 0 < count w l → w ∈ l
count-in w [] h = absurd (omega arith)
count-in w (x ∷ xs) h = go (same w x) (same-eq w x) (λ i. count-in w xs i) h
  where
    go : (t : Bool) → (T t → w ≡ x) → (0 < count w xs → w ∈ xs) → 0 < more t (count w xs) → w ∈ (x ∷ xs)
    go true e rest i = Memᴰ.head (e tt)
    go false e rest i = Memᴰ.tail (rest i)

pub any-often : (p : Bytes → Bool) (l m : List Bytes) → EquallyOften l m → any p l ≡ any p m
any-often p l m h = bool-ext (any p l) (any p m) (over l m h) (over m l (λ w. sym (h w)))
  where
    over : (l m : List Bytes) → EquallyOften l m → T (any p l) → T (any p m)
    over l m h t =
        let r = any_of p l t in
        any-in p (count-in r.0 m (subst (λ (n : ℕ). 0 < n) (h r.0) (in_count r.1))) r.2

-- two words may change places
pub often-swapped : (x y : Bytes) (l : List Bytes) → EquallyOften (x ∷ y ∷ l) (y ∷ x ∷ l)
often-swapped x y l w = go (same w x) (same w y)
  where
    go : (a b : Bool) → more a (more b (count w l)) ≡ more b (more a (count w l))
    go true true = refl
    go true false = refl
    go false true = refl
    go false false = refl
