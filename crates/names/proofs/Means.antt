-- Each test on words says what its statement says. Assumes nothing.
use mathlib.Core.Path.{◌≡◌}
use mathlib.Core.Bool.{Bool, false, not, ◌&&◌, ◌||◌}
use mathlib.Core.List.Memᴰ
use mathlib.Core.List.{List, [], ◌∷◌, ◌++◌, Memᴰ}
use mathlib.Core.Logic.{◌⊎◌, inl, inr, ⊎_elim}
use Prim.Native.Nat.{ℕ}
use lib.Dec.{T, T_not, not_T}
use Rattle.names.specs.Words.{Bytes, same, any, one_of, begins, ends}
use Rattle.names.specs.Reserved.{arrow}
use Rattle.names.specs.Targets.{passes}
use Rattle.names.proofs.Bools.{and_left, and_right, and_both, or_cases, or_left, or_right}
use Rattle.names.proofs.Words.{same-eq, same_refl, eq-same, begins-split, begins-join, ends-split, ends_join}
use Rattle.names.proofs.Any.{any-in, any_of}

-- the test passes exactly where the statement holds (a record, so that the test and the statement are found at each use)
pub record Means (b : Bool) (P : Type 0) : Type 0 where
  pub to : T b → P
  pub from : P → T b

pub itself : (b : Bool) → Means b (T b)
itself b = record { to = λ h. h; from = λ h. h }

pub never : Means false ⊥
never = record { to = λ h. h; from = λ h. h }

pub both : {a b : Bool} {P Q : Type 0} → Means a P → Means b Q → Means (a && b) (P × Q)
both {a} {b} p q = record {
  to = λ h. (p.to (and_left a b h), q.to (and_right a b h));
  from = λ h. and_both a b (p.from h.0) (q.from h.1);
}

-- the tests are grouped to the left, and a product of three or four is flat
pub three : {a b c : Bool} {P Q R : Type 0} → Means a P → Means b Q → Means c R → Means (a && b && c) (P × Q × R)
three p q r = let m = both (both p q) r in record {
  to = λ h. let x = m.to h in (x.0.0, x.0.1, x.1);
  from = λ h. m.from ((h.0, h.1), h.2);
}

pub four : {a b c d : Bool} {P Q R S : Type 0} → Means a P → Means b Q → Means c R → Means d S → Means (a && b && c && d) (P × Q × R × S)
four p q r t = let m = both (three p q r) t in record {
  to = λ h. let x = m.to h in (x.0.0, x.0.1, x.0.2, x.1);
  from = λ h. m.from ((h.0, h.1, h.2), h.3);
}

pub either : {a b : Bool} {P Q : Type 0} → Means a P → Means b Q → Means (a || b) (P ⊎ Q)
either {a} {b} p q = record {
  to = λ h. ⊎_elim (λ i. inl (p.to i)) (λ i. inr (q.to i)) (or_cases a b h);
  from = λ h. ⊎_elim (λ i. or_left a b (p.from i)) (λ i. or_right a b (q.from i)) h;
}

-- grouped to the left and to the right
pub either3 : {a b c : Bool} {P Q R : Type 0} → Means a P → Means b Q → Means c R → Means (a || b || c) (P ⊎ Q ⊎ R)
either3 p q r = let m = either (either p q) r in record {
  to = λ h. ⊎_elim (λ i. ⊎_elim (λ j. inl j) (λ j. inr (inl j)) i) (λ i. inr (inr i)) (m.to h);
  from = λ h. m.from (⊎_elim (λ i. inl (inl i)) (λ i. ⊎_elim (λ j. inl (inr j)) (λ j. inr j) i) h);
}

pub fails : {a : Bool} {P : Type 0} → Means a P → Means (not a) (P → ⊥)
fails {a} p = record { to = λ h i. T_not a h (p.from i); from = λ h. not_T a (λ t. h (p.to t)) }

pub some_of : {A : Type 0} {p : A → Bool} {P : A → Type 0} (l : List A) → ((x : A) → Means (p x) (P x)) → Means (any p l) ((x : A) × Memᴰ x l × P x)
some_of {p = p} l h = record {
  to = λ t. let r = any_of p l t in (r.0, r.1, (h r.0).to r.2);
  from = λ t. any-in p t.1 ((h t.0).from t.2);
}

pub some-both : {A : Type 0} {p q : A → Bool} {P Q : A → Type 0} (l : List A) → ((x : A) → Means (p x) (P x)) → ((x : A) → Means (q x) (Q x))
    → Means (any (λ x. p x && q x) l) ((x : A) × Memᴰ x l × P x × Q x)
some-both l h i = let m = some_of l (λ x. both (h x) (i x)) in record {
  to = λ t. let r = m.to t in (r.0, r.1, r.2.0, r.2.1);
  from = λ t. m.from (t.0, t.1, (t.2, t.3));
}

pub equal : (a b : Bytes) → Means (same a b) (a ≡ b)
equal a b = record { to = same-eq a b; from = eq-same a b }

pub member : (n : Bytes) (l : List Bytes) → Means (one_of n l) (Memᴰ n l)
member n l = record {
  to = λ t. let r = any_of (same n) l t in Memᴰ.cast (same-eq n r.0 r.2) r.1;
  from = λ m. any-in (same n) m (same_refl n);
}

pub begin : (b : ℕ) (w : Bytes) → Means (begins b w) ((r : Bytes) × (w ≡ b ∷ r))
begin b w = record { to = begins-split b w; from = λ h. begins-join b w h.0 h.1 }

pub end : (e w : Bytes) → Means (ends e w) ((p : Bytes) × (w ≡ p ++ e))
end e w = record { to = ends-split e w; from = λ h. ends_join e w h.0 h.1 }

pub pass : (t : Bytes) → Means (passes t) (([] ≡ t) ⊎ (arrow ≡ t) ⊎ ((r : Bytes) × (t ≡ 36 ∷ r)))
pass t = either3 (equal [] t) (equal arrow t) (begin 36 t)
