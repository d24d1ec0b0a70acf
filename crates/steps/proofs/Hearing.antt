-- Hearing breaches and passing runs, one after the other. Assumes nothing.
use mathlib.Core.Path.{◌≡◌, refl, sym, ap, ◌∙◌}
use mathlib.Core.Bool.{Bool, true, false}
use mathlib.Core.List.{List, [], ◌∷◌, ◌++◌, append_assoc}
use Prim.Native.Nat.{ℕ, min, ◌+◌, ◌-◌, ◌*◌, ◌/◌, ◌%◌, ◌≤◌, ◌<◌}
use native.Mathlib.Omega.{arith}
use native.Mathlib.Nat.{add-zero}
use lib.ListN.{length, take}
use lib.Seq.{sets, sets-eq}
use lib.Dec.{leb, ltb}
use borrow.Rule.Slice.PartMut.{put_mid}
use borrow.Author.Tests.{ltb-true, ltb-false, leb-true, leb-false, lt-ltb, le-ltb}
use Rattle.std.specs.Prelude.{Some}
use Rattle.std.proofs.lemmas.List.{drop-drop}
use Rattle.fields.specs.Bytes.{pick}
use Rattle.rules.specs.declared.Rule.{Rule}
use Rattle.rules.specs.Rules.{number}
use Rattle.rules.specs.Steps.{Breach}
use Rattle.steps.specs.declared.Tally.{Tally}
use Rattle.steps.specs.declared.Names.{Names}
use Rattle.steps.specs.Heard.{is_full, onward, in_instance, passed, names_at, breach_of, four, written, Heard, heard, full, added, hear, hear_all}

-- 1. The number of a run

-- at the last number, before it, and past it
pub onward-last : (instance many : ℕ) → 4294967295 ≤ instance → onward instance many ≡ instance
unfolding onward
onward-last instance many h =
    let none : 4294967295 - instance ≡ 0 = omega arith in
    rw (none, le-ltb many 0 (omega arith), add-zero instance)

pub onward-before : (instance many : ℕ) → many ≤ 4294967295 - instance → onward instance many ≡ instance + many
unfolding onward
onward-before instance many h = by-test (ltb many (4294967295 - instance)) refl
  where
    by-test : (b : Bool) → ltb many (4294967295 - instance) ≡ b → instance + pick b many (4294967295 - instance) ≡ instance + many
    by-test true e = refl
    by-test false e = omega (arith, ltb-false many (4294967295 - instance) e)

pub onward-past : (instance many : ℕ) → instance ≤ 4294967295 → 4294967295 - instance ≤ many → onward instance many ≡ 4294967295
unfolding onward
onward-past instance many l h = rw (le-ltb many (4294967295 - instance) h) (omega arith)

-- as the function finds it
pub onward-least : (instance many : ℕ) → instance + min many (4294967295 - instance) ≡ onward instance many
unfolding onward
onward-least instance many = by-test (ltb many (4294967295 - instance)) refl
  where
    by-test : (b : Bool) → ltb many (4294967295 - instance) ≡ b → instance + min many (4294967295 - instance) ≡ instance + pick b many (4294967295 - instance)
    by-test true e = omega (arith, ltb-true many (4294967295 - instance) e)
    by-test false e = omega (arith, ltb-false many (4294967295 - instance) e)

-- one more, and then more, is as many together
pub onward-onward : (instance m n : ℕ) → onward (onward instance m) n ≡ onward instance (m + n)
onward-onward instance m n = by-test (leb instance 4294967295) (leb m (4294967295 - instance)) refl refl
  where
    inside : instance ≤ 4294967295 → m ≤ 4294967295 - instance → onward (instance + m) n ≡ onward instance (m + n)
    inside l h = by-rest (leb n (4294967295 - (instance + m))) refl
      where
        by-rest : (b : Bool) → leb n (4294967295 - (instance + m)) ≡ b → onward (instance + m) n ≡ onward instance (m + n)
        by-rest true e =
            let q = leb-true n (4294967295 - (instance + m)) e in
            onward-before (instance + m) n q ∙ sym (onward-before instance (m + n) (omega arith) ∙ omega arith)
        by-rest false e =
            let q = leb-false n (4294967295 - (instance + m)) e in
            onward-past (instance + m) n (omega arith) (omega arith) ∙ sym (onward-past instance (m + n) l (omega arith))

    by-test : (a b : Bool) → leb instance 4294967295 ≡ a → leb m (4294967295 - instance) ≡ b → onward (onward instance m) n ≡ onward instance (m + n)
    by-test true true e f =
        let h = leb-true m (4294967295 - instance) f in
        rw (onward-before instance m h) (inside (leb-true instance 4294967295 e) h)
    by-test true false e f =
        let l = leb-true instance 4294967295 e in
        let h = leb-false m (4294967295 - instance) f in
        rw (onward-past instance m l (omega arith), onward-last 4294967295 n (omega arith)) (sym (onward-past instance (m + n) l (omega arith)))
    by-test false b e f =
        let l = leb-false instance 4294967295 e in
        rw (onward-last instance m (omega arith), onward-last instance n (omega arith)) (sym (onward-last instance (m + n) (omega arith)))

pub onward-zero : (instance : ℕ) → onward instance 0 ≡ instance
onward-zero instance = onward-before instance 0 (omega arith) ∙ add-zero instance

-- 2. A tally that is full, or not

module _ (t : Tally) where
  pub passed-full : is_full t ≡ true → (n : ℕ) → passed n t ≡ t
  unfolding passed
  passed-full e n = rw e

  pub passed-room : is_full t ≡ false → (n : ℕ) → passed n t ≡ in_instance (onward t.instance n) t
  unfolding passed
  passed-room e n = rw e

-- no runs, and runs after runs
pub passed_none : (t : Tally) → passed 0 t ≡ t
unfolding passed
passed_none t = by-test (is_full t) refl
  where
    by-test : (b : Bool) → is_full t ≡ b → pick b t (in_instance (onward t.instance 0) t) ≡ t
    by-test true e = refl
    by-test false e = ap (λ (i : ℕ). in_instance i t) (onward-zero t.instance)

pub passed-more : (m n : ℕ) (t : Tally) → passed n (passed m t) ≡ passed (m + n) t
passed-more m n t = by-test (is_full t) refl
  where
    by-test : (b : Bool) → is_full t ≡ b → passed n (passed m t) ≡ passed (m + n) t
    by-test true e = rw (passed-full t e m, passed-full t e n, passed-full t e (m + n))
    by-test false e =
        rw (passed-room t e m, passed-room (in_instance (onward t.instance m) t) e n, passed-room t e (m + n))
        (ap (λ (i : ℕ). in_instance i t) (onward-onward t.instance m n))

-- 3. The list

-- where there is no room, and where there is
pub written_none : (n rule instance place : ℕ) (list : List ℕ) → length list / 4 ≤ n → list ≡ written n rule instance place list
unfolding written
written_none n rule instance place list h = rw (le-ltb n (length list / 4) h)

pub written-room : (n rule instance place : ℕ) (list : List ℕ) → n < length list / 4
    → written n rule instance place list ≡ sets list (4 * n) (four rule instance place)
unfolding written
written-room n rule instance place list h = rw (lt-ltb n (length list / 4) h)

-- as copied there
pub written-copied : (n rule instance place : ℕ) (list : List ℕ) → n < length list / 4 → {i p k : ℕ} {numbers : List ℕ} → i ≡ instance % 4294967296 → p ≡ place % 4294967296
    → k ≡ 4 → numbers ≡ rule ∷ i ∷ p ∷ 0 ∷ [] → put_mid (4 * n) k list numbers ≡ written n rule instance place list
written-copied n rule instance place list h d e f g =
    rw (f, g, d, e) (ap (λ (l : List ℕ). take (4 * n) list ++ (four rule instance place ++ l)) (drop-drop 4 (4 * n) list)
    ∙ sym (append_assoc (take (4 * n) list) (four rule instance place) _)
    ∙ sym (sets-eq (four rule instance place) list (4 * n) (omega (arith, h))) ∙ sym (written-room n rule instance place list h))

-- 4. Breaches

module _ (h : Heard) where
  pub hear-none : full h ≡ true → (b : Breach) → hear h b ≡ h
  unfolding hear
  hear-none e b = rw e

  pub hear-room : full h ≡ false → (b : Breach) → hear h b ≡ added h b
  unfolding hear
  hear-room e b = rw e

pub hear-append : (h : Heard) (bs cs : List Breach) → hear_all h (bs ++ cs) ≡ hear_all (hear_all h bs) cs
unfolding hear_all
hear-append h [] cs = refl
hear-append h (b ∷ bs) cs = hear-append (hear h b) bs cs

pub hear-full : (h : Heard) → full h ≡ true → (bs : List Breach) → hear_all h bs ≡ h
unfolding hear_all
hear-full h e [] = refl
hear-full h e (b ∷ bs) = rw (hear-none h e b) (hear-full h e bs)

pub hear-next : (h : Heard) → full h ≡ false → (b : Breach) (bs : List Breach) → hear_all h (b ∷ bs) ≡ hear_all (added h b) bs
unfolding hear_all
hear-next h e b bs = ap (λ (g : Heard). hear_all g bs) (hear-room h e b)

-- the number of the run stays
hear-instance : (h : Heard) (b : Breach) → (hear h b).tally.instance ≡ h.tally.instance
unfolding hear
hear-instance h b = by-test (full h)
  where
    by-test : (f : Bool) → (pick f h (added h b)).tally.instance ≡ h.tally.instance
    by-test true = refl
    by-test false = refl

pub all-instance : (h : Heard) (bs : List Breach) → (hear_all h bs).tally.instance ≡ h.tally.instance
unfolding hear_all
all-instance h [] = refl
all-instance h (b ∷ bs) = all-instance (hear h b) bs ∙ hear-instance h b

-- 5. As the functions find it

module _ (t : Tally) {f : Bool} (e : f ≡ is_full t) where
  -- the answer where it is full
  pub hears-none : f ≡ true → (list : List ℕ) (b : Breach) → heard t list ≡ hear (heard t list) b
  hears-none g list b = sym (hear-none (heard t list) (sym e ∙ g) b)

  pub passes_none : f ≡ true → (n : ℕ) → t ≡ passed n t
  passes_none g n = sym (passed-full t (sym e ∙ g) n)

  -- and where it is not
  pub passes_on : f ≡ false → (n : ℕ) {i : ℕ} → i ≡ onward t.instance n → in_instance i t ≡ passed n t
  passes_on g n h = rw h (sym (passed-room t (sym e ∙ g) n))

  pub count-below : f ≡ false → t.count < t.limit
  count-below g = leb-false t.limit t.count (sym e ∙ g)

  pub hears-one : f ≡ false → (r : Rule) (place : ℕ) (names : ℕ × ℕ) {n : Names} → n ≡ names_at names → {k : ℕ} → k ≡ number r
      → (list : List ℕ) {list' : List ℕ} → list' ≡ written t.count k t.instance place list
      → heard (record { limit = t.limit; count = t.count + 1; instance = t.instance; last = Some (record { rule = r; place = place; names = n }) }) list'
      ≡ hear (heard t list) (breach_of t.instance r place names)
  hears-one g r place names a b list l =
      rw (a, l, b) (sym (hear-room (heard t list) (sym e ∙ g) (breach_of t.instance r place names)))
