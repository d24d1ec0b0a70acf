-- What a filter lacks: nothing that was added to it. Assumes nothing.
use mathlib.Core.Path.{◌≡◌, refl, sym, ◌∙◌}
use mathlib.Core.Bool.{Bool, true, false, ◌||◌, true≢false}
use mathlib.Core.List.{List, [], ◌∷◌}
use Prim.Native.Nat.{ℕ, zero, suc}
use lib.Dec.{eqb}
use lib.ListN.{length, get_or, set, length-set}
use Rattle.names.specs.Words.{Bytes, same}
use Rattle.names.proofs.Words.{same-eq}
use Rattle.filters.proofs.Slots.{lacks_none}
use Rattle.tables.specs.Tables.{slot_of}
use Rattle.filters.specs.Words.{added, added_all, lacks, Covers, Holds}

-- 1. One word

-- what is stored is there, or the slot is past the end
stored : (l : List ℕ) (i : ℕ) → get_or (set l i 1) i 1 ≡ 1
stored [] i = refl
stored (x ∷ l) zero = refl
stored (x ∷ l) (suc i) = stored l i

-- where no 0 stood, none stands after a 1 is stored
kept-nonzero : (l : List ℕ) (i j : ℕ) → eqb (get_or l j 1) 0 ≡ false → eqb (get_or (set l i 1) j 1) 0 ≡ false
kept-nonzero [] i j h = h
kept-nonzero (x ∷ l) zero zero h = refl
kept-nonzero (x ∷ l) zero (suc j) h = h
kept-nonzero (x ∷ l) (suc i) zero h = h
kept-nonzero (x ∷ l) (suc i) (suc j) h = kept-nonzero l i j h

module _ (filter : List ℕ) (w : Bytes) where
  added-found : lacks (added filter w) w ≡ false
  unfolding lacks added
  added-found = rw (length-set, stored)

  added-kept : (v : Bytes) → lacks filter v ≡ false → lacks (added filter w) v ≡ false
  unfolding lacks added
  added-kept v h = rw length-set (kept-nonzero filter (slot_of filter w) (slot_of filter v) h)

-- 2. Words that pass a test

-- a filter without slots lacks none
pub covers_none : (filter : List ℕ) → length filter ≡ 0 → (test : Bytes → Bool) → Covers filter test
covers_none filter e test = record { kept = λ w h. sym (lacks_none filter w e) }

module _ {filter : List ℕ} {test : Bytes → Bool} (covers : Covers filter test) where
  -- a word that the filter lacks does not pass
  pub lacked : {w : Bytes} {r : Bool} → r ≡ lacks filter w → r ≡ true → test w ≡ false
  lacked {w} e t = by-test (test w) (covers.kept w)
    where
      by-test : (b : Bool) → (b ≡ true → lacks filter w ≡ false) → b ≡ false
      by-test true h = sym t ∙ e ∙ h refl
      by-test false h = refl

  pub covers-added : (w : Bytes) → Covers (added filter w) test
  covers-added w = record { kept = λ v h. added-kept filter w v (covers.kept v h) }

  pub covers-same : (other : Bytes → Bool) → ((w : Bytes) → other w ≡ test w) → Covers filter other
  covers-same other e = record { kept = λ w h. covers.kept w (sym (e w) ∙ h) }

pub covers-all : (ws : List Bytes) {filter : List ℕ} {test : Bytes → Bool} → Covers filter test → Covers (added_all filter ws) test
unfolding added_all
covers-all [] covers = covers
covers-all (w ∷ ws) covers = covers-all ws (covers-added covers w)

pub covers-or : {filter : List ℕ} {a b : Bytes → Bool} → Covers filter a → Covers filter b → Covers filter (λ (w : Bytes). a w || b w)
covers-or {filter} {a} {b} p q = record { kept = λ w h. by-test (lacks filter w ≡ false) (a w) (b w) (p.kept w) (q.kept w) h }
  where
    by-test : (P : Type 0) (x y : Bool) → (x ≡ true → P) → (y ≡ true → P) → (x || y) ≡ true → P
    by-test P true y f g h = f refl
    by-test P false y f g h = g h

-- 3. Words of a list

pub holds-none : (filter : List ℕ) → Holds filter []
holds-none filter = record { kept = λ w h. absurd (true≢false (sym h)) }

holds-own : (filter : List ℕ) (w : Bytes) → Covers (added filter w) (λ (v : Bytes). same v w)
holds-own filter w = record { kept = λ v h. rw (same-eq v w (rw h tt)) (added-found filter w) }

pub holds-all : (ws : List Bytes) (filter : List ℕ) → Holds (added_all filter ws) ws
unfolding added_all
holds-all [] filter = holds-none filter
holds-all (w ∷ ws) filter = covers-or (covers-all ws (holds-own filter w)) (holds-all ws (added filter w))
