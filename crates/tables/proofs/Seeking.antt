-- The walk over the slots of a name: step by step, what its end says, and what becomes of it where a place is written. Assumes nothing.
use mathlib.Core.Path.{◌≡◌, refl, sym, ◌∙◌, ap}
use mathlib.Core.Bool.{Bool, true, false}
use mathlib.Core.List.{List}
use Prim.Native.Nat.{ℕ, zero, suc, ◌+◌, ◌-◌, ◌<◌}
use native.Mathlib.Nat.{mod-lt}
use native.Mathlib.Omega.{arith}
use native.Mathlib.Decide.{ℕ_discrete}
use lib.Dec.{T}
use lib.ListN.{length, get_or, set, length-set}
use lib.Seq.{get_or-set_same, get_or-set_other}
use Rattle.names.specs.Words.{Bytes, same}
use Rattle.names.specs.Counted.{name_at}
use Rattle.names.proofs.Bools.{is_true}
use Rattle.names.proofs.Words.{same_refl}
use Rattle.sets.specs.declared.Sought.{Sought}
use Rattle.sets.specs.declared.Sought.TheVariants as sought
use Rattle.tables.specs.Hashes.{hash_of}
use Rattle.tables.specs.Tables.{slot_of, next_slot}
use Rattle.tables.specs.Functions.{sought_at, sought_from, sought_of, is_vacant}
use Rattle.tables.proofs.Tables.{next-inside}

-- at an empty slot
pub at-vacant : {m : ℕ} (b : Bool) (slot : ℕ) (x : Sought) → m ≡ 0 → sought_at m b slot x ≡ sought.Vacant slot
unfolding sought_at
at-vacant b slot x z = rw z

-- at a slot that leads to the name
pub at-found : (m : ℕ) {b : Bool} (slot : ℕ) (x : Sought) → (m ≡ 0 → ⊥) → b ≡ true → sought_at m b slot x ≡ sought.Found
unfolding sought_at
at-found zero slot x z t = absurd (z refl)
at-found (suc m) slot x z t = rw t

-- at a slot that leads to another name
pub at_other : (m : ℕ) {b : Bool} (slot : ℕ) (x : Sought) → (m ≡ 0 → ⊥) → b ≡ false → sought_at m b slot x ≡ x
unfolding sought_at
at_other zero slot x z t = absurd (z refl)
at_other (suc m) slot x z t = rw t

-- two walks that meet the same slot: where further slots keep an empty end, so does the whole
at-kept : (m : ℕ) (b : Bool) (slot : ℕ) (x y : Sought) → (T (is_vacant x) → T (is_vacant y)) → T (is_vacant (sought_at m b slot x)) → T (is_vacant (sought_at m b slot y))
unfolding sought_at
at-kept zero b slot x y h t = tt
at-kept (suc m) true slot x y h t = t
at-kept (suc m) false slot x y h t = h t

module _ (file table : List ℕ) (n : Bytes) where
  -- the slot that leads to the name, or does not
  abbrev meets : ℕ → Bool
  meets slot = same n (name_at file (get_or table slot 0 - 1))

  abbrev further : ℕ → ℕ → Sought
  further k slot = sought_from k file table n (next_slot (length table) slot)

  -- the slot at which the walk ended is empty, and one of the table's
  pub vacant-slot : (k slot s : ℕ) → slot < length table → sought_from k file table n slot ≡ sought.Vacant s → (s < length table) × (get_or table s 0 ≡ 0)
  unfolding sought_from sought_at
  vacant-slot zero slot s h e = let z : ◌≡◌ {A = ℕ} 0 1 = cc in absurd (omega arith)
  vacant-slot (suc k) slot s h e = by_number (vacant-slot k (next_slot (length table) slot) s (next-inside (length table) slot h)) (get_or table slot 0) refl (meets slot) e
    where
      by_number : (further k slot ≡ sought.Vacant s → (s < length table) × (get_or table s 0 ≡ 0)) → (m : ℕ) → get_or table slot 0 ≡ m → (b : Bool)
          → sought_at m b slot (further k slot) ≡ sought.Vacant s → (s < length table) × (get_or table s 0 ≡ 0)
      by_number f zero z b e = let q : slot ≡ s = cc in (rw (← q) h, rw (← q) z)
      by_number f (suc m) z true e = let z : ◌≡◌ {A = ℕ} 0 1 = cc in absurd (omega arith)
      by_number f (suc m) z false e = f e

  -- so is the slot at which the walk over a name's slots ended
  pub vacant-inside : {r : Sought} {s : ℕ} → 0 < length table → r ≡ sought_of file table n → r ≡ sought.Vacant s → s < length table
  vacant-inside h e q = (vacant-slot 8 (slot_of table n) _ (mod-lt (hash_of n) h) (sym e ∙ q)).0

  -- the slot at which the walk met the name
  pub found-slot : (k slot : ℕ) → sought_from k file table n slot ≡ sought.Found → (i : ℕ) × (get_or table i 0 ≡ 0 → ⊥) × T (meets i)
  unfolding sought_from sought_at
  found-slot zero slot e = let z : ◌≡◌ {A = ℕ} 0 1 = cc in absurd (omega arith)
  found-slot (suc k) slot e = by_number (found-slot k (next_slot (length table) slot)) (get_or table slot 0) refl (meets slot) refl e
    where
      by_number : (further k slot ≡ sought.Found → (i : ℕ) × (get_or table i 0 ≡ 0 → ⊥) × T (meets i)) → (m : ℕ) → get_or table slot 0 ≡ m → (b : Bool) → meets slot ≡ b
          → sought_at m b slot (further k slot) ≡ sought.Found → (i : ℕ) × (get_or table i 0 ≡ 0 → ⊥) × T (meets i)
      by_number f zero z b p e = let z : ◌≡◌ {A = ℕ} 0 1 = cc in absurd (omega arith)
      by_number f (suc m) z true p e = (slot, (λ q. omega (arith, z, q)), rw p tt)
      by_number f (suc m) z false p e = f e

  module _ (s place : ℕ) where
    abbrev after : List ℕ
    after = set table s (place + 1)

    abbrev later : ℕ → ℕ → Sought
    later k slot = sought_from k file after n (next_slot (length table) slot)

    -- a walk that ends at an empty slot after a number was written into an empty slot, ended at one before
    pub vacant-before : get_or table s 0 ≡ 0 → (k slot : ℕ) → T (is_vacant (sought_from k file after n slot)) → T (is_vacant (sought_from k file table n slot))
    unfolding sought_from
    vacant-before z zero slot t = t
    vacant-before z (suc k) slot t = by-slot (vacant-before z k (next_slot (length table) slot)) (ℕ_discrete slot s)
      where
        by-slot : (T (is_vacant (later k slot)) → T (is_vacant (further k slot))) → Dec (slot ≡ s) → T (is_vacant (sought_from (suc k) file table n slot))
        by-slot f (yes q) = rw (at-vacant (meets slot) slot (further k slot) (ap (λ (j : ℕ). get_or table j 0) q ∙ z)) tt
        by-slot f (no q) =
            at-kept (get_or table slot 0) (meets slot) slot (later k slot) (further k slot) f
            (rw (get_or-set_other table s slot (place + 1) 0 q, length-set table s (place + 1)) at t)

    -- the walk of the name that was written where it ended
    pub written-met : s < length table → n ≡ name_at file place → (k slot : ℕ) → sought_from k file table n slot ≡ sought.Vacant s → T (is_vacant (sought_from k file after n slot)) → ⊥
    unfolding sought_from sought_at
    written-met h p zero slot e t = t
    written-met h p (suc k) slot e t = by-slot (written-met h p k (next_slot (length table) slot)) (ℕ_discrete slot s)
      where
        by_number : (further k slot ≡ sought.Vacant s → T (is_vacant (later k slot)) → ⊥) → (m : ℕ) (b : Bool) → (slot ≡ s → ⊥)
            → sought_at m b slot (further k slot) ≡ sought.Vacant s → T (is_vacant (sought_at m b slot (later k slot))) → ⊥
        by_number f zero b q e t = let i : slot ≡ s = cc in q i
        by_number f (suc m) true q e t = t
        by_number f (suc m) false q e t = f e t

        by-slot : (further k slot ≡ sought.Vacant s → T (is_vacant (later k slot)) → ⊥) → Dec (slot ≡ s) → ⊥
        by-slot f (yes q) =
            let w : get_or after slot 0 ≡ place + 1 = ap (λ (j : ℕ). get_or after j 0) q ∙ get_or-set_same table s (place + 1) 0 h in
            let l : place + 1 - 1 ≡ place = omega arith in
            let m : same n (name_at file (get_or after slot 0 - 1)) ≡ true = rw (w, l, ← p) (is_true (same n n) (same_refl n)) in
            rw (at-found (get_or after slot 0) slot (sought_from k file after n (next_slot (length after) slot)) (λ z. omega (arith, w, z)) m) at t
        by-slot f (no q) = by_number f (get_or table slot 0) (meets slot) q e (rw (get_or-set_other table s slot (place + 1) 0 q, length-set table s (place + 1)) at t)
