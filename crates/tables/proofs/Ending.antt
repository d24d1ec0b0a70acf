-- Walks over the slots of a hash, by the tests that were made: step by step, and what the end says. Assumes nothing.
use mathlib.Core.Path.{◌≡◌, refl, sym, ◌∙◌}
use mathlib.Core.Bool.{Bool, true, false}
use mathlib.Core.List.{List}
use mathlib.Core.Logic.{inl, inr}
use Prim.Native.Nat.{ℕ, zero, suc, ◌-◌, ◌≤◌, ◌<◌}
use native.Mathlib.Omega.{arith}
use lib.ListN.{length, get_or}
use Rattle.names.specs.Words.{Bytes, same}
use Rattle.names.specs.Counted.{name_at}
use Rattle.sets.specs.declared.Sought.{Sought}
use Rattle.sets.specs.declared.Sought.TheVariants as sought
use Rattle.tables.specs.Tables.{next_slot, EndsAt}
use Rattle.tables.specs.Functions.{sought_from}
use Rattle.tables.proofs.Seeking.{at-vacant, at-found, at_other}

-- 1. Step by step

module _ (met : ℕ → Bool → Type 0) (table : List ℕ) (slot : ℕ) where
  -- an empty slot
  pub ends-vacant : (left : ℕ) → 0 < left → get_or table slot 0 ≡ 0 → EndsAt met left table slot (sought.Vacant slot)
  unfolding EndsAt
  ends-vacant zero h z = absurd (omega arith)
  ends-vacant (suc k) h z = inl (z, refl)

  -- a slot whose number is met
  pub ends-found : (left : ℕ) → 0 < left → (get_or table slot 0 ≡ 0 → ⊥) → met (get_or table slot 0) true → EndsAt met left table slot sought.Found
  unfolding EndsAt
  ends-found zero h z m = absurd (omega arith)
  ends-found (suc k) h z m = inr (inl (z, m, refl))

  -- a slot of another number: further slots decide
  pub ends-further : (left : ℕ) → 0 < left → (get_or table slot 0 ≡ 0 → ⊥) → met (get_or table slot 0) false → (r : Sought) → EndsAt met (left - 1) table (next_slot (length table) slot) r
      → EndsAt met left table slot r
  unfolding EndsAt
  ends-further zero h z m r e = absurd (omega arith)
  ends-further (suc k) h z m r e = let q : suc k - 1 ≡ k = omega arith in inr (inr (z, m, rw q at e))

  -- no slot is left
  pub ends-exhausted : (left : ℕ) → left ≤ 0 → EndsAt met left table slot sought.Exhausted
  unfolding EndsAt
  ends-exhausted zero h = refl
  ends-exhausted (suc k) h = absurd (omega arith)

-- 2. What the end says

module _ (met : ℕ → Bool → Type 0) (table : List ℕ) where
  -- some number was met
  pub ends-met : (k slot : ℕ) → EndsAt met k table slot sought.Found → (n : ℕ) × met n true
  unfolding EndsAt
  ends-met zero slot e = let z : ◌≡◌ {A = ℕ} 0 1 = cc in absurd (omega arith)
  ends-met (suc k) slot (inl e) = let v = e.1 in let z : ◌≡◌ {A = ℕ} 0 1 = cc in absurd (omega arith)
  ends-met (suc k) slot (inr (inl e)) = (get_or table slot 0, e.1)
  ends-met (suc k) slot (inr (inr e)) = ends-met k (next_slot (length table) slot) e.2

-- a walk that compares the name at the place of each number
pub ends-named : (file table : List ℕ) (n : Bytes) (k slot : ℕ) (r : Sought)
    → EndsAt (λ (m : ℕ) (b : Bool). b ≡ same n (name_at file (m - 1))) k table slot r → r ≡ sought_from k file table n slot
unfolding EndsAt sought_from
ends-named file table n zero slot r e = e
ends-named file table n (suc k) slot r (inl e) =
    e.1 ∙ sym (at-vacant (same n (name_at file (get_or table slot 0 - 1))) slot (sought_from k file table n (next_slot (length table) slot)) e.0)
ends-named file table n (suc k) slot r (inr (inl e)) =
    e.2 ∙ sym (at-found (get_or table slot 0) slot (sought_from k file table n (next_slot (length table) slot)) e.0 (sym e.1))
ends-named file table n (suc k) slot r (inr (inr e)) =
    ends-named file table n k (next_slot (length table) slot) r e.2
    ∙ sym (at_other (get_or table slot 0) slot (sought_from k file table n (next_slot (length table) slot)) e.0 (sym e.1))
