-- A table: a list of numbers, in which a word has the slot that its hash gives. Assumes nothing.
use Rattle.std.specs.Prelude.{ℕ, zero, suc, ◌+◌, ◌%◌, ◌≡◌, ◌⊎◌, Bool, true, false, List, ltb, length, get_or}
use Rattle.fields.specs.Bytes.{pick}
use Rattle.names.specs.Words.{Bytes}
use Rattle.sets.specs.declared.Sought.{Sought}
use Rattle.sets.specs.declared.Sought.TheVariants as sought
use Rattle.tables.specs.Hashes.{hash_of}

-- the slot of a word
abbrev pub slot_of : List ℕ → Bytes → ℕ
slot_of table w = hash_of w % length table

-- the slot after this one in a table of so many slots, where the first follows the last
unfoldable pub next_slot : ℕ → ℕ → ℕ
next_slot slots slot = pick (ltb (slot + 1) slots) (slot + 1) 0

-- where a walk over so many slots, from this one on, ends: at the first that is empty or whose number is met
unfoldable pub EndsAt : (ℕ → Bool → Type 0) → ℕ → List ℕ → ℕ → Sought → Type 0
EndsAt met zero table slot r = r ≡ sought.Exhausted
EndsAt met (suc k) table slot r =
    ((get_or table slot 0 ≡ 0) × (r ≡ sought.Vacant slot))
    ⊎ (((get_or table slot 0 ≡ 0 → ⊥) × met (get_or table slot 0) true × (r ≡ sought.Found))
    ⊎ ((get_or table slot 0 ≡ 0 → ⊥) × met (get_or table slot 0) false × EndsAt met k table (next_slot (length table) slot) r))
