-- An end of a spelling by the places of its names, and the slots of a set that holds such ends. Assumes nothing.
use Rattle.std.specs.Prelude.{Option, Some, None, ℕ, zero, suc, ◌-◌, ◌/◌, ◌%◌, ◌≡◌, List, [], ◌∷◌, ◌++◌, eqb}
use Rattle.fields.specs.Bytes.{pick}
use Rattle.names.specs.Words.{Bytes}
use Rattle.names.specs.Counted.{name_at}
use Rattle.sets.specs.Sets.{Slots}
use Rattle.targets.specs.declared.DottedEnd.{DottedEnd}
use Rattle.symbols.specs.Numbers.{absent}
use Rattle.targets.specs.Ends.{end_at}

-- the place of a name of an entry, or none
abbrev pub place_of : ℕ → Option ℕ
place_of at = pick (eqb at absent) None (Some at)

-- the place of a number: 1 + the place, and 0 where there is none
abbrev pub numbered : ℕ → Option ℕ
numbered zero = None
numbered (suc p) = Some p

-- "." and the name at the place, where there is one
unfoldable pub after : List ℕ → Option ℕ → Bytes
after file None = []
after file (Some p) = 46 ∷ name_at file p

-- what follows the dots of the first name, and the other names after it
unfoldable pub end_word : List ℕ → DottedEnd → Bytes
end_word file e = end_at e.dots (name_at file e.first) ++ (after file e.second ++ after file e.third)

-- the end that a slot has: 1 + the place of the first name, and the numbers of the others, 20 bits each, and the dots
abbrev pub slot_end : ℕ → DottedEnd
slot_end slot = record {
  first = (slot - 1) % 1048576;
  second = numbered ((slot - 1) / 1048576 % 1048576);
  third = numbered ((slot - 1) / 1099511627776 % 1048576);
  dots = (slot - 1) / 1152921504606846976;
}

-- the end of a slot: none where it is empty
abbrev pub InSlot : ℕ → Option DottedEnd → Type 0
InSlot slot None = slot ≡ 0
InSlot slot (Some e) = (slot ≡ 0 → ⊥) × (e ≡ slot_end slot)

-- slots of ends. They bear no mark.
abbrev pub end_slots : List ℕ → Slots
end_slots file = record {
  word = λ (slot : ℕ). end_word file (slot_end slot);
  mark = λ (slot : ℕ). 0;
  mark_of = λ (w : Bytes). 0;
}
