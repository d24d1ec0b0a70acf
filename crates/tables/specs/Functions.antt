-- The table of a story's functions: a slot has 1 + the place of the name of a function, or 0. A name stands in the first empty slot from
-- that of its hash on, of eight. Assumes nothing.
use Rattle.std.specs.Prelude.{ℕ, zero, suc, ◌+◌, ◌-◌, ◌<◌, ◌≡◌, Bool, true, false, List, length, get_or, set}
use Rattle.fields.specs.Bytes.{pick}
use Rattle.names.specs.Words.{Bytes, same, any}
use Rattle.names.specs.Counted.{name_at}
use Rattle.story.specs.declared.Sections.{Sections}
use Rattle.story.specs.File.{story_in}
use Rattle.searches.specs.declared.views.FlowView.{FlowView}
use Rattle.searches.specs.Called.{is_function}
use Rattle.sets.specs.declared.Sought.{Sought}
use Rattle.sets.specs.declared.Sought.TheVariants as sought
use Rattle.tables.specs.Tables.{slot_of, next_slot}

-- at a slot with this number, which leads to the name or does not: where the walk ends, if further slots give the last
unfoldable pub sought_at : ℕ → Bool → ℕ → Sought → Sought
sought_at zero met slot further = sought.Vacant slot
sought_at (suc k) true slot further = sought.Found
sought_at (suc k) false slot further = further

-- where a walk over so many slots, from this one on, ends
unfoldable pub sought_from : ℕ → List ℕ → List ℕ → Bytes → ℕ → Sought
sought_from zero file table n slot = sought.Exhausted
sought_from (suc k) file table n slot =
    sought_at (get_or table slot 0) (same n (name_at file (get_or table slot 0 - 1))) slot (sought_from k file table n (next_slot (length table) slot))

-- where the walk over the slots of a name ends
abbrev pub sought_of : List ℕ → List ℕ → Bytes → Sought
sought_of file table n = sought_from 8 file table n (slot_of table n)

-- the walk ended at an empty slot
abbrev pub is_vacant : Sought → Bool
is_vacant sought.Found = false
is_vacant (sought.Vacant slot) = true
is_vacant sought.Exhausted = false

-- the table with a name's place where the walk ended at an empty slot
abbrev pub with_place : ℕ → List ℕ → Sought → List ℕ
with_place place table sought.Found = table
with_place place table (sought.Vacant slot) = set table slot (place + 1)
with_place place table sought.Exhausted = table

-- the table after a flow: where it is a function, its name stands in it if one of its slots was empty
abbrev pub with_flow : List ℕ → FlowView → List ℕ → List ℕ
with_flow file v table = pick v.function (with_place v.name table (sought_of file table (name_at file v.name))) table

-- the table of the functions of the story in the file
pub record Functions (file : List ℕ) (c : Sections) (table : List ℕ) : Type 0 where
  -- the walk over the slots of a function's name ends at no empty slot
  pub complete : 0 < length table → (n : Bytes) → any (is_function n) (story_in c file).flows ≡ true → is_vacant (sought_of file table n) ≡ false
  -- a slot that is not empty leads to the name of a function
  pub sound : (i : ℕ) → (get_or table i 0 ≡ 0 → ⊥) → any (is_function (name_at file (get_or table i 0 - 1))) (story_in c file).flows ≡ true
