-- The targets that entries answer, put into a set entry by entry. Assumes nothing.
use Rattle.std.specs.Prelude.{Option, Some, None, ℕ, ◌<◌, ◌≡◌, Bool, false, ◌||◌, List, [], map, T}
use Rattle.names.specs.Words.{Bytes, any, one_of}
use Rattle.names.specs.Counted.{name_at}
use Rattle.sets.specs.Sets.{held, Reachable}
use Rattle.symbols.specs.declared.Places.{Places}
use Rattle.symbols.specs.Rows.{spelling_in}
use Rattle.symbols.specs.Fits.{answers}
use Rattle.targets.specs.Ends.{dotted_ends, before}
use Rattle.targets.specs.Slots.{end_slots}
use Rattle.targets.specs.Put.{NameFits}

-- 1. The ends of an entry

-- the ends of the name at the place, each with the rest after it
abbrev pub ends_with : List ℕ → ℕ → Bytes → List Bytes
ends_with file first rest = before rest (dotted_ends (name_at file first))

-- the same, where there is such a place
abbrev pub ends_from : List ℕ → Option ℕ → Bytes → List Bytes
ends_from file None rest = []
ends_from file (Some first) rest = ends_with file first rest

-- the places of an entry's names that a slot has room for
pub record PlacesFit (p : Places) : Type 0 where
  pub flow : NameFits p.flow
  pub stitch : NameFits p.stitch
  pub own : p.own < 1048575

-- 2. One entry

-- the targets that an entry answers were put: all of them, or some
pub record EntryPut (file : List ℕ) (p : Places) (before after : List ℕ) (left : Bool) : Type 0 where
  pub reachable : Reachable (end_slots file) after
  pub all : left ≡ false → (t : Bytes)
      → one_of t (held (end_slots file) after) ≡ answers t (spelling_in file p) || one_of t (held (end_slots file) before)
  pub sound : (t : Bytes) → T (one_of t (held (end_slots file) after))
      → T (answers t (spelling_in file p) || one_of t (held (end_slots file) before))
  pub kept : (t : Bytes) → T (one_of t (held (end_slots file) before)) → T (one_of t (held (end_slots file) after))

-- 3. Entries one after the other

-- one of the entries answers the target
abbrev pub answered : List ℕ → List Places → Bytes → Bool
answered file places t = any (answers t) (map (spelling_in file) places)

-- between two states of a set entries were put; `left` and `left'` say of each that some target was not put up to there
pub record Put (file : List ℕ) (places : List Places) (before after : List ℕ) (left left' : Bool) : Type 0 where
  pub reachable : Reachable (end_slots file) after
  pub earlier : left' ≡ false → left ≡ false
  pub all : left' ≡ false → (t : Bytes)
      → one_of t (held (end_slots file) after) ≡ answered file places t || one_of t (held (end_slots file) before)
  pub sound : (t : Bytes) → T (one_of t (held (end_slots file) after))
      → T (answered file places t || one_of t (held (end_slots file) before))
  pub kept : (t : Bytes) → T (one_of t (held (end_slots file) before)) → T (one_of t (held (end_slots file) after))

-- the set after these entries were put one after the other into an empty set
pub record TargetsIn (file set : List ℕ) (places : List Places) (left : Bool) : Type 0 where
  pub reachable : Reachable (end_slots file) set
  pub whole : left ≡ false → (t : Bytes) → one_of t (held (end_slots file) set) ≡ any (answers t) (map (spelling_in file) places)
  pub sound : (t : Bytes) → T (one_of t (held (end_slots file) set)) → T (any (answers t) (map (spelling_in file) places))
