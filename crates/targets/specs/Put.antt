-- Putting ends into a set of targets. Assumes nothing.
use Rattle.std.specs.Prelude.{Option, Some, None, ℕ, ◌<◌, ◌≡◌, Bool, true, false, ◌||◌, List, ◌⊎◌, T, get_or}
use Rattle.names.specs.Words.{Bytes, one_of}
use Rattle.sets.specs.declared.Sought.{Sought}
use Rattle.sets.specs.declared.Sought.TheVariants as sought
use Rattle.sets.specs.declared.Look.{Look}
use Rattle.sets.specs.declared.Look.TheVariants as look
use Rattle.sets.specs.Sets.{Slots, held, Reachable, Room}
use Rattle.targets.specs.declared.DottedEnd.{DottedEnd}
use Rattle.symbols.specs.Numbers.{absent}

-- 1. What a slot has room for

-- the place of a name, or none
abbrev pub NameFits : ℕ → Type 0
NameFits at = (at ≡ absent) ⊎ (at < 1048575)

-- the same of a place that is there or is not
abbrev pub PlaceFits : Option ℕ → Type 0
PlaceFits None = Unit {0}
PlaceFits (Some at) = at < 1048575

-- the place of a first name, and those of two more names
pub record PartsFit (first : ℕ) (second third : Option ℕ) : Type 0 where
  pub first_fits : first < 1048575
  pub second_fits : PlaceFits second
  pub third_fits : PlaceFits third

-- an end
pub record EndFits (e : DottedEnd) : Type 0 where
  pub parts : PartsFit e.first e.second e.third
  pub dots : e.dots < 16

-- 2. Putting words

-- what a slot is to a walk that looks for the word by its names: other names can make the same word
abbrev pub Compared : Slots → List ℕ → Bytes → ℕ → Look → Type 0
Compared k set w at look.Empty = get_or set at 0 ≡ 0
Compared k set w at look.Met = (get_or set at 0 ≡ 0 → ⊥) × (w ≡ k.word (get_or set at 0))
Compared k set w at look.Other = get_or set at 0 ≡ 0 → ⊥

-- what the end of the walk over the slots of a word that is to be put says
abbrev pub Probed : Slots → List ℕ → Bytes → Sought → Type 0
Probed k set w sought.Found = one_of w (held k set) ≡ true
Probed k set w (sought.Vacant s) = Room set w s
Probed k set w sought.Exhausted = Unit {0}

-- words were put: all of them, or some
pub record Gained (k : Slots) (words : List Bytes) (before after : List ℕ) (left : Bool) : Type 0 where
  pub reachable : Reachable k after
  pub all : left ≡ false → (t : Bytes) → one_of t (held k after) ≡ one_of t words || one_of t (held k before)
  pub sound : (t : Bytes) → T (one_of t (held k after)) → T (one_of t words || one_of t (held k before))
  pub kept : (t : Bytes) → T (one_of t (held k before)) → T (one_of t (held k after))
