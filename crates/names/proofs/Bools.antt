-- Booleans read as statements. Assumes nothing.
use mathlib.Core.Path.{◌≡◌, refl}
use mathlib.Core.Bool.{Bool, true, false, ◌&&◌, ◌||◌}
use mathlib.Core.Logic.{◌⊎◌, inl, inr}
use lib.Dec.{T}

pub bool-ext : (a b : Bool) → (T a → T b) → (T b → T a) → a ≡ b
bool-ext true true f g = refl
bool-ext true false f g = absurd (f tt)
bool-ext false true f g = absurd (g tt)
bool-ext false false f g = refl

-- a test that passes, and one that fails
pub is_true : (a : Bool) → T a → a ≡ true
is_true true h = refl
is_true false h = absurd h

pub is_false : (a : Bool) → (T a → ⊥) → a ≡ false
is_false true h = absurd (h tt)
is_false false h = refl

pub and_left : (a b : Bool) → T (a && b) → T a
and_left true b h = tt
and_left false b h = absurd h

pub and_right : (a b : Bool) → T (a && b) → T b
and_right true b h = h
and_right false b h = absurd h

pub and_both : (a b : Bool) → T a → T b → T (a && b)
and_both true b h i = i
and_both false b h i = absurd h

pub or_cases : (a b : Bool) → T (a || b) → T a ⊎ T b
or_cases true b h = inl tt
or_cases false b h = inr h

pub or_left : (a b : Bool) → T a → T (a || b)
or_left true b h = tt
or_left false b h = absurd h

pub or_right : (a b : Bool) → T b → T (a || b)
or_right true b h = tt
or_right false b h = h

-- the first of two tests answered r: it passed, or the second decides
pub or-found : {r a : Bool} (b : Bool) → r ≡ a → r ≡ true → true ≡ a || b
or-found b e t = rw (← e, t)

pub or-passed : {r a s b : Bool} → r ≡ a → r ≡ false → s ≡ b → s ≡ a || b
or-passed e f g = rw (← e, f) g
