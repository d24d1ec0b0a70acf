-- The number of a refusal tells which it is: `refusal-at`. Assumes nothing.
use mathlib.Core.Path.{◌≡◌, refl}
use mathlib.Core.List.{List, ◌∷◌}
use lib.ListN.{get_or}
use Rattle.fields.specs.declared.Refusal.{Refusal}
use Rattle.fields.specs.declared.Refusal.TheVariants.{Length, Mark, Starts, Short, Unknown, Deep}
use Rattle.fields.specs.Refusals.{refusal_number}

-- what f makes of each refusal, in the order of their numbers from 1 on, then others
unfoldable pub by_number : {A : Type 0} → (Refusal → A) → A → List A → List A
by_number f none others = none ∷ f Length ∷ f Mark ∷ f Starts ∷ f Short ∷ f Unknown ∷ f Deep ∷ others

-- at the number of a refusal stands what f makes of it
pub refusal-at : {A : Type 0} (f : Refusal → A) (none : A) (others : List A) (r : Refusal) → get_or (by_number f none others) (refusal_number r) none ≡ f r
unfolding by_number refusal_number
refusal-at f none others Length = refl
refusal-at f none others Mark = refl
refusal-at f none others Starts = refl
refusal-at f none others Short = refl
refusal-at f none others Unknown = refl
refusal-at f none others Deep = refl
