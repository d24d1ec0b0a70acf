-- `refusal_number`: the numbers of the variants. Assumes nothing.
use Rattle.std.proofs.Common.{◌≡◌, ◌+◌, refl}
use denote.Enum.Declared.{tag_of}
use Rattle.fields.specs.contracts.Refusal.{the_type}
use Rattle.fields.specs.declared.Refusal.{Refusal}
use Rattle.fields.specs.declared.Refusal.TheVariants.{Length, Mark, Starts, Short, Unknown, Deep}
use Rattle.fields.specs.Refusals.{refusal_number}
use Rattle.fields.proofs.refusal_number.Goals as goal

-- the numbers are those of the variants
numbered : (r : Refusal) → tag_of the_type r + 1 ≡ refusal_number r
unfolding refusal_number
numbered Length = refl
numbered Mark = refl
numbered Starts = refl
numbered Short = refl
numbered Unknown = refl
numbered Deep = refl

pub returns : goal.returns
returns c = numbered c.args.r
