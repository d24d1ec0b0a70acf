-- The number of each refusal of a file that cannot be read.
use Rattle.std.specs.Prelude.{ℕ}
use Rattle.fields.specs.declared.Refusal.{Refusal}
use Rattle.fields.specs.declared.Refusal.TheVariants.{Length, Mark, Starts, Short, Unknown, Deep}

-- the paper's number
unfoldable pub refusal_number : Refusal → ℕ
refusal_number Length = 1
refusal_number Mark = 2
refusal_number Starts = 3
refusal_number Short = 4
refusal_number Unknown = 5
refusal_number Deep = 6
