-- What a check with its line promises, and what the program's line promises, for any bytes and any buffers.
use Rattle.std.specs.Prelude.{ℕ, ◌≡◌, List, length}
use Rattle.records.specs.Buffers.{overlay}
use Rattle.messages.specs.Messages.{Wrote}
use Rattle.validator.specs.Results.{Answer}
use Rattle.validator.specs.Checked.{Checked}
use Rattle.lines.specs.Lines.{check_line, input_report, input_line, Within}

-- THE PROMISE of a check with its line: that of a check, and at the start of the line's buffer the line, of n bytes; the rest stays
pub record CheckLined (file index message out : List ℕ) (r : Answer) (n : ℕ) (index' message' out' : List ℕ) : Type 0 where
  pub checked : Checked file index message r index' message'
  pub wrote : Wrote out 0 (check_line file (length index) (length message) (length out)) out' n
  pub within : Within n out'

-- THE PROMISE of the program's line, of n bytes: the line for the input, and index and message as its report has them; the rest of each stays
pub record InputLined (input index message out : List ℕ) (n : ℕ) (index' message' out' : List ℕ) : Type 0 where
  pub wrote : Wrote out 0 (input_line input) out' n
  pub index_is : index' ≡ overlay (input_report input).numbers index
  pub message_is : message' ≡ overlay (input_report input).text message
  pub within : Within n out'
