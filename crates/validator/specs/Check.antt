-- THE CHECK, for any bytes and any buffers: its result, and what it leaves in the index and in the message buffer.
use Rattle.std.specs.Prelude as std
use Rattle.fields.specs.declared.Refusal.{Refusal}
use Rattle.story.specs.declared.Sections.{Sections}
use Rattle.std.specs.Prelude.{ℕ, List, [], map, length, ltb, Ok, Err}
use Rattle.std.proofs.Math.Option.{Option, none, some}
use Rattle.fields.specs.Bytes.{pick}
use Rattle.fields.specs.Refusals.{refusal_number}
use Rattle.names.specs.Words.{Bytes}
use Rattle.names.specs.Counted.{name_at}
use Rattle.story.specs.Story.{Story}
use Rattle.story.specs.File.{read_of, story_in}
use Rattle.symbols.specs.Index.{entries}
use Rattle.symbols.specs.Numbers.{index_room, places_of, numbers}
use Rattle.rules.specs.Rules.{number}
use Rattle.rules.specs.Steps.{Breach, verdict}
use Rattle.messages.specs.Messages.{message}
use Rattle.validator.specs.Results.{Judged, accepted, breach, Result, refused, checked}

-- the verdict by its number and values
unfoldable pub judged_of : Option Breach → Judged
judged_of none = accepted
judged_of (some b) = breach (number b.rule) b.place b.names

-- the text of the verdict, its names read from the file; none where the story is accepted
unfoldable pub text_of : List ℕ → Option Breach → Bytes
text_of file none = []
text_of file (some b) = message b.rule (name_at file b.names.0) (name_at file b.names.1)

-- what a check reports: its result, the numbers that it writes at the index's start, and the bytes at the message buffer's
pub record Report : Type 0 where
  pub result : Result
  pub numbers : List ℕ
  pub text : Bytes

-- a refusal returns its number only
abbrev pub refusing : ℕ → Report
refusing n = record { result = refused n; numbers = []; text = [] }

-- a readable story: its verdict, its entries and its text
unfoldable pub story_report : List ℕ → Story → Report
story_report file s = record {
  result = checked (judged_of (verdict s)) (length (entries s)) (length (text_of file (verdict s)));
  numbers = numbers (map places_of (entries s));
  text = text_of file (verdict s);
}

-- refusals 1 to 6 by reading; 7, the index is shorter than its room, 3 × (L-20); 8, the message buffer is under 640
unfoldable pub report_at : std.Result Sections Refusal → List ℕ → ℕ → ℕ → Report
report_at (Err r) file index message = refusing (refusal_number r)
report_at (Ok c) file index message =
    pick (ltb index (index_room file)) (refusing 7)
    (pick (ltb message 640) (refusing 8) (story_report file (story_in c file)))

-- THE REPORT on a file with buffers of these lengths
unfoldable pub report_of : List ℕ → ℕ → ℕ → Report
report_of file index message = report_at (read_of file) file index message
