-- The line that the program prints for an input: `accepted`, `refused N`, or `breach R at P: TEXT`, ended by 0x0A. Assumes nothing.
use Rattle.std.specs.Prelude.{ℕ, zero, suc, ◌+◌, ◌/◌, ◌%◌, ◌≤◌, ◌≡◌, List, [], ◌∷◌, ◌++◌, ltb, length, take}
use Rattle.fields.specs.Bytes.{pick}
use Rattle.names.specs.Words.{Bytes}
use Rattle.names.specs.Text.{ascii}
use Rattle.validator.specs.Results.{accepted, breach, Result, refused, checked, Answer, result_of}
use Rattle.validator.specs.Check.{Report, refusing, report_of}

-- a number below 10 ^ k in decimal, with no zeros in front; where k is 0, nothing
unfoldable pub digits : ℕ → ℕ → Bytes
digits zero n = []
digits (suc k) n = pick (ltb n 10) ((48 + n) ∷ []) (digits k (n / 10) ++ ((48 + n % 10) ∷ []))

-- a number of 64 bits in decimal
abbrev pub decimal : ℕ → Bytes
decimal n = digits 20 n

-- the byte that ends a line
abbrev pub ended : Bytes
ended = 10 ∷ []

-- the line of a story that is accepted
abbrev pub accepted_line : Bytes
accepted_line = ascii "accepted" ++ ended

-- the line of a refusal, by its number
abbrev pub refused_line : ℕ → Bytes
refused_line n = ascii "refused " ++ (decimal n ++ ended)

-- the line of a breach, by its rule, its place and its text
abbrev pub breach_line : ℕ → ℕ → Bytes → Bytes
breach_line rule place text =
    ascii "breach " ++ (decimal rule ++ (ascii " at " ++ (decimal place ++ (ascii ": " ++ (text ++ ended)))))

-- the line of a result, with its text
unfoldable pub result_line : Result → Bytes → Bytes
result_line (refused n) text = refused_line n
result_line (checked accepted entries size) text = accepted_line
result_line (checked (breach rule place names) entries size) text = breach_line rule place text

-- the line of what a check reports
abbrev pub report_line : Report → Bytes
report_line report = result_line report.result report.text

-- the room that a line wants in its buffer, by the length of the message buffer
abbrev pub line_room : ℕ → ℕ
line_room message = message + 60

-- THE LINE of a check with buffers of these lengths: its report's; none where the line's buffer is shorter than its room
unfoldable pub check_line : List ℕ → ℕ → ℕ → ℕ → Bytes
check_line file index message out = pick (ltb out (line_room message)) [] (report_line (report_of file index message))

-- what the program reports of an input: more than 4,096 bytes are refused by 1; else what a check reports with an index of 12,228 numbers and a message buffer of 640 bytes
unfoldable pub input_report : Bytes → Report
input_report input = pick (ltb 4096 (length input)) (refusing 1) (report_of input 12228 640)

-- THE LINE that the program prints for an input
abbrev pub input_line : Bytes → Bytes
input_line input = report_line (input_report input)

-- the length of a result's text; a refusal has none
unfoldable pub text_length : Result → ℕ
text_length (refused n) = 0
text_length (checked judged entries size) = size

-- the line of an answer whose text stands at the start of the message buffer
abbrev pub line_of : Answer → Bytes → Bytes
line_of answer message = result_line (result_of answer) (take (text_length (result_of answer)) message)

-- so many bytes stand at a buffer's start; the second part follows from the first, and a part of the buffer asks for both
abbrev pub Within : ℕ → List ℕ → Type 0
Within n buffer = (n ≤ length buffer) × (n ≡ length (take n buffer))
