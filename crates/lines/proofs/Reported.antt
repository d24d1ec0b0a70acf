-- The line of a check's answer is that of its report, and its text lies within the message buffer. Assumes nothing.
use Rattle.std.specs.Prelude.{Result, Ok, Err}
use Rattle.fields.specs.declared.Refusal.{Refusal}
use Rattle.story.specs.declared.Sections.{Sections}
use mathlib.Core.Path.{◌≡◌, refl, sym, ap}
use mathlib.Core.Bool.{Bool, true, false}
use mathlib.Core.List.{List}
use Prim.Native.Nat.{ℕ, ◌-◌, ◌*◌, ◌≤◌, ◌<◌}
use native.Mathlib.Omega.{arith}
use lib.Dec.{ltb}
use lib.ListN.{length, length-append}
use lib.Seq.{length-take-le, take-append_seam}
use borrow.Author.Tests.{lt-ltb, le-ltb}
use Rattle.fields.specs.Bytes.{pick}
use Rattle.names.specs.Words.{Bytes}
use Rattle.records.specs.Buffers.{overlay}
use Rattle.story.specs.Story.{Story}
use Rattle.story.specs.File.{read_of, story_in}
use Rattle.messages.specs.Messages.{Wrote}
use Rattle.validator.specs.Results.{Answer, result_of}
use Rattle.validator.specs.Check.{Report, refusing, story_report, report_at, report_of}
use Rattle.validator.specs.Checked.{Checked}
use Rattle.lines.specs.Lines.{report_line, line_room, check_line, input_report, text_length, line_of, Within}
use Rattle.lines.proofs.Digits.{wrote_none}

-- 1. A report's result tells how long its text is

record Sized (p : Report) : Type 0 where
  size_is : text_length p.result ≡ length p.text

tested : (file : List ℕ) (s : Story) (a b : Bool) → Sized (pick a (refusing 7) (pick b (refusing 8) (story_report file s)))
unfolding text_length story_report
tested file s true b = record { size_is = refl }
tested file s false true = record { size_is = refl }
tested file s false false = record { size_is = refl }

sized : (o : Result Sections Refusal) (file : List ℕ) (index message : ℕ) → Sized (report_at o file index message)
unfolding text_length report_at
sized (Err r) file index message = record { size_is = refl }
sized (Ok c) file index message = tested file (story_in c file) (ltb index (3 * (length file - 20))) (ltb message 640)

-- 2. The answer of a check

module _ {file index message : List ℕ} {r : Answer} {index' message' : List ℕ} (p : Checked file index message r index' message') where
  text-size : text_length (result_of r) ≡ length (report_of file (length index) (length message)).text
  unfolding report_of
  text-size = rw p.reported.result (sized (read_of file) file (length index) (length message)).size_is

  pub text-fits : text_length (result_of r) ≤ length message'
  unfolding overlay
  text-fits = omega (arith, text-size, simp length-append at (ap length p.reported.message_is))

  pub answer-line : line_of r message' ≡ report_line (report_of file (length index) (length message))
  unfolding overlay
  answer-line = rw (text-size, p.reported.message_is, p.reported.result, take-append_seam)

-- 3. The line of a check, by the length of its buffer

module _ (file : List ℕ) (index message out : ℕ) where
  pub none_written : out < line_room message → (buffer : List ℕ) → Wrote buffer 0 (check_line file index message out) buffer 0
  unfolding check_line
  none_written h buffer = rw (lt-ltb out (line_room message) h) wrote_none

  pub long-out : line_room message ≤ out → check_line file index message out ≡ report_line (report_of file index message)
  unfolding check_line
  long-out h = rw (le-ltb out (line_room message) h)

  pub line-written : line_room message ≤ out → {a b : List ℕ} {end : ℕ} → Wrote a 0 (report_line (report_of file index message)) b end
      → Wrote a 0 (check_line file index message out) b end
  line-written h w = rw (long-out h) w

-- 4. The input of the program

module _ (input : Bytes) where
  pub long-input : 4096 < length input → input_report input ≡ refusing 1
  unfolding input_report
  long-input h = rw (lt-ltb 4096 (length input) h)

  pub short-input : length input ≤ 4096 → input_report input ≡ report_of input 12228 640
  unfolding input_report
  short-input h = rw (le-ltb 4096 (length input) h)

-- what is written from the start on stands there
pub wrote-within : {before after : List ℕ} {bytes : Bytes} {end : ℕ} → Wrote before 0 bytes after end → Within end after
wrote-within {after = after} {end = end} w =
    let fits : end ≤ length after = omega (arith, w.ends, simp length-append at (ap length w.written)) in
    (fits, sym (length-take-le end after fits))
