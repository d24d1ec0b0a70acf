-- 01's impostors, refuted: on a small file, with buffers that are long enough, the wrong answer does not meet the contract of a check. Assumes nothing.
use Rattle.std.specs.Prelude.{Result}
use Rattle.fields.specs.declared.Refusal.{Refusal}
use Rattle.story.specs.declared.Sections.{Sections}
use mathlib.Core.Path.{◌≡◌, refl, ◌∙◌, ap}
use mathlib.Core.List.{List, [], ◌∷◌, ◌++◌, map}
use Prim.Native.Nat.{ℕ, ◌≤◌}
use native.Mathlib.Omega.{arith}
use lib.ListN.{length, get_or}
use Rattle.std.proofs.Common.{Ok, Err}
use borrow.Author.Tests.{le-ltb}
use Rattle.fields.specs.declared.Refusal.TheVariants.{Short}
use Rattle.fields.specs.Refusals.{refusal_number}
use Rattle.names.specs.Words.{Bytes}
use Rattle.names.specs.Text.{ascii}
use Rattle.records.specs.Buffers.{overlay}
use Rattle.story.specs.File.{read_of}
use Rattle.symbols.specs.Numbers.{absent, index_room}
use Rattle.validator.specs.declared.Verdict.TheVariants.{Accepted, Breached}
use Rattle.validator.specs.declared.CheckRefusal.TheVariants.{Unreadable}
use Rattle.validator.specs.declared.Breach.{Breach}
use Rattle.validator.specs.Results.{accepted, breach, checked, Answer, result_of}
use Rattle.validator.specs.Check.{Report, refusing, report_at, report_of}
use Rattle.validator.specs.Checked.{Reported, Checked}
use Rattle.validator.proofs.Examples.{hex, Row, row, reported, table, examples}

-- the buffers are long enough for the file
pub record Room (file index message : List ℕ) : Type 0 where
  pub index-room : index_room file ≤ length index
  pub message-room : 640 ≤ length message

-- buffers that are longer than the file asks for change nothing in what is reported
longer : (o : Result Sections Refusal) (file : List ℕ) (i j m n : ℕ) → index_room file ≤ i → index_room file ≤ j → 640 ≤ m → 640 ≤ n → report_at o file i m ≡ report_at o file j n
unfolding report_at
longer (Err r) file i j m n a b c d = refl
longer (Ok s) file i j m n a b c d = rw (le-ltb i (index_room file) a, le-ltb j (index_room file) b, le-ltb m 640 c, le-ltb n 640 d)

-- the row of the table with the number, from 0: reported, and expected
abbrev row_reported : ℕ → Report
row_reported n = get_or (map reported table) n (refusing 0)

abbrev row_expected : ℕ → Report
row_expected n = get_or (map (λ (r : Row). r.report) table) n (refusing 0)

as-expected : (n : ℕ) → row_reported n ≡ row_expected n
as-expected n = ap (λ (l : List Report). get_or l n (refusing 0)) examples.p1-to-p10

-- P1: the empty story
unfoldable pub empty_story : Bytes
empty_story = hex "" ++ hex "00000000000000000000000000000000494b0100"

-- P2: a divert to x, which is not found
unfoldable pub lost_divert : Bytes
lost_divert = hex "03020000000178" ++ hex "00000000000000000000000007000000494b0100"

-- P3: a global x, and a divert to it
unfoldable pub global_story : Bytes
global_story = hex "017803020000000178" ++ hex "00000000020000000200000009000000494b0100"

-- P9: a breach of rule 11 in a knot, and none in the root
unfoldable pub broken_knot : Bytes
broken_knot = hex "2600000000016b00001d000000081800000000000000000e0000000e0900000000000000000000000000" ++ hex "00000000000000000000000000000000494b0100"

module _ {file index message : List ℕ} {r : Answer} {index' message' : List ℕ} (room : Room file index message) (p : Checked file index message r index' message') where
  -- what a check leaves and answers, by a report of the same file with other buffers that are long enough
  reports-as : (i m : ℕ) → index_room file ≤ i → 640 ≤ m → Reported (report_of file i m) index message r index' message'
  unfolding report_of
  reports-as i m h k = rw (longer (read_of file) file (length index) i (length message) m room.index-room h room.message-room k) at p.reported

-- THE IMPOSTORS: for each, that the contract of a check, of its answer on a small file, is absurd
pub record Impostors : Type 0 where
  -- one accepting all stories; it accepts a divert to nowhere
  pub accepting-all : (index message index' message' : List ℕ) (n : ℕ) → Room lost_divert index message
      → Checked lost_divert index message (Ok (Accepted n)) index' message' → ⊥
  -- one answering refusal 4 for all; it refuses the empty story
  pub refusing-all : (index message index' message' : List ℕ) → Room empty_story index message
      → Checked empty_story index message (Err (Unreadable Short)) index' message' → ⊥
  -- one naming the same breach always, whichever it is; it names it in the empty story
  pub same-breach-always : (b : Breach) (index message index' message' : List ℕ) → Room empty_story index message
      → Checked empty_story index message (Ok (Breached b)) index' message' → ⊥
  -- one leaving the index as it was, which does not begin with the number for none by chance
  pub index-left-blank : (r : Answer) (index message message' : List ℕ) → (get_or index 0 0 ≡ absent → ⊥) → Room global_story index message
      → Checked global_story index message r index message' → ⊥
  -- one leaving the message buffer as it was, which does not begin with a D by chance
  pub message-left-blank : (r : Answer) (index message index' : List ℕ) → (get_or message 0 0 ≡ 68 → ⊥) → Room lost_divert index message
      → Checked lost_divert index message r index' message → ⊥
  -- one walking the root and taking the flows as read; it accepts a knot in breach
  pub flows-taken-as-read : (index message index' message' : List ℕ) (n : ℕ) → Room broken_knot index message
      → Checked broken_knot index message (Ok (Accepted n)) index' message' → ⊥
  -- one with an invented entry count; the empty story has none
  pub invented-count : (index message index' message' : List ℕ) (n : ℕ) → (n ≡ 0 → ⊥) → Room empty_story index message
      → Checked empty_story index message (Ok (Accepted n)) index' message' → ⊥

-- the reports of the four files, with buffers of exactly the room
pub empty-report : report_of empty_story 0 640 ≡ record { result = checked accepted 0 0; numbers = []; text = ascii "" }
unfolding empty_story table row reported
empty-report = as-expected 0

lost-report : report_of lost_divert 21 640 ≡ record { result = checked (breach 2 0 (5, absent)) 0 31; numbers = []; text = ascii "Divert target not found: '-> x'" }
unfolding lost_divert table row reported
lost-report = as-expected 1

global-report : report_of global_story 27 640 ≡ record { result = checked accepted 1 0; numbers = absent ∷ absent ∷ 0 ∷ []; text = ascii "" }
unfolding global_story table row reported
global-report = as-expected 2

knot-report : report_of broken_knot 126 640 ≡ record { result = checked (breach 11 27 (absent, absent)) 1 61; numbers = absent ∷ absent ∷ 5 ∷ []; text = ascii "Choices with conditions need to explicitly divert afterwards." }
unfolding broken_knot table row reported
knot-report = as-expected 13

-- the room that each file asks for
empty-room : index_room empty_story ≤ 0
unfolding empty_story hex
empty-room = omega arith

lost-room : index_room lost_divert ≤ 21
unfolding lost_divert hex
lost-room = omega arith

global-room : index_room global_story ≤ 27
unfolding global_story hex
global-room = omega arith

knot-room : index_room broken_knot ≤ 126
unfolding broken_knot hex
knot-room = omega arith

module _ {index message : List ℕ} {r : Answer} {index' message' : List ℕ} where
  -- what every check of each of the four files leaves and answers
  of-empty : Room empty_story index message → Checked empty_story index message r index' message'
      → Reported (record { result = checked accepted 0 0; numbers = []; text = ascii "" }) index message r index' message'
  of-empty room p = rw empty-report at (reports-as room p 0 640 empty-room (omega arith))

  of-lost : Room lost_divert index message → Checked lost_divert index message r index' message'
      → Reported (record { result = checked (breach 2 0 (5, absent)) 0 31; numbers = []; text = ascii "Divert target not found: '-> x'" }) index message r index' message'
  of-lost room p = rw lost-report at (reports-as room p 21 640 lost-room (omega arith))

  of-global : Room global_story index message → Checked global_story index message r index' message'
      → Reported (record { result = checked accepted 1 0; numbers = absent ∷ absent ∷ 0 ∷ []; text = ascii "" }) index message r index' message'
  of-global room p = rw global-report at (reports-as room p 27 640 global-room (omega arith))

  of-knot : Room broken_knot index message → Checked broken_knot index message r index' message'
      → Reported (record { result = checked (breach 11 27 (absent, absent)) 1 61; numbers = absent ∷ absent ∷ 5 ∷ []; text = ascii "Choices with conditions need to explicitly divert afterwards." }) index message r index' message'
  of-knot room p = rw knot-report at (reports-as room p 126 640 knot-room (omega arith))

pub impostors : Impostors
unfolding result_of refusal_number overlay
impostors = record {
  accepting-all = λ index message index' message' n room p. let e = (of-lost room p).result in let z : ◌≡◌ {A = ℕ} 0 1 = cc in omega arith;
  refusing-all = λ index message index' message' room p. let e = (of-empty room p).result in let z : ◌≡◌ {A = ℕ} 0 1 = cc in omega arith;
  same-breach-always = λ b index message index' message' room p. let e = (of-empty room p).result in let z : ◌≡◌ {A = ℕ} 0 1 = cc in omega arith;
  index-left-blank = λ r index message message' h room p. h (ap (λ (l : List ℕ). get_or l 0 0) (of-global room p).index_is);
  message-left-blank = λ r index message index' h room p. h (ap (λ (l : List ℕ). get_or l 0 0) (of-lost room p).message_is);
  flows-taken-as-read = λ index message index' message' n room p. let e = (of-knot room p).result in let z : ◌≡◌ {A = ℕ} 0 1 = cc in omega arith;
  invented-count = λ index message index' message' n h room p. let e = (of-empty room p).result in h (cc);
}

-- what is reported of the files in breach with buffers of exactly the room, and of the empty story with any that are long enough
pub lost-reported : (report_of lost_divert 21 640).result ≡ checked (breach 2 0 (5, absent)) 0 31
lost-reported = ap (λ (x : Report). x.result) lost-report

pub knot-reported : (report_of broken_knot 126 640).result ≡ checked (breach 11 27 (absent, absent)) 1 61
knot-reported = ap (λ (x : Report). x.result) knot-report

pub empty-reported : {index message : List ℕ} → Room empty_story index message → (report_of empty_story (length index) (length message)).result ≡ checked accepted 0 0
unfolding report_of
empty-reported {index} {message} room =
    ap (λ (x : Report). x.result) (longer (read_of empty_story) empty_story (length index) 0 (length message) 640 room.index-room empty-room room.message-room (omega arith) ∙ empty-report)
