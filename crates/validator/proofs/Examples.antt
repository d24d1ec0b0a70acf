-- P1 to P10 as one table: input, lengths of the buffers, and what the check reports; rows beside them; and an example of each refusal. Assumes nothing.
use mathlib.Core.Path.{◌≡◌, refl}
use mathlib.Core.List.Memᴰ
use mathlib.Core.List.{List, [], ◌∷◌, ◌++◌, map}
use mathlib.Core.Logic.{⊎_elim}
use Prim.Native.Nat.{ℕ, zero, suc, ◌+◌, ◌-◌, ◌*◌, ◌/◌, ◌%◌}
use Prim.Native.Char.{code}
use Prim.Native.String.{String, [] as empty, ◌∷◌ as ◌then◌}
use lib.Dec.{ltb}
use lib.ListN.{length}
use Rattle.fields.specs.Bytes.{pick, head_of, list_of, name_of, flag_of}
use Rattle.fields.specs.Kinds.{expr_kind, cond_kind, node_kind, kind_of}
use Rattle.fields.specs.Refusals.{refusal_number}
use Rattle.names.specs.Words.{Bytes, ◌∈◌}
use Rattle.names.specs.Text.{ascii}
use Rattle.names.specs.Counted.{name_at}
use Rattle.names.specs.Reserved.{builtins}
use Rattle.records.specs.Trace.{and_then, shift, met, ends}
use Rattle.records.specs.Grammar.{front_at, ending, repeat_n, repeat, exact, piece_at, named_at, flagged_at, moded, last, or_else, arms, options, tested, branch, body_of, whole, too_deep, record_of, nodes}
use Rattle.records.specs.Items.{name_in, sort_of, name_start, nameless, record_name, labelled as is_labelled, in_branch, ending_at, ending_n, end_with_divert, spanned, past, unlabelled, second_list, choice_body, leaves, what_of, item_as, item_of, items_ended, items_in}
use Rattle.story.specs.Headings.{reach_at, names_reach, counted_reach, list_at, marks_at, params_at, name_then, heading_of}
use Rattle.story.specs.Flows.{names, names_then, counted, titled, stitch, flow, flows, names_n, names_in, counted_in, part, titled_at, titled_in, pieces_at, pieces_n, pieces_in, stitch_in, title_end, flow_in, flows_in}
use Rattle.story.specs.File.{marked, start_at, opened_of, sections_read, read_ended, read_at, read_of, story_in}
use Rattle.symbols.specs.Index.{labelled, stitch_entries, flow_entries, entries}
use Rattle.symbols.specs.Numbers.{absent, numbers}
use Rattle.rules.specs.Rules.{broken, known, here}
use Rattle.rules.specs.Steps.{over, stitch_runs, flow_runs, runs, breaches, verdict}
use Rattle.messages.specs.Messages.{message}
use Rattle.validator.specs.Results.{accepted, breach, Result, refused, checked, Answer}
use Rattle.validator.specs.Check.{judged_of, text_of, Report, story_report, report_at, report_of}
use Rattle.validator.specs.Checked.{Reported, Checked}

-- a digit, 0 to 9 and a to f, by its code
unfoldable pub digit : ℕ → ℕ
digit c = pick (ltb c 58) (c - 48) (c - 87)

-- bytes written as pairs of digits
unfoldable pub hex : String → Bytes
hex empty = []
hex (a then empty) = []
hex (a then (b then s)) = (digit (code a) * 16 + digit (code b)) ∷ hex s

-- a file, the lengths of index and message buffer, and the report expected
pub record Row : Type 0 where
  pub file : Bytes
  pub index : ℕ
  pub message : ℕ
  pub report : Report

unfoldable pub row : Bytes → ℕ → ℕ → Result → List ℕ → Bytes → Row
row file index message result numbers text = record {
  file = file;
  index = index;
  message = message;
  report = record { result = result; numbers = numbers; text = text };
}

-- what the check reports of it
unfoldable pub reported : Row → Report
reported r = report_of r.file r.index r.message

-- THE TABLE, P1 to P10: the sections and the trailer; lengths of index and message buffer; result, index, text
unfoldable pub table : List Row
table =
    -- P1 the empty story
    row (hex "" ++ hex "00000000000000000000000000000000494b0100") 0 640
    (checked accepted 0 0) [] (ascii "")
    ∷
    -- P2 -> x
    row (hex "03020000000178" ++ hex "00000000000000000000000007000000494b0100") 21 640
    (checked (breach 2 0 (5, absent)) 0 31) [] (ascii "Divert target not found: '-> x'")
    ∷
    -- P3 it with global x
    row (hex "017803020000000178" ++ hex "00000000020000000200000009000000494b0100") 27 640
    (checked accepted 1 0) (absent ∷ absent ∷ 0 ∷ []) (ascii "")
    ∷
    -- P4 targets "", "->" and "$x"
    row (hex "0301000000000303000000022d3e0303000000022478" ++ hex "00000000000000000000000016000000494b0100") 66 640
    (checked accepted 0 0) [] (ascii "")
    ∷
    -- P5 function f, root -> f, global f too
    row (hex "01660302000000016609000000010166000000000000" ++ hex "00000000020000000200000009000000494b0100") 66 640
    (checked (breach 1 2 (7, absent)) 2 62) (absent ∷ absent ∷ 0 ∷ absent ∷ absent ∷ 14 ∷ []) (ascii "Function 'f' can only be called as a function, not diverted to")
    ∷
    -- P6 knot k, stitch s: -> s
    row (hex "030200000001731500000000016b000000000000080000000173000000000000" ++ hex "00000000000000000000000007000000494b0100") 96 640
    (checked accepted 2 0) (absent ∷ absent ∷ 12 ∷ 12 ∷ absent ∷ 24 ∷ []) (ascii "")
    ∷
    -- -> k.s
    row (hex "0304000000036b2e731500000000016b000000000000080000000173000000000000" ++ hex "00000000000000000000000009000000494b0100") 102 640
    (checked accepted 2 0) (absent ∷ absent ∷ 14 ∷ 14 ∷ absent ∷ 26 ∷ []) (ascii "")
    ∷
    -- -> .s
    row (hex "0303000000022e731500000000016b000000000000080000000173000000000000" ++ hex "00000000000000000000000008000000494b0100") 99 640
    (checked (breach 2 0 (5, absent)) 2 32) (absent ∷ absent ∷ 13 ∷ 13 ∷ absent ∷ 25 ∷ []) (ascii "Divert target not found: '-> .s'")
    ∷
    -- P7 beside a knot k, function f: its body -> END
    row (hex "12000000010166000009000000030400000003454e440900000000016b000000000000" ++ hex "00000000000000000000000000000000494b0100") 105 640
    (checked accepted 2 0) (absent ∷ absent ∷ 5 ∷ absent ∷ absent ∷ 27 ∷ []) (ascii "")
    ∷
    -- -> k
    row (hex "100000000101660000070000000302000000016b0900000000016b000000000000" ++ hex "00000000000000000000000000000000494b0100") 99 640
    (checked (breach 14 13 (5, 18)) 2 52) (absent ∷ absent ∷ 5 ∷ absent ∷ absent ∷ 25 ∷ []) (ascii "Function 'f' may not contain diverts (found '-> k').")
    ∷
    -- a thread to k
    row (hex "100000000101660000070000000502000000016b0900000000016b000000000000" ++ hex "00000000000000000000000000000000494b0100") 99 640
    (checked accepted 2 0) (absent ∷ absent ∷ 5 ∷ absent ∷ absent ∷ 25 ∷ []) (ascii "")
    ∷
    -- P8 two choices labelled a
    row (hex "0e0b00000001016100000000000000000e0b0000000101610000000000000000" ++ hex "00000000000000000000000020000000494b0100") 96 640
    (checked accepted 2 0) (absent ∷ absent ∷ 6 ∷ absent ∷ absent ∷ 22 ∷ []) (ascii "")
    ∷
    -- two gathers a
    row (hex "0f0200000001610f020000000161" ++ hex "0000000000000000000000000e000000494b0100") 42 640
    (checked (breach 10 7 (12, absent)) 2 68) (absent ∷ absent ∷ 5 ∷ absent ∷ absent ∷ 12 ∷ []) (ascii "A gather point with the same label 'a' already exists in this scope.")
    ∷
    -- P9 an undiverted choice in a conditional, in a knot
    row (hex "2600000000016b00001d000000081800000000000000000e0000000e0900000000000000000000000000" ++ hex "00000000000000000000000000000000494b0100") 126 640
    (checked (breach 11 27 (absent, absent)) 1 61) (absent ∷ absent ∷ 5 ∷ []) (ascii "Choices with conditions need to explicitly divert afterwards.")
    ∷
    -- in a stitch
    row (hex "3200000000016b00000000000025000000017300001d000000081800000000000000000e0000000e0900000000000000000000000000" ++ hex "00000000000000000000000000000000494b0100") 162 640
    (checked accepted 2 0) (absent ∷ absent ∷ 5 ∷ 5 ∷ absent ∷ 17 ∷ []) (ascii "")
    ∷
    -- P10 knot temp t, stitch prints t
    row (hex "2e00000000016b00000d0000000d08000000010174000000000014000000017300000c000000020700000001020000000174" ++ hex "00000000000000000000000000000000494b0100") 150 640
    (checked (breach 15 43 (48, absent)) 2 22) (absent ∷ absent ∷ 5 ∷ 5 ∷ absent ∷ 30 ∷ []) (ascii "Unresolved variable: t")
    ∷
    -- with its own temp t
    row (hex "3b00000000016b00000d0000000d0800000001017400000000002100000001730000190000000d080000000101740000000000020700000001020000000174" ++ hex "00000000000000000000000000000000494b0100") 189 640
    (checked accepted 2 0) (absent ∷ absent ∷ 5 ∷ 5 ∷ absent ∷ 30 ∷ []) (ascii "")
    ∷
    -- with its own temp t, set later
    row (hex "3b00000000016b00000d0000000d0800000001017400000000002100000001730000190000000207000000010200000001740d080000000101740000000000" ++ hex "00000000000000000000000000000000494b0100") 189 640
    (checked accepted 2 0) (absent ∷ absent ∷ 5 ∷ 5 ∷ absent ∷ 30 ∷ []) (ascii "")
    ∷ []

-- ITS NEIGHBOURS: rule 11 beside P9, by how a choice's body ends and by where the choice stands; and breaches in two stitches and in two flows,
-- of which the first's is reported, though the rule and the step of the second's are lower
unfoldable pub neighbours : List Row
neighbours =
    -- a choice in a conditional, in a knot: its body a tunnel
    row (hex "2d00000000016b000024000000081f0000000000000000150000000e100000000000000000070000000402000000016b00" ++ hex "00000000000000000000000000000000494b0100") 147 640
    (checked (breach 11 27 (absent, absent)) 1 61) (absent ∷ absent ∷ 5 ∷ []) (ascii "Choices with conditions need to explicitly divert afterwards.")
    ∷
    -- a thread
    row (hex "2d00000000016b000024000000081f0000000000000000150000000e100000000000000000070000000502000000016b00" ++ hex "00000000000000000000000000000000494b0100") 147 640
    (checked (breach 11 27 (absent, absent)) 1 61) (absent ∷ absent ∷ 5 ∷ []) (ascii "Choices with conditions need to explicitly divert afterwards.")
    ∷
    -- a divert, then a Newline
    row (hex "3200000000016b000029000000082400000000000000001a0000000e1500000000000000000c0000000302000000016b010000000000" ++ hex "00000000000000000000000000000000494b0100") 162 640
    (checked accepted 1 0) (absent ∷ absent ∷ 5 ∷ []) (ascii "")
    ∷
    -- plain
    row (hex "2b00000000016b000022000000081d0000000000000000130000000e0e000000000000000005000000000000000000" ++ hex "00000000000000000000000000000000494b0100") 141 640
    (checked (breach 11 27 (absent, absent)) 1 61) (absent ∷ absent ∷ 5 ∷ []) (ascii "Choices with conditions need to explicitly divert afterwards.")
    ∷
    -- a divert, then plain
    row (hex "3200000000016b000029000000082400000000000000001a0000000e1500000000000000000c0000000302000000016b000000000000" ++ hex "00000000000000000000000000000000494b0100") 162 640
    (checked (breach 11 27 (absent, absent)) 1 61) (absent ∷ absent ∷ 5 ∷ []) (ascii "Choices with conditions need to explicitly divert afterwards.")
    ∷
    -- without a body, in the second branch
    row (hex "2a00000000016b000021000000081c000000000000000000000000010e0000000e09000000000000000000000000" ++ hex "00000000000000000000000000000000494b0100") 138 640
    (checked (breach 11 32 (absent, absent)) 1 61) (absent ∷ absent ∷ 5 ∷ []) (ascii "Choices with conditions need to explicitly divert afterwards.")
    ∷
    -- in a branch of a switch
    row (hex "2600000000016b00001d00000009180000000000000000000e0000000e09000000000000000000000000" ++ hex "00000000000000000000000000000000494b0100") 126 640
    (checked (breach 11 28 (absent, absent)) 1 61) (absent ∷ absent ∷ 5 ∷ []) (ascii "Choices with conditions need to explicitly divert afterwards.")
    ∷
    -- in a sequence in a branch
    row (hex "2f00000000016b00002600000008210000000000000000170000000a120000000e0000000e0900000000000000000000000000" ++ hex "00000000000000000000000000000000494b0100") 153 640
    (checked accepted 1 0) (absent ∷ absent ∷ 5 ∷ []) (ascii "")
    ∷
    -- two broken stitches in a knot: gathers a twice in the first, -> x in the second
    row (hex "3600000000016b00000000000016000000017300000e0000000f0200000001610f0200000001610f000000017400000700000003020000000178" ++ hex "00000000000000000000000000000000494b0100") 174 640
    (checked (breach 10 32 (37, absent)) 5 68) (absent ∷ absent ∷ 5 ∷ 5 ∷ absent ∷ 17 ∷ 5 ∷ 17 ∷ 30 ∷ 5 ∷ 17 ∷ 37 ∷ 5 ∷ absent ∷ 43 ∷ []) (ascii "A gather point with the same label 'a' already exists in this scope.")
    ∷
    -- two broken knots: gathers a twice in the first, -> x in the second
    row (hex "1700000000016b00000e0000000f0200000001610f0200000001611000000000016c00000700000003020000000178" ++ hex "00000000000000000000000000000000494b0100") 141 640
    (checked (breach 10 20 (25, absent)) 4 68) (absent ∷ absent ∷ 5 ∷ 5 ∷ absent ∷ 18 ∷ 5 ∷ absent ∷ 25 ∷ absent ∷ absent ∷ 32 ∷ []) (ascii "A gather point with the same label 'a' already exists in this scope.")
    ∷ []

-- THE REFUSALS: 01's example of each

-- a record of the kind
headed : ℕ → Bytes → Bytes
headed kind payload = kind ∷ (length payload % 256) ∷ (length payload / 256) ∷ 0 ∷ 0 ∷ payload

-- so many Negates around a constant
negated : ℕ → Bytes
negated zero = headed 0 []
negated (suc n) = headed 3 (negated n)

-- a root alone, with its trailer
rooted : Bytes → Bytes
rooted root = root ++ hex "000000000000000000000000" ++ ((length root % 256) ∷ (length root / 256) ∷ 0 ∷ 0 ∷ hex "494b0100")

-- a refusal writes nothing
refusal : Bytes → ℕ → ℕ → ℕ → Row
refusal file index message n = row file index message (refused n) [] []

pub refusals : List Row
refusals =
    -- the empty file
    refusal [] 0 640 1
    ∷
    -- twenty 00
    refusal (hex "0000000000000000000000000000000000000000") 0 640 2
    ∷
    -- first start 1 in a 20-byte file
    refusal (hex "01000000000000000000000000000000494b0100") 0 640 3
    ∷
    -- globals section 05 alone
    refusal (hex "05" ++ hex "00000000010000000100000001000000494b0100") 3 640 4
    ∷
    -- root 11 00 00 00 00
    refusal (rooted (hex "1100000000")) 15 640 5
    ∷
    -- an output holding 63 Negates around a constant
    refusal (rooted (headed 2 (negated 63))) 975 640 6
    ∷
    -- one global "a", index of 5
    refusal (hex "0161" ++ hex "00000000020000000200000002000000494b0100") 5 640 7
    ∷
    -- empty story, buffer of 639
    refusal (hex "00000000000000000000000000000000494b0100") 0 639 8
    ∷
    -- 62 Negates are not too deep
    row (rooted (headed 2 (negated 62))) 960 640 (checked accepted 0 0) [] []
    ∷ []

-- the check reports what the tables have, in each row
pub record Examples : Type 0 where
  pub p1-to-p10 : map reported table ≡ map (λ (r : Row). r.report) table
  pub beside-them : map reported neighbours ≡ map (λ (r : Row). r.report) neighbours
  pub each-refusal : map reported refusals ≡ map (λ (r : Row). r.report) refusals

pub examples : Examples
unfolding reported digit hex row table neighbours headed negated rooted refusal refusals head_of list_of name_of flag_of expr_kind cond_kind node_kind kind_of refusal_number name_at builtins and_then shift met ends front_at ending repeat_n repeat exact piece_at named_at flagged_at moded last or_else arms options tested branch body_of whole too_deep record_of nodes name_in sort_of name_start nameless record_name is_labelled in_branch ending_at ending_n end_with_divert spanned past unlabelled second_list choice_body leaves what_of item_as item_of items_ended items_in reach_at names_reach counted_reach list_at marks_at params_at name_then heading_of names names_then counted titled stitch flow flows names_n names_in counted_in part titled_at titled_in pieces_at pieces_n pieces_in stitch_in title_end flow_in flows_in marked start_at opened_of sections_read read_ended read_at read_of story_in labelled stitch_entries flow_entries entries numbers broken known here over stitch_runs flow_runs runs breaches verdict message judged_of text_of story_report report_at report_of
examples = record { p1-to-p10 = refl; beside-them = refl; each-refusal = refl }

-- OF CHECKS: where a check is lent a row's file and buffers of its lengths, it answers and leaves what the row has

pub row-reports : (l : List Row) → map reported l ≡ map (λ (r : Row). r.report) l → (row : Row) → row ∈ l → reported row ≡ row.report
row-reports [] e row m = absurd (Memᴰ.not-nil m)
row-reports (x ∷ xs) e row m = ⊎_elim (λ i. rw i (cc)) (row-reports xs (cc) row) (Memᴰ.cases_cons m)

pub examples-of-checks : (row : Row) → row ∈ (table ++ (neighbours ++ refusals)) → {index message : List ℕ} {r : Answer} {index' message' : List ℕ}
    → length index ≡ row.index → length message ≡ row.message → Checked row.file index message r index' message'
    → Reported row.report index message r index' message'
unfolding reported
examples-of-checks row m e f p =
    let same : reported row ≡ row.report =
    ⊎_elim (row-reports table examples.p1-to-p10 row)
    (λ n. ⊎_elim (row-reports neighbours examples.beside-them row) (row-reports refusals examples.each-refusal row) (Memᴰ.append_cases neighbours n))
    (Memᴰ.append_cases table m) in
    rw same at (rw (e, f) at p.reported)
