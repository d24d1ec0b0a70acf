-- Lines worked out: a place of seven digits, a long input, and P1 to P10 from the bytes. Assumes nothing.
use Rattle.std.specs.Prelude.{Result, Ok, Err}
use Rattle.fields.specs.declared.Refusal.{Refusal}
use Rattle.story.specs.declared.Sections.{Sections}
use mathlib.Core.Path.{◌≡◌, refl, ◌∙◌, ap}
use mathlib.Core.Bool.{Bool, true, ◌&&◌}
use mathlib.Core.List.{List, [], ◌∷◌, ◌++◌, map}
use Prim.Native.Nat.{ℕ, ◌-◌, ◌*◌, ◌≤◌, ◌<◌}
use Prim.Native.String.{String}
use native.Mathlib.Omega.{arith}
use lib.Dec.{T, leb, eqb, leb→le, eqb→eq}
use lib.ListN.{length, get_or}
use borrow.Author.Tests.{le-ltb}
use Rattle.names.specs.Words.{Bytes}
use Rattle.names.specs.Text.{ascii}
use Rattle.names.proofs.Bools.{and_left, and_right}
use Rattle.story.specs.File.{read_of}
use Rattle.validator.specs.Check.{report_at, report_of}
use Rattle.validator.proofs.Examples.{digit, hex, Row, row, reported, table, examples}
use Rattle.lines.specs.Lines.{digits, ended, breach_line, result_line, report_line, input_line}
use Rattle.lines.proofs.Reported.{long-input, short-input}

-- a line as it is printed
abbrev printed : String → Bytes
printed text = ascii text ++ ended

far-line : breach_line 15 1048555 (ascii "Unresolved variable: ") ≡ printed "breach 15 at 1048555: Unresolved variable: "
unfolding digits
far-line = refl

long-line : (input : Bytes) → 4096 < length input → input_line input ≡ printed "refused 1"
unfolding digits result_line
long-line input h = rw (long-input input h)

-- 1. The lines of rows whose reports are known

-- the program takes a file so long
abbrev short : Row → Bool
short r = leb (length r.file) 4096

-- the row's index is long enough for its file
abbrev long : Row → Bool
long r = leb (3 * (length r.file - 20)) r.index

-- the row's message buffer is as long as the program's
abbrev full : Row → Bool
full r = eqb r.message 640

-- all three, for each row
abbrev taken : List Row → Bool
taken [] = true
taken (r ∷ rs) = (short r && (long r && full r)) && taken rs

-- an index that is long enough may be longer
longer : (o : Result Sections Refusal) (file : List ℕ) (i j : ℕ) → 3 * (length file - 20) ≤ i → 3 * (length file - 20) ≤ j → report_at o file i 640 ≡ report_at o file j 640
unfolding report_at
longer (Err r) file i j h k = refl
longer (Ok c) file i j h k = rw (le-ltb i (3 * (length file - 20)) h, le-ltb j (3 * (length file - 20)) k)

row_line : (r : Row) → T (short r && (long r && full r)) → input_line r.file ≡ report_line (reported r)
unfolding reported report_of
row_line r t =
    let lent = and_right (short r) (long r && full r) t in
    let fits = leb→le (length r.file) 4096 (and_left (short r) (long r && full r) t) in
    let enough = leb→le (3 * (length r.file - 20)) r.index (and_left (long r) (full r) lent) in
    let bytes = eqb→eq r.message 640 (and_right (long r) (full r) lent) in
    rw (bytes, short-input r.file fits, longer (read_of r.file) r.file 12228 r.index (omega arith) enough)

row-lines : (l : List Row) → T (taken l) → map (λ (r : Row). input_line r.file) l ≡ map report_line (map reported l)
row-lines [] t = refl
row-lines (r ∷ rs) t =
    let tests = short r && (long r && full r) in
    rw (row_line r (and_left tests (taken rs) t), row-lines rs (and_right tests (taken rs) t))

-- 2. THE LINES of P1 to P10

pub p1-to-p10 : map (λ (r : Row). input_line r.file) table
    ≡ printed "accepted"
    ∷ printed "breach 2 at 0: Divert target not found: '-> x'"
    ∷ printed "accepted"
    ∷ printed "accepted"
    ∷ printed "breach 1 at 2: Function 'f' can only be called as a function, not diverted to"
    ∷ printed "accepted"
    ∷ printed "accepted"
    ∷ printed "breach 2 at 0: Divert target not found: '-> .s'"
    ∷ printed "accepted"
    ∷ printed "breach 14 at 13: Function 'f' may not contain diverts (found '-> k')."
    ∷ printed "accepted"
    ∷ printed "accepted"
    ∷ printed "breach 10 at 7: A gather point with the same label 'a' already exists in this scope."
    ∷ printed "breach 11 at 27: Choices with conditions need to explicitly divert afterwards."
    ∷ printed "accepted"
    ∷ printed "breach 15 at 43: Unresolved variable: t"
    ∷ printed "accepted"
    ∷ printed "accepted"
    ∷ []
unfolding table row hex digit digits result_line
p1-to-p10 = row-lines table tt ∙ ap (map report_line) examples.p1-to-p10

-- THE SCOPE PAPER'S INPUT: its root, starts 0, 0, 0, 7, and the mark
pub divert-input : input_line
    (3 ∷ 2 ∷ 0 ∷ 0 ∷ 0 ∷ 1 ∷ 120
    ∷ 0 ∷ 0 ∷ 0 ∷ 0 ∷ 0 ∷ 0 ∷ 0 ∷ 0 ∷ 0 ∷ 0 ∷ 0 ∷ 0 ∷ 7 ∷ 0 ∷ 0 ∷ 0
    ∷ 73 ∷ 75 ∷ 1 ∷ 0 ∷ [])
    ≡ printed "breach 2 at 0: Divert target not found: '-> x'"
unfolding table row hex digit
divert-input = ap (λ (l : List Bytes). get_or l 1 []) p1-to-p10
