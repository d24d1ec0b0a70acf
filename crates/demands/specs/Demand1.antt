-- DEMAND 1 as a single claim on every callable function, for any bytes and any buffers: it refuses exactly in the stated cases, judges nothing
-- unreadable, and leaves each buffer as stated. That nothing is read or written outside what was lent, and that every call ends, is proved of
-- the code itself. A function is any relation between what it is lent and what it returns and leaves; nothing is supposed of it.
use Rattle.fields.specs.declared.Refusal.{Refusal}
use Rattle.story.specs.declared.Sections.{Sections}
use Rattle.std.specs.Prelude.{ℕ, ◌-◌, ◌≤◌, ◌<◌, ◌≡◌, List, ◌↔◌, length, get_or, drop, Result}
use Rattle.records.specs.Numbers.{kept_numbers}
use Rattle.records.specs.Buffers.{overlay, fill, cleared}
use Rattle.story.specs.Story.{story_items}
use Rattle.story.specs.Results as read
use Rattle.symbols.specs.Placed.{index_of}
use Rattle.rules.specs.Reader.{story_of}
use Rattle.validator.specs.Results.{Judged, accepted, refused, checked, Answer, result_of}
use Rattle.validator.specs.Check.{story_report}
use Rattle.validator.specs.Demand.{Checks}
use Rattle.lookups.specs.Results as lookup
use Rattle.lookups.specs.Results.{LookupAnswer}
use Rattle.lines.specs.Lines.{refused_line, report_line, line_room, line_of}
use Rattle.demands.specs.Refusals.{start, Unreadable, NoneApplies, Unindexed, Unchecked}

-- 1. WHAT IS CLAIMED OF EACH FUNCTION. A buffer's name with a stroke is what it holds afterwards.

-- file, the buffer for numbers, the answer, and the buffer afterwards
abbrev pub Reads : Type 1
Reads = List ℕ → List ℕ → Result (Sections × ℕ × ℕ) Refusal → List ℕ → Type 0

-- reading: refusals 1 to 6, else the sections that the trailer has, how many items of the story are not plain, and how many there are.
-- A refusal leaves 0 in every slot of the buffer. Of a readable file it has the numbers of all items that are not plain, as far as it
-- reaches, and the rest stays.
pub record ReadClaim (Read : Reads) : Type 0 where
  pub refuses : (file items : List ℕ) (r : Result (Sections × ℕ × ℕ) Refusal) (items' : List ℕ) → Read file items r items' → (n : ℕ) → (read.read_result_of r ≡ read.refused n) ↔ Unreadable file n
  pub reads : (file items : List ℕ) (r : Result (Sections × ℕ × ℕ) Refusal) (items' : List ℕ) → Read file items r items' → NoneApplies file
      → read.read_result_of r
      ≡ read.sections (start file 1) (start file 2) (start file 3) (length file - 20) (length (kept_numbers (story_items (story_of file)))) (length (story_items (story_of file)))
  pub refusal_clears : (file items : List ℕ) (r : Result (Sections × ℕ × ℕ) Refusal) (items' : List ℕ) → Read file items r items' → (n : ℕ) → Unreadable file n → items' ≡ cleared items
  pub keeps_story : (file items : List ℕ) (r : Result (Sections × ℕ × ℕ) Refusal) (items' : List ℕ) → Read file items r items' → NoneApplies file
      → items' ≡ fill 0 (kept_numbers (story_items (story_of file))) items

-- file, index, target, the answer, and the index afterwards
abbrev pub Lookups : Type 1
Lookups = List ℕ → List ℕ → List ℕ → LookupAnswer → List ℕ → Type 0

-- a lookup: refusals 1 to 7, which leave the index; else the story's index, and the rest as it was
pub record LookupClaim (Lookup : Lookups) : Type 0 where
  pub refuses : (file index target : List ℕ) (r : LookupAnswer) (index' : List ℕ) → Lookup file index target r index'
      → (n : ℕ) → (lookup.result_of r ≡ lookup.refused n) ↔ Unindexed file (length index) n
  pub refusal_leaves : (file index target : List ℕ) (r : LookupAnswer) (index' : List ℕ) → Lookup file index target r index'
      → (n : ℕ) → lookup.result_of r ≡ lookup.refused n → index' ≡ index
  pub answers : (file index target : List ℕ) (r : LookupAnswer) (index' : List ℕ) → Lookup file index target r index'
      → (a : lookup.Answer) (entries : ℕ) → lookup.result_of r ≡ lookup.answered a entries → NoneApplies file × (index' ≡ index_of (story_of file) index)

-- a check: refusals 1 to 8, which leave index and message; else the index and the text of the story's report, and the rest as it was;
-- acceptance leaves the message
pub record CheckClaim (Check : Checks) : Type 0 where
  pub refuses : (file index message : List ℕ) (r : Answer) (index' message' : List ℕ) → Check file index message r index' message'
      → (n : ℕ) → (result_of r ≡ refused n) ↔ Unchecked file (length index) (length message) n
  pub refusal_leaves : (file index message : List ℕ) (r : Answer) (index' message' : List ℕ) → Check file index message r index' message'
      → (n : ℕ) → result_of r ≡ refused n → (index' ≡ index) × (message' ≡ message)
  pub judges : (file index message : List ℕ) (r : Answer) (index' message' : List ℕ) → Check file index message r index' message'
      → (j : Judged) (entries size : ℕ) → result_of r ≡ checked j entries size
      → NoneApplies file × (index' ≡ index_of (story_of file) index) × (message' ≡ overlay (story_report file (story_of file)).text message)
  pub acceptance_leaves : (file index message : List ℕ) (r : Answer) (index' message' : List ℕ) → Check file index message r index' message'
      → (entries size : ℕ) → result_of r ≡ checked accepted entries size → (message' ≡ message) × (size ≡ 0)

-- file, index, message, line, the answer and the line's length, and the three buffers afterwards
abbrev pub CheckLines : Type 1
CheckLines = List ℕ → List ℕ → List ℕ → List ℕ → Answer → ℕ → List ℕ → List ℕ → List ℕ → Type 0

-- a check with its line: as a check; and the line of the answer, and the rest as it was; a buffer that is too short for a line stays
pub record CheckLineClaim (CheckLine : CheckLines) : Type 0 where
  pub check : CheckClaim (λ file index message r index' message'. (out : List ℕ) × (n : ℕ) × (out' : List ℕ) × CheckLine file index message out r n index' message' out')
  pub line : (file index message out : List ℕ) (r : Answer) (n : ℕ) (index' message' out' : List ℕ) → CheckLine file index message out r n index' message' out'
      → line_room (length message) ≤ length out → (n ≡ length (line_of r message')) × (out' ≡ overlay (line_of r message') out)
  pub short_leaves : (file index message out : List ℕ) (r : Answer) (n : ℕ) (index' message' out' : List ℕ) → CheckLine file index message out r n index' message' out'
      → length out < line_room (length message) → (n ≡ 0) × (out' ≡ out)

-- input, index, message, line, the line's length, and the three buffers afterwards
abbrev pub InputLines : Type 1
InputLines = List ℕ → List ℕ → List ℕ → List ℕ → ℕ → List ℕ → List ℕ → List ℕ → Type 0

-- the line of a refusal, and the other buffers as they were
abbrev pub RefusalOnly : ℕ → List ℕ → List ℕ → List ℕ → ℕ → List ℕ → List ℕ → List ℕ → Type 0
RefusalOnly refusal index message out n index' message' out' =
    (index' ≡ index) × (message' ≡ message) × (n ≡ length (refused_line refusal)) × (out' ≡ overlay (refused_line refusal) out)

-- the program's line: over 4,096 bytes are refused by 1; else refusals 1 to 6, or the line of the story's report
pub record InputLineClaim (InputLine : InputLines) : Type 0 where
  pub long : (input index message out : List ℕ) (n : ℕ) (index' message' out' : List ℕ) → InputLine input index message out n index' message' out'
      → 4096 < length input → RefusalOnly 1 index message out n index' message' out'
  pub unreadable : (input index message out : List ℕ) (n : ℕ) (index' message' out' : List ℕ) → InputLine input index message out n index' message' out'
      → length input ≤ 4096 → (refusal : ℕ) → Unreadable input refusal → RefusalOnly refusal index message out n index' message' out'
  pub judged : (input index message out : List ℕ) (n : ℕ) (index' message' out' : List ℕ) → InputLine input index message out n index' message' out'
      → length input ≤ 4096 → NoneApplies input
      → (index' ≡ index_of (story_of input) index) × (message' ≡ overlay (story_report input (story_of input)).text message)
      × (n ≡ length (report_line (story_report input (story_of input)))) × (out' ≡ overlay (report_line (story_report input (story_of input))) out)

-- file, index, message, result, what is returned, and the three buffers afterwards
abbrev pub CheckCalls : Type 1
CheckCalls = List ℕ → List ℕ → List ℕ → List ℕ → ℕ → List ℕ → List ℕ → List ℕ → Type 0

-- the library's check: 1 and every buffer as it was where the result has under 7 numbers; else 0, and as a check: the result begins with
-- 2 and the refusal's number exactly where it is refused
pub record CheckCallClaim (CheckCall : CheckCalls) : Type 0 where
  pub short_leaves : (file index message result : List ℕ) (r : ℕ) (index' message' result' : List ℕ) → CheckCall file index message result r index' message' result'
      → length result < 7 → (r ≡ 1) × (index' ≡ index) × (message' ≡ message) × (result' ≡ result)
  pub refuses : (file index message result : List ℕ) (r : ℕ) (index' message' result' : List ℕ) → CheckCall file index message result r index' message' result'
      → 7 ≤ length result → (n : ℕ) → ((get_or result' 0 0 ≡ 2) × (get_or result' 1 0 ≡ n)) ↔ Unchecked file (length index) (length message) n
  pub refusal_leaves : (file index message result : List ℕ) (r : ℕ) (index' message' result' : List ℕ) → CheckCall file index message result r index' message' result'
      → 7 ≤ length result → (n : ℕ) → Unchecked file (length index) (length message) n → (index' ≡ index) × (message' ≡ message)
  pub judges : (file index message result : List ℕ) (r : ℕ) (index' message' result' : List ℕ) → CheckCall file index message result r index' message' result'
      → 7 ≤ length result → ((n : ℕ) → Unchecked file (length index) (length message) n → ⊥)
      → (index' ≡ index_of (story_of file) index) × (message' ≡ overlay (story_report file (story_of file)).text message)
  pub rest_stays : (file index message result : List ℕ) (r : ℕ) (index' message' result' : List ℕ) → CheckCall file index message result r index' message' result'
      → 7 ≤ length result → (r ≡ 0) × (drop 7 result' ≡ drop 7 result)

-- file, index, target, result, what is returned, and both buffers afterwards
abbrev pub LookupCalls : Type 1
LookupCalls = List ℕ → List ℕ → List ℕ → List ℕ → ℕ → List ℕ → List ℕ → Type 0

-- the library's lookup, likewise with 4 numbers
pub record LookupCallClaim (LookupCall : LookupCalls) : Type 0 where
  pub short_leaves : (file index target result : List ℕ) (r : ℕ) (index' result' : List ℕ) → LookupCall file index target result r index' result'
      → length result < 4 → (r ≡ 1) × (index' ≡ index) × (result' ≡ result)
  pub refuses : (file index target result : List ℕ) (r : ℕ) (index' result' : List ℕ) → LookupCall file index target result r index' result'
      → 4 ≤ length result → (n : ℕ) → ((get_or result' 0 0 ≡ 2) × (get_or result' 1 0 ≡ n)) ↔ Unindexed file (length index) n
  pub refusal_leaves : (file index target result : List ℕ) (r : ℕ) (index' result' : List ℕ) → LookupCall file index target result r index' result'
      → 4 ≤ length result → (n : ℕ) → Unindexed file (length index) n → index' ≡ index
  pub answers : (file index target result : List ℕ) (r : ℕ) (index' result' : List ℕ) → LookupCall file index target result r index' result'
      → 4 ≤ length result → ((n : ℕ) → Unindexed file (length index) n → ⊥) → index' ≡ index_of (story_of file) index
  pub rest_stays : (file index target result : List ℕ) (r : ℕ) (index' result' : List ℕ) → LookupCall file index target result r index' result'
      → 4 ≤ length result → (r ≡ 0) × (drop 4 result' ≡ drop 4 result)

-- 2. DEMAND 1, a field a callable function
pub record Demand1 (Read : Reads) (Lookup : Lookups) (Check : Checks) (CheckLine : CheckLines) (InputLine : InputLines) (CheckCall : CheckCalls) (LookupCall : LookupCalls) : Type 0 where
  pub read : ReadClaim Read
  pub lookup : LookupClaim Lookup
  pub check : CheckClaim Check
  pub checked_line : CheckLineClaim CheckLine
  pub inputs_line : InputLineClaim InputLine
  pub qaabireed_check : CheckCallClaim CheckCall
  pub qaabireed_lookup : LookupCallClaim LookupCall
