-- What a lookup answers, how many entries it tells, and what it leaves in the index. Assumes nothing.
use Rattle.std.specs.Prelude as std
use Rattle.fields.specs.declared.Refusal.{Refusal}
use Rattle.std.specs.Prelude.{◌≡◌, List, [], ◌∷◌, ℕ, ◌≤◌, length, ltb, Option, Ok, Err, Some, None}
use Rattle.fields.specs.Bytes.{pick}
use Rattle.fields.specs.Refusals.{refusal_number}
use Rattle.names.specs.Words.{Bytes, same, any, one_of, ends}
use Rattle.names.specs.Reserved.{END, DONE, back}
use Rattle.names.specs.Targets.{passes}
use Rattle.story.specs.Story.{Flow, Story}
use Rattle.story.specs.declared.Sections.{Sections}
use Rattle.story.specs.File.{read_of, story_in}
use Rattle.searches.specs.Called.{is_function}
use Rattle.symbols.specs.Index.{entries, spellings}
use Rattle.symbols.specs.Numbers.{index_room}
use Rattle.symbols.specs.Placed.{index_of}
use Rattle.symbols.specs.Rows.{first_of}
use Rattle.lookups.specs.Results.{Answer, pass, function, reserved, exact, ending, missing, Result, refused, answered, LookupAnswer, result_of}
use Rattle.lookups.specs.Meaning.{Meant}

-- an entry found by its ending
unfoldable pub ending_answer : Option ℕ → Answer
ending_answer (Some k) = ending k
ending_answer None = missing

-- an entry found by its whole spelling, else by its ending
unfoldable pub entry_of : Option ℕ → Option ℕ → Answer
entry_of (Some k) other = exact k
entry_of None other = ending_answer other

-- Pass, Function, Reserved, Exact, Ending, Missing, in that order of preference; of several entries the first
unfoldable pub target_of : List Flow → List Bytes → Bytes → Answer
target_of flows spelled t =
    pick (passes t) pass
    (pick (any (is_function t) flows) function
    (pick (one_of t (END ∷ DONE ∷ back ∷ [])) reserved
    (entry_of (first_of (same t) 0 spelled) (first_of (ends (46 ∷ t)) 0 spelled))))

-- what is answered of a story, with its entry count
abbrev pub answered_of : Story → Bytes → Result
answered_of s t = answered (target_of s.flows (spellings s) t) (length (entries s))

-- refusals 1 to 6 by reading; 7, the index is shorter than its room, 3 × (L-20)
unfoldable pub lookup_at : std.Result Sections Refusal → List ℕ → ℕ → Bytes → Result
lookup_at (Err r) file index t = refused (refusal_number r)
lookup_at (Ok c) file index t = pick (ltb index (index_room file)) (refused 7) (answered_of (story_in c file) t)

-- THE RESULT, for a file, an index of so many numbers, and a target
unfoldable pub lookup_of : List ℕ → ℕ → Bytes → Result
lookup_of file index t = lookup_at (read_of file) file index t

-- a refusal leaves the index as it was
unfoldable pub index_at : std.Result Sections Refusal → List ℕ → List ℕ → List ℕ
index_at (Err r) file before = before
index_at (Ok c) file before = pick (ltb (length before) (index_room file)) before (index_of (story_in c file) before)

-- THE INDEX afterwards
unfoldable pub lookup_index : List ℕ → List ℕ → List ℕ
lookup_index file before = index_at (read_of file) file before

-- THE PROMISE of a lookup of any target in any bytes, with any index
pub record Looked (file before target : List ℕ) (r : LookupAnswer) (after : List ℕ) : Type 0 where
  -- what it returns, and the index after it
  pub result : result_of r ≡ lookup_of file (length before) target
  pub index : after ≡ lookup_index file before
  -- a refusal leaves the index as it was
  pub refusal_writes_nothing : (n : ℕ) → result_of r ≡ refused n → after ≡ before
  -- a readable file is answered where the index has room
  pub answers : (c : Sections) → read_of file ≡ Ok c → index_room file ≤ length before → (a : Answer) × (n : ℕ) × (result_of r ≡ answered a n)
  -- what is answered is so of the story in a readable file: its entry count, an entry that matches, and Missing exactly where nothing does
  pub means : (a : Answer) (n : ℕ) → result_of r ≡ answered a n
      → (c : Sections) × (read_of file ≡ Ok c) × (n ≡ length (entries (story_in c file))) × Meant (story_in c file) target a
