-- What reading a file answers, in 01's numbers, and what it leaves in the buffer.
use Rattle.fields.specs.declared.Refusal.{Refusal}
use Rattle.story.specs.declared.Sections.{Sections}
use Rattle.std.specs.Prelude.{ℕ, ◌≡◌, List, length, Result, Ok, Err}
use Rattle.fields.specs.Refusals.{refusal_number}
use Rattle.records.specs.Numbers.{kept_numbers}
use Rattle.records.specs.Buffers.{fill, cleared}
use Rattle.story.specs.Story.{story_items}
use Rattle.story.specs.File.{read_of, story_in}

-- a refusal by its number; or the starts of externals, root and flows, the place of the trailer, how many records are kept, and how many there are
pub data ReadResult : Type 0 where
  refused : ℕ → ReadResult
  sections : ℕ → ℕ → ℕ → ℕ → ℕ → ℕ → ReadResult

-- THE NUMBERS of each case
unfoldable pub read_result_of : Result (Sections × ℕ × ℕ) Refusal → ReadResult
read_result_of (Err r) = refused (refusal_number r)
read_result_of (Ok (c, kept, all)) = sections c.externals c.root c.flows c.end kept all

-- what is answered of a file that is opened so
unfoldable pub answer_of : Result Sections Refusal → List ℕ → Result (Sections × ℕ × ℕ) Refusal
answer_of (Err r) file = Err r
answer_of (Ok c) file = Ok (c, (length (kept_numbers (story_items (story_in c file)))), (length (story_items (story_in c file))))

-- READING a file, in numbers
unfoldable pub reading_of : List ℕ → ReadResult
reading_of file = read_result_of (answer_of (read_of file) file)

-- THE BUFFER after reading a file that is opened so: of a readable file the numbers of all items of the story that are not plain, from slot 0
-- on as far as it reaches, and else as it was; of a refused one 0 in every slot, so that nothing of it is left there
unfoldable pub buffer_of : Result Sections Refusal → List ℕ → List ℕ → List ℕ
buffer_of (Err r) file before = cleared before
buffer_of (Ok c) file before = fill 0 (kept_numbers (story_items (story_in c file))) before

-- THE PROMISE of reading a file: its answer has those numbers, and the buffer is that one
pub record ReadAs (file before : List ℕ) (r : Result (Sections × ℕ × ℕ) Refusal) (after : List ℕ) : Type 0 where
  pub answer : read_result_of r ≡ reading_of file
  pub written : after ≡ buffer_of (read_of file) file before
