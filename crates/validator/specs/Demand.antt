-- DEMAND 3 as a single claim on what checks return.
use Rattle.std.specs.Prelude.{ℕ, ◌≤◌, ◌≡◌, List, ◌↔◌, length}
use Rattle.symbols.specs.Numbers.{index_room}
use Rattle.rules.specs.Files.{AlikeFiles}
use Rattle.rules.specs.Reader.{Readable, story_of, parts_of}
use Rattle.validator.specs.Results.{Judged, accepted, checked, Answer, result_of}
use Rattle.validator.specs.Checked.{Right}

-- what a way of checking returned: file, index, message buffer, answer, and both buffers afterwards
abbrev pub Checks : Type 1
Checks = List ℕ → List ℕ → List ℕ → Answer → List ℕ → List ℕ → Type 0

-- a check of the file, with some buffers, returned the judgement
pub record Returns (Check : Checks) (file : List ℕ) (j : Judged) : Type 0 where
  pub index : List ℕ
  pub message : List ℕ
  pub answer : Answer
  pub index' : List ℕ
  pub message' : List ℕ
  pub check : Check file index message answer index' message'
  pub entries : ℕ
  pub size : ℕ
  pub judges : result_of answer ≡ checked j entries size

-- DEMAND 3, of any way of checking; nothing is supposed of it. The story of a file that cannot be read is the empty one: that no such file
-- is judged is demand 1's.
pub record Demand3 (Check : Checks) : Type 0 where
  -- a readable file with buffers that are long enough is judged
  pub judged : (file index message : List ℕ) (answer : Answer) (index' message' : List ℕ) → Check file index message answer index' message'
      → Readable file → index_room file ≤ length index → 640 ≤ length message
      → (j : Judged) × (entries : ℕ) × (size : ℕ) × (result_of answer ≡ checked j entries size)
  -- accepted exactly when no breach stands; else a breach that stands, and every other that stands is later
  pub right : (file : List ℕ) (j : Judged) → Returns Check file j → Right (story_of file) j
  -- files alike in all but order: both accepted or both in breach
  pub order : (a b : List ℕ) (i j : Judged) → AlikeFiles (parts_of a) (parts_of b) → Returns Check a i → Returns Check b j → (i ≡ accepted) ↔ (j ≡ accepted)
