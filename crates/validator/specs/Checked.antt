-- What a check promises: its report for all inputs, and demand 3's claim on what it returns.
use Rattle.std.specs.Prelude.{ℕ, ◌≤◌, ◌≡◌, List, ◌⊎◌, ◌↔◌, length}
use Rattle.records.specs.Buffers.{overlay}
use Rattle.story.specs.Story.{Story}
use Rattle.rules.specs.Rules.{number}
use Rattle.rules.specs.Steps.{Breach, Later}
use Rattle.rules.specs.Meaning.{Stands}
use Rattle.rules.specs.Reader.{story_of}
use Rattle.validator.specs.Results.{Judged, accepted, breach, refused, checked, Answer, result_of}
use Rattle.validator.specs.Check.{Report, report_of}

-- an answer and two buffers are as reported: numbers and text at the buffers' starts, the rest as it was
pub record Reported (p : Report) (index message : List ℕ) (r : Answer) (index' message' : List ℕ) : Type 0 where
  pub result : result_of r ≡ p.result
  pub index_is : index' ≡ overlay p.numbers index
  pub message_is : message' ≡ overlay p.text message

-- the first breach of a story: it stands, and every other that stands is later
pub record FirstBreach (s : Story) (rule place : ℕ) (names : ℕ × ℕ) : Type 0 where
  pub it : Breach
  pub the_rule : number it.rule ≡ rule
  pub the_place : it.place ≡ place
  pub the_names : it.names ≡ names
  pub stands : Stands s it
  pub first : (b : Breach) → Stands s b → (b ≡ it) ⊎ Later it b

-- DEMAND 3's claim: accepted exactly when no breach stands in the story; else the first that stands
pub record Right (s : Story) (j : Judged) : Type 0 where
  pub accepts : (j ≡ accepted) ↔ ((b : Breach) → Stands s b → ⊥)
  pub breaches : (rule place : ℕ) (names : ℕ × ℕ) → j ≡ breach rule place names → FirstBreach s rule place names

-- THE PROMISE of a check of any bytes with any buffers
pub record Checked (file index message : List ℕ) (r : Answer) (index' message' : List ℕ) : Type 0 where
  -- result, index and message are those of the report
  pub reported : Reported (report_of file (length index) (length message)) index message r index' message'
  -- a refusal leaves both buffers as they were, and acceptance the message buffer
  pub refusal_writes_nothing : (n : ℕ) → result_of r ≡ refused n → (index' ≡ index) × (message' ≡ message)
  pub acceptance_writes_no_message : (entries size : ℕ) → result_of r ≡ checked accepted entries size → message' ≡ message
  -- the message lies within its buffer
  pub message_fits : (j : Judged) (entries size : ℕ) → result_of r ≡ checked j entries size → size ≤ length message'
  -- DEMAND 3: what it judges is right
  pub judges_right : (j : Judged) (entries size : ℕ) → result_of r ≡ checked j entries size → Right (story_of file) j
