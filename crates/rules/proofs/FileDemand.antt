-- DEMAND 3 for files of bytes as one claim, `file-demand3`. Assumes nothing.
use mathlib.Core.Path.{◌≡◌}
use mathlib.Core.List.{List}
use mathlib.Core.Logic.{◌↔◌}
use mathlib.Core.Option.{none}
use Prim.Native.Nat.{ℕ}
use Rattle.names.specs.Words.{Sorted}
use Rattle.rules.specs.Steps.{Breach, breaches, verdict}
use Rattle.rules.specs.Files.{AlikeFiles}
use Rattle.rules.specs.Reader.{Readable, story_of, parts_of}
use Rattle.rules.proofs.Least.{Least}
use Rattle.rules.proofs.Files.{file-least, file-order, file-once}
use Rattle.rules.proofs.Reader.{supplied}

-- with no hypothesis but that the files are readable
pub record FileDemand3 : Type 0 where
  -- accepted exactly when no breach stands; else a breach that stands, and every other that stands is later
  pub demand3-of-files : (file : List ℕ) → Readable file → Least (story_of file)
  -- alike in all but order: both accepted or both in breach
  pub order-law-of-files : (a b : List ℕ) → Readable a → Readable b → AlikeFiles (parts_of a) (parts_of b)
      → (verdict (story_of a) ≡ none) ↔ (verdict (story_of b) ≡ none)
  -- no breach is listed twice
  pub once-of-files : (file : List ℕ) → Readable file → Sorted (λ (b c : Breach). b ≡ c → ⊥) (breaches (story_of file))

pub file-demand3 : FileDemand3
file-demand3 = record { demand3-of-files = file-least supplied; order-law-of-files = file-order supplied; once-of-files = file-once supplied }
