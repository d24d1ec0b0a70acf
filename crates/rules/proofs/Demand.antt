-- DEMAND 3 as one claim. Assumes nothing.
use mathlib.Core.Path.{◌≡◌}
use mathlib.Core.Logic.{◌↔◌}
use mathlib.Core.Option.{none}
use Rattle.story.specs.Story.{Story}
use Rattle.rules.specs.Steps.{verdict}
use Rattle.rules.specs.Placed.{Placed}
use Rattle.rules.specs.Alike.{Alike}
use Rattle.rules.proofs.Least.{Least, least}
use Rattle.rules.proofs.Placed.{ordered}
use Rattle.rules.proofs.Order.{order-law}

-- DEMAND 3, of stories
pub record Demand3 : Type 0 where
  -- accepted exactly when no breach stands; else a breach that stands, and every other that stands is later
  pub verdicts : (s : Story) → Placed s → Least s
  -- alike in all but order: both accepted or both in breach
  pub order : (s t : Story) → Alike s t → (verdict s ≡ none) ↔ (verdict t ≡ none)

pub demand3 : Demand3
demand3 = record { verdicts = λ s p. least s (ordered s p); order = order-law }
