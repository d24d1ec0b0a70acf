-- `refused`: the buffer is filled with 0. Assumes nothing.
use Rattle.std.proofs.Common.{refl, rules}
use Rattle.records.proofs.Clearing.{filled}
use Rattle.story.proofs.refused.Goals as goal

pub returns : goal.returns
returns c = (refl, filled _ (c.fill.ensures.after (λ y e. search rules)))
