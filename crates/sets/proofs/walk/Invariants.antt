-- `sets::walk` meets its contract. The loop's invariant: the slots from the home up to this one are others. Assumes nothing.
use Rattle.sets.specs.Sets.{Others}
use Rattle.sets.proofs.walk.Given as goal

abbrev pub invariant-loop-at : goal.invariant-loop-at
invariant-loop-at g l = Others (goal.F-post g l.look) l.home l.at
