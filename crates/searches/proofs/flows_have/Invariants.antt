-- `searches::flows_have`: the flows that are left decide. Assumes nothing.
use mathlib.Core.Path.{◌≡◌}
use Prim.Native.Nat.{◌≤◌}
use lib.ListN.{length}
use Rattle.names.specs.Words.{any}
use Rattle.story.specs.Flows.{flows_in}
use Rattle.searches.specs.Called.{called_as}
use Rattle.searches.proofs.flows_have.Given as goal

abbrev pub invariant-loop-e : goal.invariant-loop-e
invariant-loop-e l = (length l.t ≤ length l.s) × (any (called_as l.function l.name) (flows_in 0 l.s) ≡ any (called_as l.function l.name) (flows_in 0 l.t))

abbrev pub decreases-loop-e : goal.decreases-loop-e
decreases-loop-e l = length l.t
