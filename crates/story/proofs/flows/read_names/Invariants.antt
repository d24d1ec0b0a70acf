-- `read_names`: the names that are left, by a loop over them. Assumes nothing.
use mathlib.Core.Path.{◌≡◌}
use Prim.Native.Nat.{◌≤◌}
use lib.ListN.{length}
use Rattle.records.specs.Trace.{ends}
use Rattle.story.specs.Flows.{names}
use Rattle.story.proofs.flows.read_names.Given as goal

abbrev pub invariant-loop-t : goal.invariant-loop-t
invariant-loop-t l = (length l.t ≤ length l.s) × (ends (names l.s) ≡ ends (names l.t))

abbrev pub decreases-loop-t : goal.decreases-loop-t
decreases-loop-t l = length l.t
