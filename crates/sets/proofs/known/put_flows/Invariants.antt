-- `sets::known::put_flows` meets its contract. The loop's invariant: the set holds the names of the flows before `at`. Assumes nothing.
use mathlib.Core.Path.{◌≡◌}
use Prim.Native.Nat.{◌-◌}
use lib.ListN.{length}
use Rattle.sets.specs.Known.{FlowsPut}
use Rattle.sets.proofs.known.put_flows.Given as goal

abbrev pub invariant-loop-v : goal.invariant-loop-v
invariant-loop-v l = (length l.set ≡ length l.initial.set) × FlowsPut l.source.file.now l.source.sections l.initial.set l.set l.at

abbrev pub decreases-loop-v : goal.decreases-loop-v
decreases-loop-v l = l.source.sections.end - l.at
