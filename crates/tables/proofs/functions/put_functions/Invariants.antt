-- `tables::functions::put_functions` meets its contract. The loop's invariant: the table has the flows before `at`, and those from it
-- on can be read. Assumes nothing.
use mathlib.Core.Path.{◌≡◌}
use Prim.Native.Nat.{◌≤◌, ◌-◌}
use lib.ListN.{length}
use Rattle.records.specs.Trace.{well, ends}
use Rattle.story.specs.Flows.{part, flows, flows_in}
use Rattle.tables.proofs.Filling.{Filling}
use Rattle.tables.proofs.functions.put_functions.Given as goal

abbrev pub invariant-loop-v : goal.invariant-loop-v
invariant-loop-v l =
    ((l.at ≤ l.c.end) × (length l.table ≡ length l.initial.table))
    × Filling l.file (flows_in l.c.flows (part l.c.flows l.c.end l.file)) (flows_in l.at (part l.at l.c.end l.file)) l.table
    × (ends (flows (part l.at l.c.end l.file)) ≡ well)

abbrev pub decreases-loop-v : goal.decreases-loop-v
decreases-loop-v l = l.c.end - l.at
