-- `symbols::entries::put_flows` meets its contract. The loop's invariant: what is left to be visited are the flows from `at` on,
-- they can be read, and their items are kept. Assumes nothing.
use mathlib.Core.Path.{◌≡◌}
use mathlib.Core.List.{map}
use Prim.Native.Nat.{◌≤◌, ◌-◌}
use Rattle.names.specs.Words.{each}
use Rattle.records.specs.Trace.{well, ends}
use Rattle.story.specs.Plain.{flow_without_plain}
use Rattle.story.specs.Flows.{part, flows, flows_in}
use Rattle.items.specs.Bodies.{FlowsKept}
use Rattle.symbols.specs.Index.{flow_entries}
use Rattle.symbols.specs.Placed.{placed}
use Rattle.symbols.proofs.Visiting.{Visiting}
use Rattle.symbols.proofs.entries.put_flows.Given as goal

abbrev pub invariant-loop-v : goal.invariant-loop-v
invariant-loop-v g l =
    ((l.at ≤ l.end))
    × ((ends (flows (part l.at l.end l.file)) ≡ well) × FlowsKept l.file l.rest.numbers.now l.at l.end)
    × Visiting g.V.Visit.visited l.initial.visitor (placed (each flow_entries (map flow_without_plain (flows_in l.from (part l.from l.end l.file))))) l.visitor (placed (each flow_entries (map flow_without_plain (flows_in l.at (part l.at l.end l.file)))))

abbrev pub decreases-loop-v : goal.decreases-loop-v
decreases-loop-v g l = l.end - l.at
