-- `sets::known::Known::is_flow` meets its contract: the set decides, and then the flows that are not in it. Assumes nothing.
use mathlib.Core.Bool.{false}
use Rattle.sets.proofs.Flows.{flow-found, flow-left}
use Rattle.sets.proofs.known.Known.is_flow.Goals as goal

pub returns-then-has : goal.returns-then-has
returns-then-has c =
    flow-found c.args.self.now.names_in.flows false c.args.name.now c.has.ensures c.if-has.true

pub returns-else-has : goal.returns-else-has
returns-else-has c =
    flow-left c.args.self.now.names_in.flows false c.args.name.now c.has.ensures c.if-has.false c.is_flow_name.ensures
