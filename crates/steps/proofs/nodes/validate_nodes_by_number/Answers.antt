-- `steps::nodes::validate_nodes_by_number` meets its contract: of the steps before 18 only that of 0 is one on gathers. Assumes nothing.
use mathlib.Core.Path.{refl}
use Rattle.steps.proofs.Table.{plain-step}
use Rattle.steps.proofs.Numbered.{unlent-ready}
use Rattle.steps.proofs.nodes.validate_nodes_by_number.Goals as goal

pub validate_nodes-requires : goal.validate_nodes-requires
validate_nodes-requires c = unlent-ready c.requires

pub returns-then-number-eq-NO_STEP : goal.returns-then-number-eq-NO_STEP
returns-then-number-eq-NO_STEP c = record { list_after = rw c.of-step.ensures at c.validate_nodes.ensures.list_after; body_unchanged = λ l. refl }

pub returns : goal.returns
returns c = record {
  list_after = rw c.of-step.ensures at c.validate_nodes-2.ensures.list_after;
  body_unchanged = λ l. c.validate_nodes-2.ensures.body_unchanged (rw c.of-step.ensures (plain-step c.args.turn.step l c.if-number-eq-NO_STEP.false));
}
