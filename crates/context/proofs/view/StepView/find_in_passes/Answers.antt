-- `find_in_passes`: the pass at hand finds a breach, and those before it none. Assumes nothing.
use native.Mathlib.Omega.{arith}
use Rattle.context.proofs.Walks.{quiet_found}
use Rattle.context.proofs.view.StepView.find_in_passes.Goals as goal

pub returns-in-Some : goal.returns-in-Some
returns-in-Some c = quiet_found c.loop-pass.invariant (omega arith) _ c.validate_nodes.ensures c.in-Some.is
