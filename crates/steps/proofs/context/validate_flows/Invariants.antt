-- `steps::context::validate_flows` meets its contract. The loop's invariant: what is to be heard is what the flows that are left find. Assumes nothing.
use Prim.Native.Nat.{◌-◌}
use Rattle.steps.proofs.Knots.{Flowing}
use Rattle.steps.proofs.context.validate_flows.Given as goal

abbrev pub invariant-loop-flow : goal.invariant-loop-flow
invariant-loop-flow l = Flowing l.story.view.sections l.story.file.now l.story.kept.now l.fn.t l.initial.list l.tally l.list l.at l.start

abbrev pub decreases-loop-flow : goal.decreases-loop-flow
decreases-loop-flow l = l.story.view.sections.end - l.at
