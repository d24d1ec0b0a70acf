-- `steps::nodes::validate_nodes` meets its contract. The loop's invariant: the first i items were visited. Assumes nothing.
use Rattle.steps.proofs.Turning.{Turning}
use Rattle.steps.proofs.nodes.validate_nodes.Given as goal

abbrev pub invariant-loop-i : goal.invariant-loop-i
invariant-loop-i l = Turning l.story.view.sections l.story.file.now l.story.kept.now l.turn l.initial.body l.initial.list l.body l.list l.tally l.gathers l.i
