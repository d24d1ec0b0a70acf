-- `steps::context::FilledKnot::validate_stitches` meets its contract. The loop's invariant: what is to be heard is what the stitches that are left find. Assumes nothing.
use Prim.Native.Nat.{◌-◌}
use Rattle.steps.proofs.Stories.{Stitching}
use Rattle.steps.proofs.context.FilledKnot.validate_stitches.Given as goal

abbrev pub invariant-loop-w : goal.invariant-loop-w
invariant-loop-w l = Stitching l.story.view.sections l.story.file.now l.story.kept.now l.k l.fn.before l.initial.list l.tally l.list l.at l.start

abbrev pub decreases-loop-w : goal.decreases-loop-w
decreases-loop-w l = l.k.flow.end - l.at
