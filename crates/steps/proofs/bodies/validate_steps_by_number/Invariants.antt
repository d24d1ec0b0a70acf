-- `steps::bodies::validate_steps_by_number` meets its contract. The loop's invariant: the first steps were run. Assumes nothing.
use Rattle.steps.proofs.Numbered.{Coursing}
use Rattle.steps.proofs.bodies.validate_steps_by_number.Given as goal

abbrev pub invariant-loop-i : goal.invariant-loop-i
invariant-loop-i l = Coursing l.story.view.sections l.story.file.now l.story.kept.now l.c l.site.rests l.initial.list l.body l.list l.tally l.i
