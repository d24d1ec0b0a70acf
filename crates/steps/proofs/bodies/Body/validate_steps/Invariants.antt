-- `steps::bodies::Body::validate_steps` meets its contract. The loop's invariant: the first steps were run. Assumes nothing.
use Rattle.steps.proofs.Coursing.{Coursing}
use Rattle.steps.proofs.bodies.Body.validate_steps.Given as goal

abbrev pub invariant-loop-step : goal.invariant-loop-step
invariant-loop-step l = Coursing l.story.view.sections l.story.file.now l.story.kept.now l.self.course l.self.steps.now l.site.rests l.initial.list l.body l.list l.tally l.step-index
