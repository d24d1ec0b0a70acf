-- `steps::bodies::Body::validate` meets its contract. Assumes nothing.
use Rattle.std.proofs.lemmas.List.{length-map}
use Rattle.steps.specs.Brackets.{step_of}
use Rattle.steps.proofs.Coursing.{course-clear}
use Rattle.steps.proofs.bodies.Body.validate.Goals as goal

pub returns-then-is_clear : goal.returns-then-is_clear
returns-then-is_clear c = course-clear c.args.self.now.story.now.view.sections c.args.self.now.story.now.file.now c.args.self.now.story.now.kept.now c.args.self.now.course _ c.requires c.is_clear.ensures c.if-is_clear.true (rw (length-map c.args.self.now.steps.now step_of) c.pass_runs.ensures) c.args.list.now
