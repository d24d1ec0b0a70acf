-- `steps::bodies::validate_body_by_number` meets its contract. Assumes nothing.
use mathlib.Core.Path.{refl}
use Rattle.steps.specs.Brackets.{gathers_last}
use Rattle.steps.proofs.Numbered.{numbered-clear}
use Rattle.steps.proofs.bodies.validate_body_by_number.Goals as goal

pub invariant_of-own : goal.invariant_of-own
unfolding gathers_last
invariant_of-own c = record { ready = c.requires.course_ready.course_ready; gathers_last = refl }

pub returns-then-is_clear : goal.returns-then-is_clear
returns-then-is_clear c = numbered-clear c.args.story.now.view.sections c.args.story.now.file.now c.args.story.now.kept.now c.args.c c.requires.rules_tested c.is_clear.ensures c.if-is_clear.true (rw c.from.ensures at c.pass_runs.ensures) c.args.list.now
