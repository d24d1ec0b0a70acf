-- `steps::looks::is_body_clear` meets its contract. The loop's invariant: nothing is broken before item number i. Assumes nothing.
use Rattle.steps.specs.Looks.{look_rules}
use Rattle.steps.proofs.LookBody.{Looked}
use Rattle.steps.proofs.looks.is_body_clear.Given as goal

abbrev pub invariant-loop-i : goal.invariant-loop-i
invariant-loop-i l = Looked l.story.view.sections l.story.file.now l.story.kept.now l.site (look_rules l.look.inner l.look.function) l.body l.gathers l.i
