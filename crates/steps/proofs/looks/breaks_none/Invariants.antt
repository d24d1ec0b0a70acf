-- `steps::looks::breaks_none` meets its contract. The loop's invariant: what is answered is what is answered for the rules that are left. Assumes nothing.
use Rattle.std.proofs.Common.{drop}
use Rattle.steps.proofs.Looking.{ClearLeft}
use Rattle.steps.proofs.looks.breaks_none.Given as goal

abbrev pub invariant-loop-rule : goal.invariant-loop-rule
invariant-loop-rule l = ClearLeft l.asked.story.now.view.sections l.asked.story.now.file.now l.asked.story.now.kept.now l.asked.at l.rules (drop l.rule-index l.rules)
