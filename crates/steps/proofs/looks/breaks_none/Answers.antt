-- `steps::looks::breaks_none` meets its contract. Assumes nothing.
use Rattle.std.proofs.Common.{drop_of_length-le}
use Rattle.steps.proofs.Next.{drop-next}
use Rattle.steps.proofs.Looking.{clear-go, clear-stop, clear-end}
use Rattle.steps.proofs.looks.breaks_none.Goals as goal

pub loop-rule-preserved : goal.loop-rule-preserved
loop-rule-preserved c = clear-go _ _ _ _ c.loop-rule.invariant (drop-next _ _ _ c.loop-rule-test.true) c.is_broken.ensures c.if-is_broken.false

pub returns-then-is_broken : goal.returns-then-is_broken
returns-then-is_broken c = clear-stop _ _ _ _ c.loop-rule.invariant (drop-next _ _ _ c.loop-rule-test.true) c.is_broken.ensures c.if-is_broken.true

pub returns : goal.returns
returns c = clear-end _ _ _ _ c.loop-rule.invariant (drop_of_length-le _ c.loop-rule-test.false)
