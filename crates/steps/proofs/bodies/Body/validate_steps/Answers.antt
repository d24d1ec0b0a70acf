-- `steps::bodies::Body::validate_steps` meets its contract. Assumes nothing.
use Rattle.steps.proofs.Next.{drop-next}
use Rattle.steps.proofs.Coursing.{coursing-next, coursing-end, coursing-full}
use Rattle.steps.proofs.bodies.Body.validate_steps.Goals as goal

pub returns-then-is_full : goal.returns-then-is_full
returns-then-is_full c = λ s h. coursing-full c.loop-step.invariant s h c.is_full.ensures c.if-is_full.true

pub loop-step-preserved : goal.loop-step-preserved
loop-step-preserved c =
    coursing-next c.loop-step.invariant c.args.self.now.gathers_last (drop-next _ _ _ c.loop-step-test.true) c.loop-step-test.true
    c.validate_nodes-tally.ensures.list_after c.validate_nodes-tally.ensures.body_unchanged

pub returns : goal.returns
returns c = λ s h. coursing-end c.loop-step.invariant s h c.loop-step-test.false
