-- `steps::bodies::validate_steps_by_number` meets its contract. Assumes nothing.
use Rattle.steps.proofs.Numbered.{coursing-start, coursing-ready, coursing-next, coursing-end, coursing-full}
use Rattle.steps.proofs.bodies.validate_steps_by_number.Goals as goal

pub loop-i-init : goal.loop-i-init
loop-i-init c = coursing-start {c = c.args.c} (rw (c.items.ensures.file, c.items.ensures.items) at c.put_body-rests.ensures) _

pub returns-then-is_full : goal.returns-then-is_full
returns-then-is_full c = λ s h. coursing-full c.loop-i.invariant s h c.is_full.ensures c.if-is_full.true

pub validate_nodes_by_number-tally-requires : goal.validate_nodes_by_number-tally-requires
validate_nodes_by_number-tally-requires c =
    coursing-ready {c = c.args.c} (rw (c.items.ensures.file, c.items.ensures.items) at c.put_body-rests.ensures) c.requires c.loop-i.invariant c.loop-i-test.true

pub loop-i-preserved : goal.loop-i-preserved
loop-i-preserved c =
    coursing-next c.loop-i.invariant c.requires c.loop-i-test.true
    c.validate_nodes_by_number-tally.ensures.list_after c.validate_nodes_by_number-tally.ensures.body_unchanged

pub returns : goal.returns
returns c = λ s h. coursing-end c.loop-i.invariant s h c.loop-i-test.false
