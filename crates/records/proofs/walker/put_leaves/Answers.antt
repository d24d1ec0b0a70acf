-- `put_leaves`: the bit, where there is a slot for it. Assumes nothing.
use Rattle.records.proofs.Choices.{put-stays, put-leaves, put_full}
use Rattle.records.proofs.walker.put_leaves.Goals as goal

pub returns-then-slot-out : goal.returns-then-slot-out
returns-then-slot-out c = put-leaves c.args.n c.args.out.now c.if-leaves.true

pub returns-else-slot-out : goal.returns-else-slot-out
returns-else-slot-out c = put_full c.args.n c.args.out.now c.if-leaves.true c.if-slot-out.false

pub returns-else-leaves : goal.returns-else-leaves
returns-else-leaves c = put-stays c.args.n c.args.out.now c.if-leaves.false
