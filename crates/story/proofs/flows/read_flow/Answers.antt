-- `read_flow`: the flag, then what follows it. Assumes nothing.
use Rattle.fields.proofs.Laws.{handed_on}
use Rattle.records.specs.Work.{st, keeping}
use Rattle.records.proofs.Walking.{flagged-refused, flagged-same}
use Rattle.story.specs.Flows.{titled, stitches, flow}
use Rattle.story.proofs.flows.read_flow.Goals as goal

pub returns-in_err-read_flag : goal.returns-in_err-read_flag
unfolding flow
returns-in_err-read_flag c = rw (handed_on c.from_residual.result c.from_residual.ensures.1) (flagged-refused keeping c.args.p.base (st c.args.out.now c.args.n) (titled stitches) (titled stitches) c.args.p.bytes.now c.in_err-read_flag.field-0.0 c.read_flag.ensures c.in_err-read_flag.was)

pub returns : goal.returns
unfolding flow
returns c = rw (flagged-same keeping c.args.p.base (st c.args.out.now c.args.n) (titled stitches) c.args.p.bytes.now _ c.read_flag.ensures c.in_ok-read_flag.was) (rw (c.after.ensures.base, c.after.ensures.bytes) at c.read_unflagged.ensures)
