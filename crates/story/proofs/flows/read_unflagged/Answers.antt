-- `read_unflagged`: the title with its nodes, then the stitches. Assumes nothing.
use Rattle.fields.proofs.Laws.{handed_on}
use Rattle.records.specs.Work.{st, keeping}
use Rattle.story.specs.Flows.{stitches}
use Rattle.story.proofs.TitleWalks.{titled-on, titled-else}
use Rattle.story.proofs.flows.read_unflagged.Goals as goal

pub returns-in_err-end : goal.returns-in_err-end
returns-in_err-end c =
    let a = c.args in
    rw (handed_on c.from_residual.result c.from_residual.ensures.1) (titled-else keeping a.p.base (st a.out.now a.n) a.p.bytes.now c.read_title.ensures stitches c.in_err-end.field-0.0 c.in_err-end.was)

pub returns : goal.returns
returns c =
    let a = c.args in
    rw (titled-on keeping a.p.base (st a.out.now a.n) a.p.bytes.now c.read_title.ensures stitches c.in_ok-end.end c.in_ok-end.m c.in_ok-end.was) (rw (c.after.ensures.base, c.after.ensures.bytes) at c.read_pieces.ensures)
