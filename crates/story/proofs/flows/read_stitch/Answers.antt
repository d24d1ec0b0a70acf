-- `read_stitch`: the title with its nodes, and nothing more. Assumes nothing.
use Rattle.fields.proofs.Laws.{handed_on}
use Rattle.records.specs.Grammar.{ending}
use Rattle.records.specs.Work.{st, keeping}
use Rattle.records.proofs.Walking.{told-end}
use Rattle.story.specs.Flows.{stitch}
use Rattle.story.proofs.TitleWalks.{titled-on, titled-else}
use Rattle.story.proofs.flows.read_stitch.Goals as goal

pub returns-in_err-end : goal.returns-in_err-end
unfolding stitch
returns-in_err-end c =
    let a = c.args in
    rw (handed_on c.from_residual.result c.from_residual.ensures.1) (titled-else keeping a.p.base (st a.out.now a.n) a.p.bytes.now c.read_title.ensures ending c.in_err-end.field-0.0 c.in_err-end.was)

pub returns : goal.returns
unfolding stitch
returns c =
    let a = c.args in
    rw (titled-on keeping a.p.base (st a.out.now a.n) a.p.bytes.now c.read_title.ensures ending c.in_ok-end.end c.in_ok-end.m c.in_ok-end.was) (told-end keeping _ _ _ c.at_end.ensures)
