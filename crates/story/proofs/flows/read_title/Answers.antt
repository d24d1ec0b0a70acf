-- `read_title`: the heading, and the nodes that it announces. Assumes nothing.
use Rattle.std.proofs.Common.{arith}
use Rattle.fields.proofs.Laws.{handed_on}
use Rattle.story.proofs.Reaches.{heading-laid}
use Rattle.records.specs.Work.{st, keeping, piece_of}
use Rattle.story.proofs.TitleWalks.{title-refused, title-answers}
use Rattle.story.proofs.flows.read_title.Goals as goal

pub between-requires : goal.between-requires
between-requires c = omega (arith, heading-laid c.args.p.bytes.now c.in_ok-h.h c.read_heading.ensures c.in_ok-h.was)

pub returns-in_err-h : goal.returns-in_err-h
returns-in_err-h c =
    let a = c.args in
    rw (handed_on c.from_residual.result c.from_residual.ensures.1) (title-refused keeping a.p.base (st a.out.now a.n) a.p.bytes.now c.in_err-h.field-0.0 c.read_heading.ensures c.in_err-h.was)

pub returns-in_err-m : goal.returns-in_err-m
unfolding piece_of
returns-in_err-m c =
    let a = c.args in
    rw (handed_on c.from_residual-in_err-m.result c.from_residual-in_err-m.ensures.1) (title-answers keeping a.p.base (st a.out.now a.n) a.p.bytes.now c.in_ok-h.h c.read_heading.ensures c.in_ok-h.was (rw (c.between.ensures.base, c.between.ensures.bytes) at c.walk_nodes.ensures) (rw c.in_err-m.was))

pub returns : goal.returns
unfolding piece_of
returns c =
    let a = c.args in
    title-answers keeping a.p.base (st a.out.now a.n) a.p.bytes.now c.in_ok-h.h c.read_heading.ensures c.in_ok-h.was (rw (c.between.ensures.base, c.between.ensures.bytes) at c.walk_nodes.ensures) (rw c.in_ok-m.was)
