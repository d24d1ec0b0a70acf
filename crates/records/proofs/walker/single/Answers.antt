-- `single`: the name, then nothing. Assumes nothing.
use Rattle.std.proofs.Common.{arith}
use Rattle.fields.proofs.Laws.{handed_on, name-within}
use Rattle.records.specs.Grammar.{ending}
use Rattle.records.specs.Work.{st, keeping}
use Rattle.records.proofs.Walking.{named-refused, named-on, told-end}
use Rattle.records.proofs.walker.single.Goals as goal

pub slice_bounds-at_end-count : goal.slice_bounds-at_end-count
slice_bounds-at_end-count c = omega (arith, (name-within c.args.p.bytes.now c.in_ok-e.e c.read_name.ensures c.in_ok-e.was))

pub slice_bounds-at_end-start : goal.slice_bounds-at_end-start
slice_bounds-at_end-start c = omega (arith, (name-within c.args.p.bytes.now c.in_ok-e.e c.read_name.ensures c.in_ok-e.was))

pub returns-in_err-e : goal.returns-in_err-e
returns-in_err-e c =
    let a = c.args in
    rw (handed_on c.from_residual.result c.from_residual.ensures.1) (named-refused keeping a.p.base (st a.out.now a.n) ending a.p.bytes.now c.in_err-e.field-0.0 c.read_name.ensures c.in_err-e.was)

pub returns : goal.returns
returns c =
    let a = c.args in
    rw (named-on keeping a.p.base (st a.out.now a.n) ending a.p.bytes.now c.in_ok-e.e c.read_name.ensures c.in_ok-e.was)
    (told-end keeping _ _ _ c.at_end.ensures)
