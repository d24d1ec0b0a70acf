-- `searches::flows_have`: the flows that are left decide. Assumes nothing.
use mathlib.Core.Path.{refl, ◌∙◌}
use native.Mathlib.Omega.{arith}
use lib.ListN.{length-take, length-drop}
use Rattle.fields.proofs.Laws.{list-within}
use Rattle.searches.proofs.Called.{flows-none, flow-found, flow-passed}
use borrow.Author.Rules.{rules}
use Rattle.searches.proofs.flows_have.Goals as goal

pub loop-e-init : goal.loop-e-init
loop-e-init c = (search rules, refl)

pub returns : goal.returns
returns c =
    let a = c.args in
    let l = c.loop-e in
    rw l.invariant.1 (flows-none a.function a.name.now l.t.now c.in_default.field-0 c.read_list.ensures c.in_default.is)

pub slice_bounds-is_called-count : goal.slice_bounds-is_called-count
slice_bounds-is_called-count c = ((list-within c.loop-e.t.now c.in-Ok.e c.read_list.ensures c.in-Ok.is)).0

pub slice_bounds-is_called-start : goal.slice_bounds-is_called-start
slice_bounds-is_called-start c = omega (arith, (list-within c.loop-e.t.now c.in-Ok.e c.read_list.ensures c.in-Ok.is))

pub slice_bounds-is_called-end : goal.slice_bounds-is_called-end
slice_bounds-is_called-end c = omega (arith, (list-within c.loop-e.t.now c.in-Ok.e c.read_list.ensures c.in-Ok.is))

pub returns-then-is_called : goal.returns-then-is_called
returns-then-is_called c =
    let a = c.args in
    let l = c.loop-e in
    rw l.invariant.1 (flow-found a.function a.name.now l.t.now c.in-Ok.e c.read_list.ensures c.in-Ok.is c.is_called.ensures c.if-is_called.true)

pub slice_bounds-t-count : goal.slice_bounds-t-count
slice_bounds-t-count c = ((list-within c.loop-e.t.now c.in-Ok.e c.read_list.ensures c.in-Ok.is)).1

pub slice_bounds-t-start : goal.slice_bounds-t-start
slice_bounds-t-start c = omega (arith, (list-within c.loop-e.t.now c.in-Ok.e c.read_list.ensures c.in-Ok.is))

pub slice_bounds-t-end : goal.slice_bounds-t-end
slice_bounds-t-end c = omega (arith, (list-within c.loop-e.t.now c.in-Ok.e c.read_list.ensures c.in-Ok.is))

pub loop-e-smaller : goal.loop-e-smaller
loop-e-smaller c = simp (length-take, length-drop) (omega (arith, (list-within c.loop-e.t.now c.in-Ok.e c.read_list.ensures c.in-Ok.is)))

pub loop-e-preserved : goal.loop-e-preserved
loop-e-preserved c =
    let a = c.args in
    let l = c.loop-e in (
      simp (length-take, length-drop) (omega (arith, (list-within c.loop-e.t.now c.in-Ok.e c.read_list.ensures c.in-Ok.is), l.invariant.0)),
      l.invariant.1 ∙ flow-passed a.function a.name.now l.t.now c.in-Ok.e c.read_list.ensures c.in-Ok.is c.is_called.ensures c.if-is_called.false,
    )
