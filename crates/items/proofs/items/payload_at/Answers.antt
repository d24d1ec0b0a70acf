-- `payload_at`: the payload lies within what follows the place. Assumes nothing.
use native.Mathlib.Omega.{arith}
use Rattle.fields.proofs.Laws.{head-within}
use Rattle.items.proofs.Parts.{payload-none, payload-whole}
use Rattle.items.proofs.items.payload_at.Goals as goal

pub returns-in_default : goal.returns-in_default
returns-in_default c =
    let a = c.args in
    payload-none a.file.now a.place c.tail-s.ensures c.read_head.ensures c.in_default.field-0 c.in_default.is

pub slice_bounds-result-count-2 : goal.slice_bounds-result-count-2
slice_bounds-result-count-2 c = ((head-within c.tail-s.result.now c.in-Ok._kind c.in-Ok.e c.read_head.ensures c.in-Ok.is)).0

pub slice_bounds-result-start-2 : goal.slice_bounds-result-start-2
slice_bounds-result-start-2 c = omega (arith, (head-within c.tail-s.result.now c.in-Ok._kind c.in-Ok.e c.read_head.ensures c.in-Ok.is))

pub slice_bounds-result-end-2 : goal.slice_bounds-result-end-2
slice_bounds-result-end-2 c = omega (arith, (head-within c.tail-s.result.now c.in-Ok._kind c.in-Ok.e c.read_head.ensures c.in-Ok.is))

pub returns : goal.returns
returns c =
    let a = c.args in
    payload-whole a.file.now a.place c.tail-s.ensures c.read_head.ensures c.in-Ok._kind c.in-Ok.e c.in-Ok.is
