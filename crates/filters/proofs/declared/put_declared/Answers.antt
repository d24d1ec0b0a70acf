-- `put_declared`: each part gets its names; a filter without slots lacks nothing. Assumes nothing.
use native.Mathlib.Omega.{arith}
use lib.ListN.{length-take}
use Rattle.filters.proofs.Bodies.{declared-none, declared-put}
use Rattle.filters.proofs.declared.put_declared.Goals as goal

pub returns-then-filter-eq0 : goal.returns-then-filter-eq0
returns-then-filter-eq0 c = declared-none _ c.if-filter-eq0.true

pub slice_bounds-put_names-end-2 : goal.slice_bounds-put_names-end-2
slice_bounds-put_names-end-2 c =
    omega (arith, length-take c.split_at-split.result c.args.filter.now, c.split_at-split.ensures.1)

pub returns : goal.returns
returns c =
    declared-put c.args.filter.now _ _ (omega (arith, length-take c.split_at-split.result c.args.filter.now, c.split_at-split.ensures.1)) (omega arith) c.split_at-split.ensures.1 c.split_at-split.ensures.0 c.put_names.ensures c.put_labels.ensures
