-- `fillings::put_knot` meets its contract: labels and temps are of different classes. Assumes nothing.
use native.Mathlib.Omega.{arith}
use Rattle.sets.proofs.Holding.{empty-without}
use Rattle.sets.proofs.Passing.{without-members}
use Rattle.steps.proofs.Filled.{knot-put}
use Rattle.steps.proofs.fillings.put_knot.Goals as goal

pub put_items-labels-requires : goal.put_items-labels-requires
put_items-labels-requires c = empty-without _ 0 c.clear.ensures

pub put_items-temps-requires : goal.put_items-temps-requires
put_items-temps-requires c =
    rw c.between-own.ensures.file (without-members (rw c.between-whole.ensures.file at c.put_items-labels.ensures) (λ e. omega arith) (empty-without _ 1 c.clear.ensures))

pub returns : goal.returns
returns c =
    let w = c.between-whole.ensures in
    let o = c.between-own.ensures in
    knot-put c.args.kept.file.now c.args.kept.items.now c.args.s (rw (w.file, w.items) at c.put_items-labels.ensures) (rw (o.file, o.items) at c.put_items-temps.ensures)
