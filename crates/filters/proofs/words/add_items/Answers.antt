-- `add_items`. The loop's invariant: what is left to be added are the names from the item at hand on. Assumes nothing.
use native.Mathlib.Omega.{arith}
use Rattle.filters.proofs.Adding.{items-start, items-end, items-next}
use Rattle.filters.proofs.words.add_items.Goals as goal

pub loop-item-init : goal.loop-item-init
loop-item-init c = items-start _ _ _ _

pub loop-item-preserved : goal.loop-item-preserved
loop-item-preserved c = items-next c.loop-item.invariant (omega arith) c.add_item.ensures

pub returns : goal.returns
returns c = items-end c.loop-item.invariant (omega arith)
