-- `sets::members::NamedItems::put_items` meets its contract. The loop's invariant: the names of the first i items were put. Assumes nothing.
use mathlib.Core.Path.{refl}
use native.Mathlib.Omega.{arith}
use Rattle.sets.proofs.Passing.{put-start, put_on, put-end}
use Rattle.sets.proofs.members.NamedItems.put_items.Goals as goal

pub loop-i-init : goal.loop-i-init
loop-i-init c = (refl, put-start c.requires)

pub loop-i-preserved : goal.loop-i-preserved
loop-i-preserved c = (omega (arith, c.loop-i.invariant.0), put_on c.loop-i.invariant.1 c.put_next-rest.ensures)

pub returns : goal.returns
returns c = put-end c.loop-i.invariant.1 (omega arith)
