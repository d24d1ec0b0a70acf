-- `steps::nodes::visit_of` meets its contract. Assumes nothing.
use mathlib.Core.List.{[]}
use Rattle.records.specs.Numbers.{item_in}
use Rattle.steps.proofs.nodes.visit_of.Goals as goal

pub returns : goal.returns
unfolding item_in
returns c = rw (c.at_item.ensures, c.thing_of.ensures.value, c.place_in.ensures.0, c.named_at.ensures.0 [])
