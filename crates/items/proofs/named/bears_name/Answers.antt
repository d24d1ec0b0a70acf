-- `bears_name`: the sort first, then the name. Assumes nothing.
use Rattle.items.specs.Search.{bears}
use Rattle.items.proofs.named.bears_name.Goals as goal

pub returns-then-is_of_sort : goal.returns-then-is_of_sort
unfolding bears
returns-then-is_of_sort c = rw (← c.is_of_sort.ensures _, c.if-is_of_sort.true, ← c.item_name.ensures) c.same_name.ensures

pub returns-else-is_of_sort : goal.returns-else-is_of_sort
unfolding bears
returns-else-is_of_sort c = rw (← c.is_of_sort.ensures _, c.if-is_of_sort.false)
