-- `has_temp`: found as a temp. Assumes nothing.
use Rattle.items.specs.Search.{of_sort, bears, found_among}
use Rattle.items.proofs.named.has_temp.Goals as goal

pub returns : goal.returns
unfolding of_sort bears found_among
returns c = c.found_in.ensures
