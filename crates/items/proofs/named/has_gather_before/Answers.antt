-- `has_gather_before`: found as a gather among the first. Assumes nothing.
use Rattle.std.proofs.lemmas.List.{take_min}
use Rattle.items.specs.Search.{of_sort, bears, found_among}
use Rattle.items.proofs.Numbered.{items-first}
use Rattle.items.proofs.named.has_gather_before.Goals as goal

pub returns : goal.returns
unfolding of_sort bears found_among
returns c = rw (← items-first c.args.file.now c.args.items.now c.args.i, ← take_min c.args.i c.args.items.now, ← c.min.ensures) c.found_in.ensures
