-- `is_labelled`: the bit above that of the branch. Assumes nothing.
use mathlib.Core.Path.{sym}
use Rattle.records.specs.Numbers.{labels_in}
use Rattle.items.proofs.Sorts.{item-labels}
use Rattle.items.proofs.items.is_labelled.Goals as goal

pub returns : goal.returns
unfolding labels_in
returns c = λ file. sym (item-labels file c.args.item)
