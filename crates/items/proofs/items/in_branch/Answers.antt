-- `in_branch`: the bit above the sort. Assumes nothing.
use mathlib.Core.Path.{sym}
use Rattle.records.specs.Numbers.{branch_in}
use Rattle.items.proofs.Sorts.{item-branch}
use Rattle.items.proofs.items.in_branch.Goals as goal

pub returns : goal.returns
unfolding branch_in
returns c = λ file. sym (item-branch file c.args.item)
