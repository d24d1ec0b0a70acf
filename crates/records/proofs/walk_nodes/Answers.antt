-- `walk_nodes`: the walk of a list with 64 levels left. Assumes nothing.
use Rattle.records.specs.Grammar.{nodes}
use Rattle.records.proofs.walk_nodes.Goals as goal

pub returns : goal.returns
unfolding nodes
returns c = c.list.ensures
