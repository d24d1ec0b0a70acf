-- `steps::nodes::pass_gather` meets its contract. Assumes nothing.
use Rattle.sets.proofs.Passing.{members-stay}
use Rattle.steps.proofs.nodes.pass_gather.Goals as goal

pub returns-clause-members_put : goal.returns-clause-members_put
returns-clause-members_put c = members-stay c.requires.members c.requires.i_in_bounds
