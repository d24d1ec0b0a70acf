-- `is_bare_kind`: nodes, and the other roles. Assumes nothing.
use Rattle.records.proofs.Bare.{bare-node, bare-zero}
use Rattle.records.proofs.sorts.is_bare_kind.Goals as goal

pub returns-in-Node : goal.returns-in-Node
returns-in-Node c = bare-node c.in-Node.is

pub returns-in_default : goal.returns-in_default
returns-in_default c = bare-zero c.args.role
