-- `sets::members::Among::has` meets its contract: the set decides, and then the items that were left. Assumes nothing.
use Rattle.sets.proofs.Passing.{member-found, member-left}
use Rattle.sets.proofs.members.Among.has.Goals as goal

pub returns-then-has : goal.returns-then-has
returns-then-has c =
    member-found c.args.self.now.members c.args.name.now c.has.ensures c.if-has.true

pub returns-else-has : goal.returns-else-has
returns-else-has c =
    member-left c.args.self.now.members c.args.name.now c.has.ensures c.if-has.false c.found_in.ensures
