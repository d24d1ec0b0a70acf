-- `targets::entries::put_from` meets its contract. Assumes nothing.
use Rattle.targets.proofs.Filling.{from-none, from_some}
use Rattle.targets.proofs.entries.put_from.Goals as goal

pub returns-in-None : goal.returns-in-None
returns-in-None c = from-none c.args.file.now _ c.in-None.is c.requires.reachable

pub returns-in-Some : goal.returns-in-Some
returns-in-Some c = from_some c.args.file.now _ c.in-Some.is c.put_ends.ensures
