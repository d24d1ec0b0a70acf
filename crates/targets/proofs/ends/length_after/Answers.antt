-- `targets::ends::length_after` meets its contract. Assumes nothing.
use Rattle.targets.proofs.Comparing.{length_none, length_some}
use Rattle.targets.proofs.ends.length_after.Goals as goal

pub returns-in-None : goal.returns-in-None
returns-in-None c = length_none c.args.file.now c.in-None.is

pub returns-in-Some : goal.returns-in-Some
returns-in-Some c = length_some c.args.file.now c.in-Some.is c.name_at.ensures
