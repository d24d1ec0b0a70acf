-- `targets::ends::hash_after` meets its contract. Assumes nothing.
use Rattle.targets.proofs.Comparing.{hash-none, hash-some}
use Rattle.targets.proofs.ends.hash_after.Goals as goal

pub returns-in-None : goal.returns-in-None
returns-in-None c = hash-none c.args.file.now c.in-None.is c.args.start

pub returns-in-Some : goal.returns-in-Some
returns-in-Some c = hash-some c.args.file.now c.in-Some.is c.args.start c.hash_on.ensures c.name_at.ensures c.hash_on-in-Some.ensures
