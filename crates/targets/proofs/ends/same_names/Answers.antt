-- `targets::ends::same_names` meets its contract. Assumes nothing.
use Rattle.targets.proofs.Comparing.{names-same}
use Rattle.targets.proofs.ends.same_names.Goals as goal

pub returns-in-Some-Some : goal.returns-in-Some-Some
returns-in-Some-Some c q = names-same c.args.file.now c.in-Some-Some.is-0 c.in-Some-Some.is-1 (c.same_places.ensures q)
