-- `targets::ends::same_places` meets its contract. Assumes nothing.
use Rattle.targets.proofs.Comparing.{places_same}
use Rattle.targets.proofs.ends.same_places.Goals as goal

pub returns-else-a-b : goal.returns-else-a-b
returns-else-a-b c = places_same c.args.file.now c.args.a c.args.b c.name_at.ensures c.same_at.ensures
