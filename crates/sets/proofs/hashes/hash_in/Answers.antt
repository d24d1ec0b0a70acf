-- `sets::hashes::hash_in` meets its contract. Assumes nothing.
use Rattle.sets.specs.Hashes.{hash_from}
use Rattle.sets.proofs.hashes.hash_in.Goals as goal

pub returns : goal.returns
unfolding hash_from
returns c = rw (← c.number.ensures.0) c.hash_on.ensures
