-- `sets::hashes::home_of` meets its contract. Assumes nothing.
use Rattle.sets.proofs.hashes.home_of.Goals as goal

pub returns : goal.returns
returns c = rw (← c.home_count.ensures.0)
