-- `hash_entry`: the names present, one after the other. Assumes nothing.
use Rattle.tables.specs.Hints.{entry_hash}
use Rattle.tables.proofs.hints.hash_entry.Goals as goal

pub returns : goal.returns
unfolding entry_hash
returns c = rw (← c.hash_dotted-flow.ensures, ← c.hash_dotted-stitch.ensures, ← c.name_at.ensures) c.hash_on.ensures
