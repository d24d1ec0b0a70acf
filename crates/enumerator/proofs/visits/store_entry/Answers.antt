-- `enumerator::visits::store_entry` meets its contract. Assumes nothing.
use Rattle.enumerator.proofs.Stored.{store-counted}
use Rattle.enumerator.proofs.visits.store_entry.Goals as goal

pub returns : goal.returns
returns c = store-counted _ _ _ c.put_entry.ensures
