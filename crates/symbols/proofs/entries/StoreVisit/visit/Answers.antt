-- `symbols::entries::Store` stores an entry at a visit. Assumes nothing.
use Rattle.std.proofs.Common.{refl}
use Rattle.symbols.specs.Numbers.{store_all}
use Rattle.symbols.proofs.entries.StoreVisit.visit.Goals as goal

pub returns : goal.returns
unfolding store_all
returns c = (c.put_entry-self.ensures, refl)
