-- `items::runs::KeptNumbers::items_from` meets its contract. Assumes nothing.
use Rattle.items.proofs.RisingPlaces.{from_cut, from-rising}
use Rattle.items.proofs.runs.KeptNumbers.items_from.Goals as goal

pub invariant_of-result : goal.invariant_of-result
invariant_of-result c = record { rising = rw (from_cut _ _ c.count_before-before.ensures.0) (from-rising _ _ c.args.self.rising) }

pub returns : goal.returns
returns c = from_cut _ _ c.count_before-before.ensures.0
