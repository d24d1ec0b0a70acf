-- `items::runs::KeptNumbers::body_items` meets its contract. Assumes nothing.
use Rattle.items.proofs.RisingPlaces.{cut-length, cut-run}
use Rattle.items.proofs.runs.KeptNumbers.body_items.Goals as goal

pub slice_bounds-result-end : goal.slice_bounds-result-end
slice_bounds-result-end c = cut-length _ _ c.count_before-end.ensures.0

pub returns : goal.returns
returns c = cut-run _ _ _ c.args.self.rising c.items_from-rest.ensures c.count_before-end.ensures.0
