-- `steps::looks::is_item_clear` meets its contract. Assumes nothing.
use Rattle.steps.proofs.Looking.{clear-by-sort}
use Rattle.steps.proofs.looks.is_item_clear.Goals as goal

pub returns : goal.returns
returns c = clear-by-sort _ _ _ _ _ _ c.rules_at.ensures c.breaks_none.ensures
