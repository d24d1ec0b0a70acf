-- `symbols::targets::EntryIndex::find_exact` meets its contract: an exact fit is the same word. Assumes nothing.
use mathlib.Core.Path.{◌∙◌}
use Rattle.symbols.proofs.Searched.{sought-exact, first-same}
use Rattle.symbols.proofs.targets.EntryIndex.find_exact.Goals as goal

pub returns : goal.returns
returns c = c.find.ensures ∙ first-same _ _ (sought-exact c.args.target.now) _ _
