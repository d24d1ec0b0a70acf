-- `symbols::targets::EntryIndex::find_ending` meets its contract: a fit by its ending is a dot and the word at the end. Assumes nothing.
use mathlib.Core.Path.{◌∙◌}
use Rattle.symbols.proofs.Searched.{sought-ending, first-same}
use Rattle.symbols.proofs.targets.EntryIndex.find_ending.Goals as goal

pub returns : goal.returns
returns c = c.find.ensures ∙ first-same _ _ (sought-ending c.args.target.now) _ _
