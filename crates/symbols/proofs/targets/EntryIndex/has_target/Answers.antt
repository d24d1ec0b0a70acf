-- `symbols::targets::EntryIndex::has_target` meets its contract: an entry is found where some spelling answers. Assumes nothing.
use Rattle.std.proofs.Common.{◌∙◌, ap, is_some}
use Rattle.symbols.proofs.Searched.{sought-either, first_any}
use Rattle.symbols.proofs.targets.EntryIndex.has_target.Goals as goal

pub returns : goal.returns
returns c = c.is_some.ensures ∙ ap is_some c.find.ensures ∙ first_any _ _ (sought-either c.args.target.now) _ _
