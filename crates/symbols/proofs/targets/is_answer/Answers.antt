-- `symbols::targets::is_answer` meets its contract. Assumes nothing.
use mathlib.Core.Path.{◌∙◌}
use Rattle.symbols.specs.Rows.{sought}
use Rattle.symbols.proofs.Searched.{sought-either}
use Rattle.symbols.proofs.targets.is_answer.Goals as goal

pub returns : goal.returns
unfolding sought
returns c = (c.is_wanted.ensures ∙ rw c.fit_entry.ensures) ∙ sought-either c.args.target.now _
