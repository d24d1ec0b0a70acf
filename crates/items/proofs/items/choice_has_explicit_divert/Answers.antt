-- `choice_has_explicit_divert`: the highest bit. Assumes nothing.
use mathlib.Core.Path.{sym}
use Rattle.records.specs.Numbers.{leaves_in}
use Rattle.items.proofs.Sorts.{item-leaves}
use Rattle.items.proofs.items.choice_has_explicit_divert.Goals as goal

pub returns : goal.returns
unfolding leaves_in
returns c = λ file. sym (item-leaves file c.args.item)
