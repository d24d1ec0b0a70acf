-- `tables::hashes::slot_of` meets its contract. Assumes nothing.
use mathlib.Core.Path.{refl}
use native.Mathlib.Nat.{mod-lt}
use Rattle.tables.proofs.hashes.slot_of.Goals as goal

pub returns : goal.returns
returns c = (refl, mod-lt c.args.hash c.requires)
