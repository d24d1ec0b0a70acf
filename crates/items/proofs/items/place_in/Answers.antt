-- `place_in`: the lower part of the number. Assumes nothing.
use native.Mathlib.Omega.{arith}
use mathlib.Core.Path.{refl, sym}
use Rattle.records.specs.Numbers.{place_in}
use Rattle.items.proofs.Sorts.{item-place}
use Rattle.items.proofs.items.place_in.Goals as goal

pub returns : goal.returns
unfolding place_in
returns c = (refl, (λ file. sym (item-place file c.args.item)), omega arith)
