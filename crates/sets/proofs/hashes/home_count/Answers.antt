-- `sets::hashes::home_count` meets its contract. Assumes nothing.
use mathlib.Core.Path.{◌∙◌}
use native.Mathlib.Omega.{arith}
use Rattle.sets.proofs.Hashing.{homes-min}
use Rattle.sets.proofs.hashes.home_count.Goals as goal

pub returns : goal.returns
returns c = (c.min.ensures ∙ homes-min c.args.slots, omega arith)
