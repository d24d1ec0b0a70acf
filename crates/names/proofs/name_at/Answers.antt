-- `names::name_at` meets its contract: each of its parts is what `name_at` gives, by where the file ends. Assumes nothing.
use native.Mathlib.Omega.{arith}
use Rattle.names.proofs.Counted.{part-past, part-whole, part_cut}
use Rattle.names.proofs.name_at.Goals as goal

pub returns-then-file-at : goal.returns-then-file-at
returns-then-file-at c = part-past _ _ c.if-file-at.true

pub overflow_cast-count : goal.overflow_cast-count
overflow_cast-count c = omega (arith, c.type_inv.file c.args.at)

pub returns-then-count-file : goal.returns-then-count-file
returns-then-count-file c = part-whole _ _

pub returns : goal.returns
returns c = part_cut _ _ (omega arith)
