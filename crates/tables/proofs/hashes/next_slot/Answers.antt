-- `tables::hashes::next_slot` meets its contract. Assumes nothing.
use mathlib.Core.Path.{sym}
use native.Mathlib.Omega.{arith}
use Rattle.tables.proofs.Tables.{next-after, next-first}
use Rattle.tables.proofs.hashes.next_slot.Goals as goal

pub returns-then-next-slots : goal.returns-then-next-slots
returns-then-next-slots c = (sym (next-after _ _ (omega arith)), omega arith)

pub returns : goal.returns
returns c = (sym (next-first _ _ (omega arith)), omega arith)
