-- `tables::hints::entry_answers` meets its contract. Assumes nothing.
use borrow.Author.Tests.{le-ltb}
use native.Mathlib.Omega.{arith}
use Rattle.tables.proofs.Answering.{entry-answered, not-answered}
use Rattle.tables.proofs.hints.entry_answers.Goals as goal

pub returns-then-k-len : goal.returns-then-k-len
returns-then-k-len c =
    entry-answered _ _ _ c.args.index.now.numbers.now c.args.k (omega arith) (omega arith) c.entry_at.ensures c.is_answer.ensures

pub returns-else-k-len : goal.returns-else-k-len
returns-else-k-len c = rw (le-ltb _ _ c.if-k-len.false) not-answered
