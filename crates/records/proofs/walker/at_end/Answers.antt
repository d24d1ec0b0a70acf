-- `at_end`: what is left decides. Assumes nothing.
use Rattle.std.proofs.Common.{arith}
use Rattle.records.proofs.Walking.{end_none, end-some}
use Rattle.records.proofs.walker.at_end.Goals as goal

pub returns-then-s-gt0 : goal.returns-then-s-gt0
returns-then-s-gt0 c = end-some _ _ (omega (arith, c.if-s-gt0.true))

pub returns : goal.returns
returns c = end_none _ _ (omega (arith, c.if-s-gt0.false))
