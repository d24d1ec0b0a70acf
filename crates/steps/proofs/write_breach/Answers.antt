-- `write_breach`: the four numbers of a breach, where there is room. Assumes nothing.
use native.Mathlib.Omega.{arith}
use Rattle.steps.proofs.Hearing.{written_none, written-copied}
use Rattle.steps.proofs.write_breach.Goals as goal

pub returns-then-list-n : goal.returns-then-list-n
returns-then-list-n c = written_none _ _ _ _ _ c.if-list-n.true

pub returns : goal.returns
returns c = written-copied _ _ _ _ _ (omega arith) c.narrow.ensures c.narrow-2.ensures (omega arith) c.copy_from_slice.ensures.after
