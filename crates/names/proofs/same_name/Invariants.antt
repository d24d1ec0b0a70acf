-- `names::same_name`: the names agree before `i`. Assumes nothing.
use Rattle.names.proofs.Words.{Agree}
use Rattle.names.proofs.same_name.Given as goal

abbrev pub invariant-loop-i : goal.invariant-loop-i
invariant-loop-i l = Agree l.a l.b l.i
