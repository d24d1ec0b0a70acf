-- `targets::ends::end_of` meets its contract. The loop's invariant: what follows the dots of the word follows those left of the rest. Assumes nothing.
use native.Mathlib.Omega.{arith}
use Rattle.targets.proofs.Dotted.{passing-end, passing-short, passing-dot, passing-other}
use Rattle.targets.proofs.ends.end_of.Goals as goal
use Rattle.targets.proofs.ends.end_of.Goals.{then-rest-eq46, else-rest-eq46}

pub returns-then-rest-eq0 : goal.returns-then-rest-eq0
returns-then-rest-eq0 c = passing-short c.loop-left.invariant c.if-rest-eq0.true

pub loop-left-preserved : goal.loop-left-preserved
loop-left-preserved c =
    let inv = c.loop-left.invariant in
    elim c.if-rest-eq46.branch [
      | then-rest-eq46 w ↦ rw w.left-is (passing-dot inv c.if-rest-eq0.false (omega arith) w.if-rest-eq46.true)
      | else-rest-eq46 w ↦ rw w.left-is (passing-other inv c.if-rest-eq0.false (omega arith) w.if-rest-eq46.false)
    ]

pub returns : goal.returns
returns c = passing-end c.loop-left.invariant (omega arith)
