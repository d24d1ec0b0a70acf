-- `messages::Text::put` meets its contract: one more byte of the piece is copied. Assumes nothing.
use native.Mathlib.Omega.{arith}
use Rattle.std.proofs.Common.{rules}
use Rattle.messages.proofs.Wrote.{copy-next}
use Rattle.messages.proofs.Text.put.Goals as goal

pub loop-i-preserved : goal.loop-i-preserved
loop-i-preserved c =
    let next = copy-next (omega (arith, c.requires)) c.loop-i.invariant.1 c.loop-i-test.true in
    search (rules, next)
