-- `put_breach`: its seven pieces follow one another. Assumes nothing.
use native.Mathlib.Omega.{arith}
use Rattle.messages.proofs.Wrote.{wrote_then}
use Rattle.lines.proofs.put_breach.Goals as goal

pub returns-clause-wrote : goal.returns-clause-wrote
returns-clause-wrote c =
    wrote_then c.put.ensures.wrote (omega (arith, c.requires))
    (wrote_then c.put_number.ensures.wrote (omega arith)
    (wrote_then c.put-2.ensures.wrote (omega arith)
    (wrote_then c.put_number-2.ensures.wrote (omega arith)
    (wrote_then c.put-3.ensures.wrote (omega arith)
    (wrote_then c.put-4.ensures.wrote (omega arith) c.put-5.ensures.wrote)))))
