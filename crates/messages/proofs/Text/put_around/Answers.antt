-- `messages::Text::put_around` meets its contract: its three pieces follow one another. Assumes nothing.
use native.Mathlib.Omega.{arith}
use Rattle.messages.proofs.Wrote.{wrote_then}
use Rattle.messages.proofs.Text.put_around.Goals as goal

pub returns-clause-wrote : goal.returns-clause-wrote
returns-clause-wrote c =
    wrote_then c.put.ensures.wrote (omega (arith, c.requires))
    (wrote_then c.put-2.ensures.wrote (omega arith) c.put-3.ensures.wrote)
