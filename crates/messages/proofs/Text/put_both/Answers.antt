-- `messages::Text::put_both` meets its contract: two pieces, and then a text around one name. Assumes nothing.
use native.Mathlib.Omega.{arith}
use Rattle.messages.proofs.Wrote.{wrote_then}
use Rattle.messages.proofs.Text.put_both.Goals as goal

pub returns-clause-wrote : goal.returns-clause-wrote
returns-clause-wrote c =
    wrote_then c.put.ensures.wrote (omega (arith, c.requires))
    (wrote_then c.put-2.ensures.wrote (omega arith) c.put_around.ensures.wrote)
