-- `sets::walk` meets its contract. The loop's invariant: the slots from the home up to this one are others. Assumes nothing.
use Rattle.sets.proofs.walk.Goals as goal

pub returns-in-Empty : goal.returns-in-Empty
returns-in-Empty g c = (c.loop-at.invariant, c.loop-at.auto.at, c.loop-at-test.true, c.in-Empty.ensures)
