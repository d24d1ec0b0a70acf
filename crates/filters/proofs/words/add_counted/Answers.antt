-- `add_counted`: the names that are left. Assumes nothing.
use Rattle.filters.specs.Words.{added_all}
use Rattle.filters.proofs.words.add_counted.Goals as goal

pub loop-name-preserved : goal.loop-name-preserved
unfolding added_all
loop-name-preserved c = rw c.add_word.ensures (rw c.in-Some.ensures.steps at c.loop-name.invariant)

pub returns : goal.returns
unfolding added_all
returns c = rw c.in-None.ensures.steps.0 at c.loop-name.invariant
