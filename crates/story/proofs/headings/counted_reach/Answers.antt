-- `counted_reach`: the count byte, if there is one. Assumes nothing.
use borrow.Author.Tests.{lt-ltb, le-ltb}
use Rattle.story.specs.Headings.{counted_reach}
use Rattle.story.proofs.headings.counted_reach.Goals as goal

pub returns-then-at-s : goal.returns-then-at-s
unfolding counted_reach
returns-then-at-s c = rw (lt-ltb _ _ c.if-at-s.true) c.names_reach.ensures

pub returns : goal.returns
unfolding counted_reach
returns c = rw (le-ltb _ _ c.if-at-s.false)
