-- `start_at`: four bytes as one number. Assumes nothing.
use Rattle.story.specs.File.{start_at}
use Rattle.story.proofs.trailer.start_at.Goals as goal

pub returns : goal.returns
unfolding start_at
returns c = c.word.ensures
