-- What is left of the bytes falls.
use Rattle.std.proofs.Common.{length}
use Rattle.vectors.proofs.replay_all.Given as goal

abbrev pub decreases-loop-a : goal.decreases-loop-a
decreases-loop-a g l = length l.left
