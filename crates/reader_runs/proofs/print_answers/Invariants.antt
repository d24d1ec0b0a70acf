-- What is left of the bytes falls.
use Rattle.std.proofs.Common.{length}
use Rattle.reader_runs.proofs.print_answers.Given as goal

abbrev pub decreases-loop-length : goal.decreases-loop-length
decreases-loop-length g l = length l.left
