-- `targets::ends::end_of` meets its contract. The loop's invariant: what follows the dots of the word follows those left of the rest. Assumes nothing.
use lib.ListN.{length}
use Rattle.targets.proofs.Dotted.{Passing}
use Rattle.targets.proofs.ends.end_of.Given as goal

abbrev pub invariant-loop-left : goal.invariant-loop-left
invariant-loop-left l = Passing l.word l.dots l.rest l.left

abbrev pub decreases-loop-left : goal.decreases-loop-left
decreases-loop-left l = length l.rest
