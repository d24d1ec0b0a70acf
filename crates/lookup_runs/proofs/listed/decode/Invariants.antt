-- What is put leaves the buffer as long as before.
use Rattle.lookup_runs.specs.Room.{SameRoom}
use Rattle.lookup_runs.proofs.listed.decode.Given as goal

abbrev pub invariant-loop-high : goal.invariant-loop-high
invariant-loop-high l = SameRoom l.initial.out l.out
