-- `targets::entries::put_ends` meets its contract. The loop's invariant: the ends before the number d were put. Assumes nothing.
use Rattle.std.proofs.Common.{◌≡◌, ◌≤◌, length}
use Rattle.targets.proofs.Gaining.{EndsPut}
use Rattle.targets.proofs.entries.put_ends.Given as goal

abbrev pub invariant-loop-d : goal.invariant-loop-d
invariant-loop-d l = (length l.set ≡ length l.initial.set) × (l.d ≤ 16) × EndsPut l.file l.first l.second l.third l.initial.set l.set l.d
