-- `sets::known::put_names` meets its contract. The loop's invariant: the set holds the names before `at` in the class. Assumes nothing.
use mathlib.Core.Path.{◌≡◌}
use Prim.Native.Nat.{◌-◌}
use lib.ListN.{length}
use Rattle.sets.specs.Sets.{number_of}
use Rattle.sets.specs.Known.{NamesPut}
use Rattle.sets.proofs.known.put_names.Given as goal

abbrev pub invariant-loop-at : goal.invariant-loop-at
invariant-loop-at l = (length l.set ≡ length l.initial.set) × NamesPut l.file (number_of l.class) l.from l.to l.initial.set l.set l.at

abbrev pub decreases-loop-at : goal.decreases-loop-at
decreases-loop-at l = l.to - l.at
