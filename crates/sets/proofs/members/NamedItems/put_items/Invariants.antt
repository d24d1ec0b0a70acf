-- `sets::members::NamedItems::put_items` meets its contract. The loop's invariant: the names of the first i items were put. Assumes nothing.
use mathlib.Core.Path.{◌≡◌}
use lib.ListN.{length}
use Rattle.sets.specs.Sets.{number_of}
use Rattle.sets.specs.Members.{MembersPut}
use Rattle.sets.proofs.members.NamedItems.put_items.Given as goal

abbrev pub invariant-loop-i : goal.invariant-loop-i
invariant-loop-i l = (length l.set ≡ length l.initial.set) × MembersPut l.sought l.self.file.now (number_of l.class) l.self.items.now l.i l.initial.set l.set l.rest
