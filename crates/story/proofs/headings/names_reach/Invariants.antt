-- `names_reach`: what is left of the names, from the offset reached. Assumes nothing.
use Rattle.std.proofs.Common.{◌≡◌, ◌-◌, ◌≤◌, length}
use Rattle.story.specs.Headings.{names_reach}
use Rattle.story.proofs.headings.names_reach.Given as goal

abbrev pub invariant-loop : goal.invariant-loop
invariant-loop l = (l.e ≤ length l.s) × (names_reach l.s l.many l.at ≡ names_reach l.s (l.many - l.counter) l.e)
