-- `searches::names_have`: the names that are left decide. Assumes nothing.
use Rattle.std.proofs.Common.{◌≡◌}
use Rattle.names.specs.Words.{one_of}
use Rattle.story.specs.Story.{words}
use Rattle.searches.specs.NameViews.{names_left}
use Rattle.searches.proofs.names_have.Given as goal

abbrev pub invariant-loop-view : goal.invariant-loop-view
invariant-loop-view l = one_of l.name (words (names_left l.names)) ≡ one_of l.name (words (names_left l.view-iterator))
