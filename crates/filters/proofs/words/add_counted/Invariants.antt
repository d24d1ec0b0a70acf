-- `add_counted`. The loop's invariant: what is left to be added are the names that are left. Assumes nothing.
use Rattle.std.proofs.Common.{◌≡◌}
use Rattle.story.specs.Story.{words}
use Rattle.story.specs.Flows.{counted_in}
use Rattle.searches.specs.NameViews.{names_left}
use Rattle.filters.specs.Words.{added_all}
use Rattle.filters.proofs.words.add_counted.Given as goal

abbrev pub invariant-loop-name : goal.invariant-loop-name
invariant-loop-name l = added_all l.filter (words (names_left l.name-iterator)) ≡ added_all l.initial.filter (words (counted_in 0 l.s))
