-- `add_items`. The loop's invariant: what is left to be added are the names from the item at hand on. Assumes nothing.
use Rattle.filters.specs.Words.{named}
use Rattle.filters.proofs.Adding.{ItemsLeft}
use Rattle.filters.proofs.words.add_items.Given as goal

abbrev pub invariant-loop-item : goal.invariant-loop-item
invariant-loop-item l = ItemsLeft (named l.wanted) l.initial.filter l.file l.items l.filter l.item-index
