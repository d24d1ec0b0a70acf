-- `steps::visits::thing_of` meets its contract. Assumes nothing.
use mathlib.Core.Path.{sym, ap, ◌∙◌}
use mathlib.Core.List.{[]}
use Rattle.records.specs.Numbers.{item_in}
use Rattle.names.specs.Counted.{name_at}
use Rattle.steps.proofs.visits.thing_of.Goals as goal

pub returns : goal.returns
unfolding item_in
returns c = record { by_index = λ file n. record { sort = sym (c.sort_in.ensures file); named = λ z. n z ∙ ap (name_at file) (sym (c.named_at.ensures.0 file)); branch = sym (c.in_branch.ensures file); leaves = sym (c.choice_has_explicit_divert.ensures file) }; value = rw (c.sort_in.ensures [], c.named_at.ensures.0 [], c.in_branch.ensures [], c.choice_has_explicit_divert.ensures []) }
