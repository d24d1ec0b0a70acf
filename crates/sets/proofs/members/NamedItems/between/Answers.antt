-- `sets::members::NamedItems::between` meets its contract: the names of some of the items stand too. Assumes nothing.
use mathlib.Core.Path.{refl}
use Rattle.story.specs.Flows.{part}
use Rattle.items.proofs.Standing.{stand-part}
use Rattle.sets.proofs.members.NamedItems.between.Goals as goal

pub invariant_of-result : goal.invariant_of-result
unfolding part
invariant_of-result c = record { names_stand = stand-part c.args.self.names_stand c.args.a c.args.b }

pub returns-clause-items : goal.returns-clause-items
unfolding part
returns-clause-items c = refl
