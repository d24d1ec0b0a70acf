-- `scopes::root_scope` meets its contract. Assumes nothing.
use Rattle.steps.proofs.Places.{start-onward}
use Rattle.steps.proofs.scopes.root_scope.Goals as goal

pub index_from-last-requires : goal.index_from-last-requires
index_from-last-requires c = start-onward _ _ _ c.args.source.in_order.root c.index_from-first.ensures.0
