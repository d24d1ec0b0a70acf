-- `scopes::stitch_scope` meets its contract. Assumes nothing.
use Rattle.steps.proofs.Places.{start-onward}
use Rattle.steps.proofs.scopes.stitch_scope.Goals as goal

pub index_from-last-requires : goal.index_from-last-requires
index_from-last-requires c = start-onward _ _ _ c.requires.0 c.index_from-first.ensures.0
