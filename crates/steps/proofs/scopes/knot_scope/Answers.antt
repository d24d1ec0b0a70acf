-- `scopes::knot_scope` meets its contract. Assumes nothing.
use Rattle.steps.proofs.Places.{start-onward, body-within}
use Rattle.steps.proofs.scopes.knot_scope.Goals as goal

pub invariant_of-kept : goal.invariant_of-kept
invariant_of-kept c = record { rising = c.requires.flow_ready.own.rising }

pub index_from-last-requires : goal.index_from-last-requires
index_from-last-requires c = start-onward _ _ _ c.requires.flow_ready.ordered c.index_from-first.ensures.0

pub index_from-end-requires : goal.index_from-end-requires
index_from-end-requires c = start-onward _ _ _ (body-within _ _ _ c.requires.flow_ready) c.index_from-last.ensures.0
