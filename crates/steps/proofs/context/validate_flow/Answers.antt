-- `steps::context::validate_flow` meets its contract. Assumes nothing.
use Rattle.steps.proofs.Places.{knot_ready}
use Rattle.steps.proofs.context.validate_flow.Goals as goal

pub put_knot-rests-requires : goal.put_knot-rests-requires
put_knot-rests-requires c = rw (c.items.ensures.file, c.items.ensures.items, c.knot_scope-scope.ensures) (knot_ready _ _ _ c.requires.flow_ready)
