-- `validate_whole_flow`: the filter has the names of the flow. Assumes nothing.
use native.Mathlib.Omega.{arith}
use Rattle.filters.proofs.Bodies.{names_part, labels_part}
use Rattle.context.proofs.Places.{knot_ready}
use Rattle.context.proofs.context.validate_whole_flow.Goals as goal

pub put_declared-requires : goal.put_declared-requires
put_declared-requires c =
    rw c.knot_scope-scope.ensures (omega (arith, c.requires.params))

pub invariant_of-body : goal.invariant_of-body
invariant_of-body c = record { ready = rw c.knot_scope-scope.ensures (knot_ready _ _ _ c.requires) }

pub invariant_of-place : goal.invariant_of-place
invariant_of-place c = record {
  names_covered = names_part c.put_declared.ensures c.split_at-split.ensures.0;
  labels_covered = labels_part c.put_declared.ensures c.split_at-split.ensures.0;
}

pub invariant_of-view : goal.invariant_of-view
invariant_of-view c = record { own = c.knot_scope-scope.ensures; flow_ready = c.requires }
