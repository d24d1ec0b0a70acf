-- `validate_root`: the filter has the root's labels, and the passes find what they find at the root. Assumes nothing.
use native.Mathlib.Omega.{arith}
use Rattle.filters.proofs.Bodies.{names_part, labels_part}
use Rattle.context.proofs.Places.{root-ready}
use Rattle.context.proofs.view.WholeView.validate_root.Goals as goal

pub put_declared-requires : goal.put_declared-requires
put_declared-requires c = rw c.root_scope-scope.ensures (omega arith)

pub invariant_of-body : goal.invariant_of-body
invariant_of-body c = record { ready = rw c.root_scope-scope.ensures (root-ready c.args.self.now.numbers_kept c.args.self.now.index.story.source.in_order) }

pub invariant_of-place : goal.invariant_of-place
invariant_of-place c = record {
  names_covered = names_part c.put_declared.ensures c.split_at-split.ensures.0;
  labels_covered = labels_part c.put_declared.ensures c.split_at-split.ensures.0;
}

pub returns : goal.returns
returns c = rw c.root_scope-scope.ensures at c.validate_passes.ensures
