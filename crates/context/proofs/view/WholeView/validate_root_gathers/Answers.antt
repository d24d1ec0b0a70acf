-- `validate_root_gathers`: the passes find what they find at the root. Assumes nothing.
use mathlib.Core.Path.{refl}
use mathlib.Core.List.{[]}
use Rattle.filters.proofs.Covering.{covers_none}
use Rattle.context.proofs.Places.{root-ready}
use Rattle.context.proofs.view.WholeView.validate_root_gathers.Goals as goal

pub invariant_of-body : goal.invariant_of-body
invariant_of-body c = record { ready = rw c.root_scope-scope.ensures (root-ready c.args.self.now.numbers_kept c.args.self.now.index.story.source.in_order) }

pub invariant_of-place : goal.invariant_of-place
invariant_of-place c = record { names_covered = covers_none [] refl _; labels_covered = covers_none [] refl _ }

pub returns : goal.returns
returns c = rw c.root_scope-scope.ensures at c.validate_passes.ensures
