-- `validate_stitch`: step 12, then 13 to 18 in one run of passes. Assumes nothing.
use mathlib.Core.Path.{sym, ◌∙◌}
use Rattle.context.proofs.Places.{stitch_ready}
use Rattle.context.proofs.Runs.{runs-found, runs-passed, name-run, stitch-run, stitch-runs}
use Rattle.context.proofs.view.KnotView.validate_stitch.Goals as goal

pub returns-in-Some : goal.returns-in-Some
returns-in-Some c =
    rw (stitch-runs _ _) (runs-found _ _ _ (name-run _ _ _ _ c.args.self.now.flow_ready c.args.w (λ h. rw (← c.args.self.now.knot.same) at (sym c.in-Some.is ∙ c.validate_stitch_name.ensures h))))

pub invariant_of-body : goal.invariant_of-body
invariant_of-body c = record { ready = rw c.stitch_scope-scope.ensures (stitch_ready _ _ _ c.args.self.now.flow_ready _ c.requires) }

pub invariant_of-place : goal.invariant_of-place
invariant_of-place c = record {
  names_covered = rw c.stitch_scope-scope.ensures (rw c.args.self.now.own at c.args.self.now.knot.place.names_covered);
  labels_covered = rw c.stitch_scope-scope.ensures (rw c.args.self.now.own at c.args.self.now.knot.place.labels_covered);
}

pub returns : goal.returns
returns c =
    let name = name-run _ _ _ _ c.args.self.now.flow_ready c.args.w (λ h. rw (← c.args.self.now.knot.same) at (sym c.in_default.is ∙ c.validate_stitch_name.ensures h)) in
    let body = stitch-run _ _ _ _ c.args.self.now.flow_ready c.args.w (rw c.stitch_scope-scope.ensures at c.validate_passes.ensures) in
    rw (stitch-runs _ _) (runs-passed _ _ _ name body)
