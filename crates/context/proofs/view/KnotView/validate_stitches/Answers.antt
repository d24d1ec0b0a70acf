-- `validate_stitches`. The loop's invariant: nothing is found before the stitches from the place on, which can be read and are kept. Assumes nothing.
use mathlib.Core.Path.{refl, sym, ◌∙◌}
use Rattle.items.proofs.StitchesLeft.{no-stitches, stitches-after, stitches-fewer}
use Rattle.context.proofs.Places.{stitch-seen-ready, stitches-first, stitches-rest}
use Rattle.context.proofs.Runs.{each_none, each-found, each-passed}
use Rattle.context.proofs.view.KnotView.validate_stitches.Goals as goal

pub loop-w-init : goal.loop-w-init
loop-w-init c =
    record { ready = c.args.self.now.flow_ready.stitches; kept = c.args.self.now.flow_ready.own; quiet = refl }

pub stitch_view-requires : goal.stitch_view-requires
stitch_view-requires c = (c.loop-w.invariant.ready.ordered, c.loop-w.invariant.ready.within)

pub returns : goal.returns
returns c =
    let inv = c.loop-w.invariant in
    rw inv.quiet (each_none _ _ (no-stitches _ _ _ inv.ready c.stitch_view.ensures c.in_default.is))

pub validate_stitch-requires : goal.validate_stitch-requires
validate_stitch-requires c = stitch-seen-ready _ _ _ c.loop-w.invariant.ready c.stitch_view.ensures _ c.in-Some.is

pub returns-in-Some-validate_stitch : goal.returns-in-Some-validate_stitch
returns-in-Some-validate_stitch c =
    let inv = c.loop-w.invariant in
    let first = stitches-first _ _ _ inv.ready c.stitch_view.ensures _ c.in-Some.is inv.kept in
    rw inv.quiet (each-found _ _ first (sym c.in-Some-validate_stitch.is ∙ c.validate_stitch.ensures))

pub loop-w-smaller : goal.loop-w-smaller
loop-w-smaller c = stitches-fewer _ _ _ c.loop-w.invariant.ready c.stitch_view.ensures _ c.in-Some.is

pub loop-w-preserved : goal.loop-w-preserved
loop-w-preserved c =
    let inv = c.loop-w.invariant in
    let told = c.stitch_view.ensures in
    let first = stitches-first _ _ _ inv.ready told _ c.in-Some.is inv.kept in
    record {
      ready = stitches-after _ _ _ inv.ready told _ c.in-Some.is;
      kept = stitches-rest _ _ _ inv.ready told _ c.in-Some.is inv.kept;
      quiet = inv.quiet ∙ each-passed _ _ first (sym c.in_default-validate_stitch.is ∙ c.validate_stitch.ensures);
    }
