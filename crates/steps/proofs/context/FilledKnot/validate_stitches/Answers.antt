-- `steps::context::FilledKnot::validate_stitches` meets its contract. The loop's invariant: what is to be heard is what the stitches that are left find. Assumes nothing.
use mathlib.Core.Path.{sym, ◌∙◌}
use Rattle.steps.proofs.Runs.{through-end, through-full}
use Rattle.items.proofs.StitchesLeft.{no-stitches, stitches-fewer}
use Rattle.steps.proofs.Stories.{stitching-ready, stitching-onward, stitching-next}
use Rattle.steps.proofs.context.FilledKnot.validate_stitches.Goals as goal

pub returns : goal.returns
returns c = through-end c.loop-w.invariant.through (no-stitches _ _ _ c.loop-w.invariant.readable c.stitch_view.ensures c.in_default.is)

pub returns-then-is_full : goal.returns-then-is_full
returns-then-is_full c = through-full c.loop-w.invariant.through (sym c.is_full.ensures ∙ c.if-is_full.true)

pub validate_stitch-tally-requires : goal.validate_stitch-tally-requires
validate_stitch-tally-requires c = stitching-ready c.args.self.now.ready c.loop-w.invariant c.stitch_view.ensures _ c.in-Some.is

pub index_from-start-requires : goal.index_from-start-requires
index_from-start-requires c = stitching-onward c.args.self.now.ready c.loop-w.invariant c.stitch_view.ensures _ c.in-Some.is

pub loop-w-smaller : goal.loop-w-smaller
loop-w-smaller c = stitches-fewer _ _ _ c.loop-w.invariant.readable c.stitch_view.ensures _ c.in-Some.is

pub loop-w-preserved : goal.loop-w-preserved
loop-w-preserved c = stitching-next c.args.self.now.ready c.loop-w.invariant c.stitch_view.ensures _ c.in-Some.is c.validate_stitch-tally.ensures c.index_from-start.ensures.0
