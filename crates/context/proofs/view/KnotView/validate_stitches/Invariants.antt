-- `validate_stitches`. The loop's invariant: nothing is found before the stitches from the place on, which can be read and are kept. Assumes nothing.
use mathlib.Core.Path.{◌≡◌}
use Prim.Native.Nat.{◌-◌}
use Rattle.names.specs.Words.{each}
use Rattle.items.specs.Bodies.{kept_story, kept_stitches, kept_flow, StitchesKept}
use Rattle.items.specs.Stitches.{StitchesReady}
use Rattle.rules.specs.Steps.{stitch_runs}
use Rattle.context.specs.Found.{found_runs}
use Rattle.context.proofs.view.KnotView.validate_stitches.Given as goal

abbrev pub invariant-loop-w : goal.invariant-loop-w
invariant-loop-w l = record {
  ready : StitchesReady l.self.knot.place.body.file.now l.at l.self.flow.end;
  kept : StitchesKept l.self.knot.place.body.file.now l.self.knot.place.body.kept.numbers.now l.at l.self.flow.end;
  quiet : found_runs (kept_story l.self.knot.index.story.source.sections l.self.knot.place.body.file.now) (each (stitch_runs (kept_flow l.self.knot.place.body.file.now l.self.knot.place.body.kept.numbers.now l.self.flow)) (kept_flow l.self.knot.place.body.file.now l.self.knot.place.body.kept.numbers.now l.self.flow).stitches) ≡ found_runs (kept_story l.self.knot.index.story.source.sections l.self.knot.place.body.file.now) (each (stitch_runs (kept_flow l.self.knot.place.body.file.now l.self.knot.place.body.kept.numbers.now l.self.flow)) (kept_stitches l.self.knot.place.body.file.now l.at l.self.flow.end));
}

abbrev pub decreases-loop-w : goal.decreases-loop-w
decreases-loop-w l = l.self.flow.end - l.at
