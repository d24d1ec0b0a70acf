-- `is_body_clear`. The loop's invariant: nothing is broken before item i, and the filter has the gathers before it. Assumes nothing.
use Rattle.items.specs.Bodies.{kept_in}
use Rattle.checks.specs.Context.{known_in, here_at}
use Rattle.filters.specs.Names.{Gathered}
use Rattle.context.proofs.Clear.{Unbroken}
use Rattle.context.proofs.view.StepView.is_body_clear.Given as goal

abbrev pub invariant-loop-i : goal.invariant-loop-i
invariant-loop-i l = record {
  unbroken : Unbroken (known_in l.self.index.story.source.sections l.self.place.body.file.now) (here_at l.self.place.body.file.now l.self.place.body.kept.numbers.now l.self.place.body.scope) l.passes (kept_in l.self.place.body.file.now l.self.place.body.kept.numbers.now l.self.place.body.scope.from l.self.place.body.scope.to) l.i;
  gathered : Gathered l.self.place.body.file.now l.self.place.body.kept.numbers.now l.self.place.body.scope.from l.self.place.body.scope.to l.i l.gathers;
}
