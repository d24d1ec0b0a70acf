-- `find_in_passes`. The loop's invariant: nothing is found before the pass at hand. Assumes nothing.
use Rattle.items.specs.Bodies.{kept_in}
use Rattle.checks.specs.Context.{known_in, here_at}
use Rattle.context.proofs.Walks.{Quiet}
use Rattle.context.proofs.view.StepView.find_in_passes.Given as goal

abbrev pub invariant-loop-pass : goal.invariant-loop-pass
invariant-loop-pass l = Quiet (known_in l.self.index.story.source.sections l.self.place.body.file.now) (here_at l.self.place.body.file.now l.self.place.body.kept.numbers.now l.self.place.body.scope) l.self.place.body.scope.flow (kept_in l.self.place.body.file.now l.self.place.body.kept.numbers.now l.self.place.body.scope.from l.self.place.body.scope.to) l.passes l.pass-index
