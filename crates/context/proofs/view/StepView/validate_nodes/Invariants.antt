-- `validate_nodes`. The loop's invariant: nothing is found before item i. Assumes nothing.
use Rattle.items.specs.Bodies.{kept_in}
use Rattle.checks.specs.Context.{known_in, here_at}
use Rattle.context.specs.Found.{rules_of}
use Rattle.context.proofs.Walks.{Clean}
use Rattle.context.proofs.view.StepView.validate_nodes.Given as goal

abbrev pub invariant-loop-i : goal.invariant-loop-i
invariant-loop-i l = Clean (known_in l.self.index.story.source.sections l.self.place.body.file.now) (here_at l.self.place.body.file.now l.self.place.body.kept.numbers.now l.self.place.body.scope) l.self.place.body.scope.flow (rules_of l.pass) (kept_in l.self.place.body.file.now l.self.place.body.kept.numbers.now l.self.place.body.scope.from l.self.place.body.scope.to) l.i
