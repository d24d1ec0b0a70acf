-- `steps::visits::visit_thing` meets its contract. The loop's invariant: what is to be heard is what the rules that are left find. Assumes nothing.
use Rattle.std.proofs.Common.{drop}
use Rattle.records.specs.Items.{What}
use Rattle.broken.specs.Scopes.{broken_at}
use Rattle.steps.specs.Heard.{heard}
use Rattle.steps.specs.Visits.{LikeThing}
use Rattle.steps.proofs.Visited.{RulesLeft}
use Rattle.steps.proofs.visits.visit_thing.Given as goal

abbrev pub invariant-loop-rule : goal.invariant-loop-rule
invariant-loop-rule l =
    (w : What) → LikeThing l.fn.story.file.now l.v.at.thing w
    → RulesLeft (λ r. broken_at l.fn.story.view.sections l.fn.story.file.now l.fn.story.kept.now l.v.at r w) l.v.place l.v.at.site.scope.flow l.v.named l.rules (heard l.v.tally l.initial.list) (heard l.tally l.list) (drop l.rule-index l.rules)
