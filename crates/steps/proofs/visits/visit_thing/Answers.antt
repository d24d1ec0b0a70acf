-- `steps::visits::visit_thing` meets its contract. Assumes nothing.
use Rattle.std.proofs.Common.{drop_of_length-le}
use Rattle.broken.specs.Scopes.{known_in, here_in, before_at}
use Rattle.steps.specs.Heard.{hear_all}
use Rattle.steps.proofs.Next.{drop-next}
use Rattle.steps.proofs.Visited.{like-broken, rules-next, rules-end}
use Rattle.steps.proofs.visits.visit_thing.Goals.{then-is_broken, else-is_broken}
use Rattle.steps.proofs.visits.visit_thing.Goals as goal

pub loop-rule-preserved : goal.loop-rule-preserved
unfolding hear_all
loop-rule-preserved c =
    let file = c.args.story.now.file.now in
    let kept = c.args.story.now.kept.now in
    let at = c.args.v.at in
    λ w l. rules-next (c.loop-rule.invariant w l) (drop-next _ _ _ c.loop-rule-test.true)
    (like-broken (known_in c.args.story.now.view.sections file) (here_in file kept at.site.scope) (before_at file kept at) l _ c.is_broken.ensures)
    (elim c.if-is_broken.branch [ then-is_broken t ↦ rw (t.if-is_broken.true, t.list-is, t.tally-is) t.hear-tally.ensures | else-is_broken e ↦ rw (e.if-is_broken.false, e.list-is, e.tally-is) ])

pub returns : goal.returns
returns c = λ w l. rules-end (c.loop-rule.invariant w l) (drop_of_length-le _ c.loop-rule-test.false)
