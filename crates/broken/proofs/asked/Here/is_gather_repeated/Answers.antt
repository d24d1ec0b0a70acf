-- `broken::asked::Here::is_gather_repeated` meets its contract. Assumes nothing.
use Rattle.story.specs.Flows.{part}
use Rattle.rules.specs.Rules.{broken}
use Rattle.broken.specs.Scopes.{body_run}
use Rattle.broken.proofs.Among.{gathers-among}
use Rattle.broken.proofs.asked.Here.is_gather_repeated.Goals as goal

pub returns-then-is : goal.returns-then-is
unfolding broken part
returns-then-is c = λ k h w i. rw (i.sort, ← c.is.ensures, c.if-is.true, i.named, ← c.name_at.ensures) (gathers-among c.args.self.now.file.now (body_run c.args.self.now.kept.now c.args.self.now.site.scope) c.name_at.result.now c.args.number c.has.ensures)
