-- `searches::name_views::counted`: no names past the end, and else as many as the count byte says. Assumes nothing.
use Rattle.story.specs.Flows.{names_n}
use Rattle.searches.proofs.Names.{counted-none, counted-some}
use Rattle.searches.proofs.name_views.counted.Goals as goal

pub returns-then-file-at-clause-names : goal.returns-then-file-at-clause-names
unfolding names_n
returns-then-file-at-clause-names c = counted-none c.args.file.now c.args.at c.if-file-at.true

pub returns-clause-names : goal.returns-clause-names
returns-clause-names c = counted-some c.args.file.now c.args.at
