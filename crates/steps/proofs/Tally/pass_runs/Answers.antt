-- `Tally::pass_runs`: runs that find nothing. Assumes nothing.
use Rattle.steps.proofs.Hearing.{passes_none, passes_on}
use Rattle.steps.proofs.Tally.pass_runs.Goals as goal

pub returns-then-is_full : goal.returns-then-is_full
returns-then-is_full c = passes_none _ c.is_full.ensures c.if-is_full.true _

pub returns : goal.returns
returns c = passes_on _ c.is_full.ensures c.if-is_full.false _ c.later_run.ensures
