-- `later_run`: the number of a later run. Assumes nothing.
use Rattle.steps.proofs.Hearing.{onward-least}
use Rattle.steps.proofs.later_run.Goals as goal

pub returns : goal.returns
returns c = rw (c.min.ensures, c.saturating_sub.ensures) (onward-least _ _)
