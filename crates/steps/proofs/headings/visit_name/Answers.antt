-- `steps::headings::visit_name` meets its contract. Assumes nothing.
use Rattle.steps.proofs.Naming.{name-heard}
use Rattle.steps.proofs.headings.visit_name.Goals as goal

pub returns : goal.returns
returns c = name-heard c.rules-rules.ensures (rw c.name_visit-visit.ensures at c.visit_thing.ensures)
