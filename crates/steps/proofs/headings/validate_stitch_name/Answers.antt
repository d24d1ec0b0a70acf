-- `steps::headings::validate_stitch_name` meets its contract. Assumes nothing.
use Rattle.steps.proofs.Naming.{stitch-name}
use Rattle.steps.proofs.headings.validate_stitch_name.Goals as goal

pub returns : goal.returns
returns c = λ s q. stitch-name c.args.h c.visit_name.ensures c.next_run.ensures s q
