-- `read_flows`: pieces that are flows. Assumes nothing.
use Rattle.story.specs.Flows.{flows}
use Rattle.story.proofs.flows.read_flows.Goals as goal

pub returns : goal.returns
unfolding flows
returns c = c.read_pieces.ensures
