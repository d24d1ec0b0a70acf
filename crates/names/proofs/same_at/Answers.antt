-- `names::same_at` meets its contract, by what its two callees ensure. Assumes nothing.
use Rattle.names.proofs.same_at.Goals as goal

pub returns : goal.returns
returns c = rw (← c.name_at.ensures) c.same_name.ensures
