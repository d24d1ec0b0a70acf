-- `targets::put_entry` meets its contract. Assumes nothing.
use Rattle.targets.proofs.Filling.{entry-none}
use Rattle.targets.proofs.put_entry.Goals as goal

pub returns-then-is_empty : goal.returns-then-is_empty
returns-then-is_empty c = entry-none c.args.file.now c.args.p c.requires.reachable
