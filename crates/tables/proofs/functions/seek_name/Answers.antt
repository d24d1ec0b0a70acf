-- `tables::functions::seek_name` meets its contract. Assumes nothing.
use Rattle.tables.proofs.Ending.{ends-named}
use Rattle.tables.proofs.functions.seek_name.Goals as goal

pub returns : goal.returns
returns c = rw (← c.hash_of.ensures) (ends-named c.args.file.now c.args.table.now c.args.name.now 8 _ c.seek.result c.seek.ensures.ends)
