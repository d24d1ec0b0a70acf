-- `tables::functions::is_function_in` meets its contract: the walk over the name's slots ends at an empty one, at the name, or the flows
-- decide. Assumes nothing.
use native.Mathlib.Omega.{arith}
use Rattle.tables.proofs.Asked.{sought-vacant, sought-found}
use Rattle.tables.proofs.functions.is_function_in.Goals as goal

pub returns-in-Found : goal.returns-in-Found
returns-in-Found c =
    sought-found c.args.source.now.file.now _ c.args.name.now c.requires c.seek_name-found.ensures c.in-Found.is

pub returns-in-Vacant : goal.returns-in-Vacant
returns-in-Vacant c =
    sought-vacant c.args.source.now.file.now _ c.args.name.now c.requires c.seek_name-found.ensures (omega arith) c.in-Vacant.is
