-- `tables::functions::is_function_listed` meets its contract. Assumes nothing.
use Rattle.tables.proofs.Asked.{listed}
use Rattle.tables.proofs.functions.is_function_listed.Goals as goal

pub returns : goal.returns
returns c =
    listed c.args.source.now.file.now c.args.source.now.sections c.args.name.now c.is_function_name.ensures
