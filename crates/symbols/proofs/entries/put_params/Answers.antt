-- `symbols::entries::put_params` meets its contract: the names that the count byte counts are those that are left. Assumes nothing.
use Rattle.symbols.proofs.entries.put_params.Goals as goal

pub put_names-requires : goal.put_names-requires
put_names-requires g c = record { short = rw c.counted.ensures.same_file c.requires.short; ready = rw c.counted.ensures.names c.requires.ready }

pub returns : goal.returns
returns g c = rw (← c.counted.ensures.names) c.put_names.ensures
