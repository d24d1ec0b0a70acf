-- Inner contract. How reading names ends, as the pass answers it.
use Rattle.std.specs.Prelude.{Result, Ok, Err}
use Rattle.fields.specs.declared.Refusal.{Refusal}
use Rattle.records.specs.Trace.{Ending, well, refused}

-- an ending, as the pass answers it
unfoldable pub ended_of : Ending → Result Unit Refusal
ended_of well = (Ok tt)
ended_of (refused r) = Err r
