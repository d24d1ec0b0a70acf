-- `lookup_numbers`: the entry count and the number of a refusal have 32 bits. Assumes nothing.
use native.Mathlib.Omega.{arith}
use Rattle.qaabireed.proofs.Written.{lookup-refusal-fits, answered-fits, answered-entries}
use Rattle.qaabireed.proofs.lookup_numbers.Goals as goal

pub overflow_cast-a : goal.overflow_cast-a
overflow_cast-a c = omega (arith, answered-entries c.requires c.in-Ok.is)

pub target_numbers-requires : goal.target_numbers-requires
target_numbers-requires c = answered-fits c.requires c.in-Ok.is

pub overflow_cast-result : goal.overflow_cast-result
overflow_cast-result c =
    omega (arith, lookup-refusal-fits c.requires c.in-Err.is, c.number.ensures)
