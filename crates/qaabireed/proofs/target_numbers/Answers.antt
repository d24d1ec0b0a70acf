-- `target_numbers`: the number of an entry has 32 bits. Assumes nothing.
use native.Mathlib.Omega.{arith}
use Rattle.qaabireed.proofs.Written.{exact-fits, ending-fits}
use Rattle.qaabireed.proofs.target_numbers.Goals as goal

pub overflow_cast-result : goal.overflow_cast-result
overflow_cast-result c =
    omega (arith, exact-fits c.args.target c.args.entries c.requires c.in-Exact.is)

pub overflow_cast-result-in-Ending : goal.overflow_cast-result-in-Ending
overflow_cast-result-in-Ending c =
    omega (arith, ending-fits c.args.target c.args.entries c.requires c.in-Ending.is)
