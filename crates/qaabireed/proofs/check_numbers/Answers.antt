-- `check_numbers`: the numbers of each case of the answer have 32 bits. Assumes nothing.
use native.Mathlib.Omega.{arith}
use Rattle.qaabireed.proofs.Written.{accepted-fits, refusal-fits, breach-fits}
use Rattle.qaabireed.proofs.check_numbers.Goals as goal

pub overflow_cast-result : goal.overflow_cast-result
overflow_cast-result c = omega (arith, accepted-fits c.requires c.in-Ok-Accepted.is (rw c.in-Ok-Accepted.is at c.in-Ok-Accepted.field-0-is))

pub overflow_cast-result-in-Ok-Breached : goal.overflow_cast-result-in-Ok-Breached
overflow_cast-result-in-Ok-Breached c =
    let fits = breach-fits c.requires c.in-Ok-Breached.is (rw c.in-Ok-Breached.is at c.in-Ok-Breached.field-0-is) in omega arith

pub overflow_cast-result-in-Ok-Breached-2 : goal.overflow_cast-result-in-Ok-Breached-2
overflow_cast-result-in-Ok-Breached-2 c =
    let fits = breach-fits c.requires c.in-Ok-Breached.is (rw c.in-Ok-Breached.is at c.in-Ok-Breached.field-0-is) in omega arith

pub overflow_cast-result-in-Ok-Breached-3 : goal.overflow_cast-result-in-Ok-Breached-3
overflow_cast-result-in-Ok-Breached-3 c =
    let fits = breach-fits c.requires c.in-Ok-Breached.is (rw c.in-Ok-Breached.is at c.in-Ok-Breached.field-0-is) in omega arith

pub overflow_cast-result-in-Ok-Breached-4 : goal.overflow_cast-result-in-Ok-Breached-4
overflow_cast-result-in-Ok-Breached-4 c =
    let fits = breach-fits c.requires c.in-Ok-Breached.is (rw c.in-Ok-Breached.is at c.in-Ok-Breached.field-0-is) in omega arith

pub overflow_cast-result-in-Ok-Breached-5 : goal.overflow_cast-result-in-Ok-Breached-5
overflow_cast-result-in-Ok-Breached-5 c =
    let fits = breach-fits c.requires c.in-Ok-Breached.is (rw c.in-Ok-Breached.is at c.in-Ok-Breached.field-0-is) in omega arith

pub overflow_cast-result-in-Err : goal.overflow_cast-result-in-Err
overflow_cast-result-in-Err c =
    omega (arith, refusal-fits c.requires c.in-Err.is, c.number.ensures)
