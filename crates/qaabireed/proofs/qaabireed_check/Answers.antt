-- `qaabireed_check` meets its contract: where the buffer is long enough, the check's answer is written as numbers. Assumes nothing.
use native.Mathlib.Omega.{arith}
use Rattle.qaabireed.proofs.Narrow.{checked-narrow}
use Rattle.qaabireed.proofs.Written.{call-refused, call-answered}
use Rattle.qaabireed.proofs.qaabireed_check.Goals as goal

pub returns-then-res-lt7 : goal.returns-then-res-lt7
returns-then-res-lt7 c = call-refused (omega (arith, c.if-res-lt7.true))

pub check_numbers-requires : goal.check_numbers-requires
check_numbers-requires c = checked-narrow (λ i. (c.type_inv.file i).fits) c.check-answer.ensures

pub returns : goal.returns
returns c =
    call-answered c.if-res-lt7.false c.check-answer.ensures (rw c.check_numbers.ensures at c.put.ensures)
