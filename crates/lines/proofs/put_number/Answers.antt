-- `put_number`: the library's text of the number is its digits. Assumes nothing.
use native.Mathlib.Omega.{arith}
use Rattle.lines.proofs.Digits.{digits-written}
use Rattle.lines.proofs.put_number.Goals as goal

pub returns-clause-wrote : goal.returns-clause-wrote
returns-clause-wrote c =
    rw (c.as_bytes.ensures.value, c.format-digits.ensures.text, ← digits-written c.args.n (omega (arith, c.ranges.n.fits))) at c.put.ensures.wrote
