-- `items::runs::probe` meets its contract. Assumes nothing.
use native.Mathlib.Omega.{arith}
use Rattle.items.proofs.runs.probe.Goals as goal

pub returns-then-low-half : goal.returns-then-low-half
returns-then-low-half c = (omega arith, omega arith)

pub returns : goal.returns
returns c = (omega arith, omega arith)
