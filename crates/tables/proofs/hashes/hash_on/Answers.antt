-- `tables::hashes::hash_on` meets its contract. Assumes nothing.
use native.Mathlib.Omega.{arith}
use Rattle.tables.proofs.Hashing.{hashing-next, hashing-end}
use Rattle.tables.proofs.hashes.hash_on.Goals as goal

pub loop-byte-preserved : goal.loop-byte-preserved
loop-byte-preserved c = hashing-next c.loop-byte.invariant (omega arith)

pub returns : goal.returns
returns c = hashing-end c.loop-byte.invariant (omega arith)
