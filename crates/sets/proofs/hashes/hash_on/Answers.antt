-- `sets::hashes::hash_on` meets its contract. The loop's invariant: what is left of the word goes on from the hash. Assumes nothing.
use native.Mathlib.Omega.{arith}
use Rattle.sets.proofs.Hashing.{hashing-next, hashing-end}
use Rattle.sets.proofs.hashes.hash_on.Goals as goal

pub loop-byte-preserved : goal.loop-byte-preserved
loop-byte-preserved c = hashing-next c.loop-byte.invariant (omega arith)

pub returns : goal.returns
returns c = hashing-end c.loop-byte.invariant (omega arith)
