-- `tables::hashes::hash_on` meets its contract. The loop's invariant: what is left of the word goes on from the hash. Assumes nothing.
use Rattle.tables.proofs.Hashing.{Hashing}
use Rattle.tables.proofs.hashes.hash_on.Given as goal

abbrev pub invariant-loop-byte : goal.invariant-loop-byte
invariant-loop-byte l = Hashing l.start l.word l.hash l.byte-index
