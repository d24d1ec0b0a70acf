-- A buffer that is cleared. Assumes nothing.
use Rattle.std.proofs.Common.{◌≡◌, ℕ, List, length, replicate}
use Rattle.records.specs.Buffers.{cleared}

-- 0 in every slot, as `fill` leaves them
pub filled : (before : List ℕ) {after : List ℕ} → after ≡ replicate (length before) 0 → after ≡ cleared before
unfolding cleared
filled before e = e

-- of as many numbers as many 0s are left
pub cleared-alike : (a b : List ℕ) → length a ≡ length b → cleared a ≡ cleared b
unfolding cleared
cleared-alike a b e = rw e
