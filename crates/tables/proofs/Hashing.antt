-- A hash computed byte by byte: what is left of it. Assumes nothing.
use mathlib.Core.Path.{◌≡◌, refl, sym, ◌∙◌}
use Prim.Native.Nat.{ℕ, ◌+◌, ◌*◌, ◌%◌, ◌≤◌, ◌<◌}
use native.Mathlib.Nat.{mod-lt}
use native.Mathlib.Numerals.{add-one}
use native.Mathlib.Omega.{arith}
use lib.ListN.{length, get_or, drop, drop_of_length-le}
use lib.Seq.{drop-cons}
use Rattle.names.specs.Words.{Bytes}
use Rattle.tables.specs.Hashes.{hash_from, hash_on}

-- the hash of the bytes before i is this
pub record Hashing (start : ℕ) (w : Bytes) (hash i : ℕ) : Type 0 where
  pub small : hash < 1048576
  pub left : hash_on start w ≡ hash_from hash (drop i w)

pub hashing-start : (start : ℕ) (w : Bytes) → Hashing start w (start % 1048576) 0
hashing-start start w = record { small = omega (arith, mod-lt start {m = 1048576} (omega arith)); left = refl }

module _ {start : ℕ} {w : Bytes} {hash i : ℕ} (h : Hashing start w hash i) where
  pub hashing-next : i < length w → Hashing start w ((hash * 33 + get_or w i 0) % 1048576) (i + 1)
  unfolding hash_from
  hashing-next p = record { small = omega arith; left = h.left ∙ rw (drop-cons w i 0 p, add-one) }

  pub hashing-end : length w ≤ i → hash ≡ hash_on start w
  unfolding hash_from
  hashing-end p = sym (h.left ∙ rw (drop_of_length-le w p))
