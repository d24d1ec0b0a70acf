-- What a builder holds, and what putting bytes does to it.
use Rattle.std.specs.Prelude.{◌≡◌, ℕ, ◌+◌, ◌-◌, ◌*◌, ◌%◌, zero, suc, List, ◌∷◌, ◌++◌, length, take, drop, ◌≤◌}
use Rattle.std.specs.Int.{to_le_bytes, w64}

-- the bytes put so far, and how many more there is room for
pub record Building : Type 0 where
  pub bytes : List ℕ
  pub room : ℕ

-- the bytes s stand behind those that were put before, as far as there was room
pub record Puts (old : Building) (s : List ℕ) (new : Building) : Type 0 where
  pub bytes : new.bytes ≡ old.bytes ++ take old.room s
  pub room : new.room ≡ old.room - length s

-- a number below 2^32 in four bytes, little-endian
unfoldable pub number : ℕ → List ℕ
number n = take 4 (to_le_bytes w64 n)

-- the number at a place now says how many bytes follow it, where it is there whole; the other bytes stay
pub record Measures (place : ℕ) (old new : Building) : Type 0 where
  pub before : take place new.bytes ≡ take place old.bytes
  pub length_is : place + 4 ≤ length old.bytes → take (place + 4) new.bytes ≡ take place old.bytes ++ number (length old.bytes - place - 4)
  pub after : drop (place + 4) new.bytes ≡ drop (place + 4) old.bytes
  pub size : length new.bytes ≡ length old.bytes
  pub room : new.room ≡ old.room

-- a name: its count byte and its bytes
abbrev pub name : List ℕ → List ℕ
name s = (length s % 256) ∷ s

-- so many Negates, each with all that follows as its payload, and a constant
unfoldable pub negations : ℕ → List ℕ
negations zero = 0 ∷ number 0
negations (suc n) = 3 ∷ number (5 * suc n) ++ negations n
