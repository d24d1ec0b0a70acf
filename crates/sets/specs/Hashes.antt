-- Hashes of words, and what a set uses of them. The proofs on sets hold for any hash. Assumes nothing.
use Rattle.std.specs.Prelude.{ℕ, ◌+◌, ◌-◌, ◌*◌, ◌/◌, ◌%◌, [], ◌∷◌, ltb}
use Rattle.fields.specs.Bytes.{pick}
use Rattle.names.specs.Words.{Bytes}

-- the hash goes on byte by byte
unfoldable pub hash_from : ℕ → Bytes → ℕ
hash_from hash [] = hash
hash_from hash (x ∷ w) = hash_from ((hash + x) * 2654435761 % 4294967296) w

-- the hash of a word
abbrev pub hash_of : Bytes → ℕ
hash_of w = hash_from 2166136261 w

-- the tag of a word: its first byte, which is a class, and the low bits of its hash
unfoldable pub tag_of : Bytes → ℕ
tag_of [] = 0
tag_of (class ∷ w) = class + 4 * (hash_of (class ∷ w) % 512)

-- how many of so many slots are homes: seven of eight, below 2 ^ 32
unfoldable pub homes : ℕ → ℕ
homes slots = pick (ltb (slots - slots / 8) 4294967296) (slots - slots / 8) 4294967295

-- the home of a word among so many slots, by the high bits of its hash
unfoldable pub home_of : ℕ → Bytes → ℕ
home_of slots w = hash_of w * homes slots / 4294967296
