-- Hashes of words. Assumes nothing.
use Rattle.std.specs.Prelude.{ℕ, ◌+◌, ◌*◌, ◌%◌, [], ◌∷◌}
use Rattle.names.specs.Words.{Bytes}

-- the hash goes on byte by byte
unfoldable pub hash_from : ℕ → Bytes → ℕ
hash_from hash [] = hash
hash_from hash (x ∷ w) = hash_from ((hash * 33 + x) % 1048576) w

-- the hash of the word after this start
abbrev pub hash_on : ℕ → Bytes → ℕ
hash_on start w = hash_from (start % 1048576) w

-- the hash of a word
abbrev pub hash_of : Bytes → ℕ
hash_of w = hash_on 5381 w
