-- The bytes of a record in a file.
use Rattle.std.specs.Prelude.{◌≡◌, ℕ, ◌+◌, List, length, take, drop}
use Rattle.fields.specs.Bytes.{Head, head_of}

-- at the place stands a head with the kind and the payload's length, and the payload behind it
pub record Stands (file : List ℕ) (place kind : ℕ) (payload : List ℕ) : Type 0 where
  pub head : head_of (drop place file) ≡ Head.Piece kind (length payload)
  pub behind : take (length payload) (drop (place + 5) file) ≡ payload
