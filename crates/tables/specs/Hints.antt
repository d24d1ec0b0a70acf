-- The hashes of entries of the index, and an answer that is right where it is yes. Assumes nothing.
use Rattle.std.specs.Prelude.{ℕ, ◌≡◌, Bool, true, List, [], ◌∷◌, eqb}
use Rattle.fields.specs.Bytes.{pick}
use Rattle.names.specs.Counted.{name_at}
use Rattle.symbols.specs.Numbers.{absent}
use Rattle.tables.specs.Hashes.{hash_on}
use Rattle.names.specs.Words.{Bytes, any}
use Rattle.symbols.specs.declared.Places.{Places}
use Rattle.symbols.specs.Fits.{answers}

-- the hash goes on over the name at the place and a dot, where there is a name
unfoldable pub dotted_hash : List ℕ → ℕ → ℕ → ℕ
dotted_hash file start at = pick (eqb at absent) start (hash_on (hash_on start (name_at file at)) (46 ∷ []))

-- the hash of the spelling of an entry
unfoldable pub entry_hash : List ℕ → Places → ℕ
entry_hash file p = hash_on (dotted_hash file (dotted_hash file 5381 p.flow) p.stitch) (name_at file p.own)

-- where the answer is yes, some spelling answers the target
pub record Answered (target : Bytes) (spellings : List Bytes) (r : Bool) : Type 0 where
  pub some : r ≡ true → any (answers target) spellings ≡ true
