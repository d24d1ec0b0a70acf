-- Names as they stand in a file: a count byte, and then so many bytes. Assumes nothing.
use Rattle.std.specs.Prelude.{List, ℕ, ◌+◌, get_or, take, drop}

-- the name whose count byte stands at the place; where the file ends too early, what is left of it
unfoldable pub name_at : List ℕ → ℕ → List ℕ
name_at file at = take (get_or (drop at file) 0 0) (drop (at + 1) file)
