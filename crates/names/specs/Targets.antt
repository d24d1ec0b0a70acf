-- Which targets pass without being looked up. Assumes nothing.
use Rattle.std.specs.Prelude.{Bool, ◌||◌, []}
use Rattle.names.specs.Words.{Bytes, same, begins}
use Rattle.names.specs.Reserved.{arrow}

-- a target that passes: empty, "->", or starting with "$"
abbrev pub passes : Bytes → Bool
passes t = same [] t || same arrow t || begins 36 t
