-- Words written as text. Assumes nothing.
use Rattle.std.specs.Prelude.{[], ◌∷◌}
use Prim.Native.Char.{code}
use Prim.Native.String.{String, [] as empty, ◌∷◌ as ◌then◌}
use Rattle.names.specs.Words.{Bytes}

-- the bytes of a text in ASCII
abbrev pub ascii : String → Bytes
ascii empty = []
ascii (c then s) = code c ∷ ascii s
