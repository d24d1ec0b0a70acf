-- The words that the rules name. Assumes nothing.
use Rattle.std.specs.Prelude.{List, [], ◌∷◌}
use Rattle.names.specs.Words.{Bytes}
use Rattle.names.specs.Text.{ascii}

-- END
abbrev pub END : Bytes
END = 69 ∷ 78 ∷ 68 ∷ []

-- DONE
abbrev pub DONE : Bytes
DONE = 68 ∷ 79 ∷ 78 ∷ 69 ∷ []

-- ->
abbrev pub arrow : Bytes
arrow = 45 ∷ 62 ∷ []

-- ->->
abbrev pub back : Bytes
back = 45 ∷ 62 ∷ 45 ∷ 62 ∷ []

-- the 21 words of is_builtin_function, in its order
unfoldable pub builtins : List Bytes
builtins =
    ascii "RANDOM"
    ∷ ascii "SEED_RANDOM"
    ∷ ascii "POW"
    ∷ ascii "FLOOR"
    ∷ ascii "CEILING"
    ∷ ascii "INT"
    ∷ ascii "FLOAT"
    ∷ ascii "MIN"
    ∷ ascii "MAX"
    ∷ ascii "READ_COUNT"
    ∷ ascii "TURNS_SINCE"
    ∷ ascii "CHOICE_COUNT"
    ∷ ascii "TURNS"
    ∷ ascii "LIST_VALUE"
    ∷ ascii "LIST_ALL"
    ∷ ascii "LIST_INVERT"
    ∷ ascii "LIST_COUNT"
    ∷ ascii "LIST_MIN"
    ∷ ascii "LIST_MAX"
    ∷ ascii "LIST_RANGE"
    ∷ ascii "LIST_RANDOM"
    ∷ []
