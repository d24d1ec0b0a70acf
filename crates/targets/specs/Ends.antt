-- The dotted ends of a word: the whole, and what follows each of its dots. Assumes nothing.
use Rattle.std.specs.Prelude.{ℕ, zero, suc, List, [], ◌∷◌, ◌++◌, map, eqb}
use Rattle.fields.specs.Bytes.{pick}
use Rattle.names.specs.Words.{Bytes, only}

-- what follows each dot of the word, in order
unfoldable pub after_dots : Bytes → List Bytes
after_dots [] = []
after_dots (x ∷ w) = only (eqb 46 x) w ++ after_dots w

-- the dotted ends of the word
unfoldable pub dotted_ends : Bytes → List Bytes
dotted_ends w = w ∷ after_dots w

-- what follows so many dots of the word: nothing where it has fewer
unfoldable pub end_at : ℕ → Bytes → Bytes
end_at zero w = w
end_at (suc d) [] = []
end_at (suc d) (x ∷ w) = pick (eqb 46 x) (end_at d w) (end_at (suc d) w)

-- each end, with the rest after it
abbrev pub before : Bytes → List Bytes → List Bytes
before rest ends = map (λ (e : Bytes). e ++ rest) ends
