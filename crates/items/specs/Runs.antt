-- Inner contract. How many of some numbers have a place before another, and those after them. Assumes nothing.
use Rattle.std.specs.Prelude.{ℕ, suc, List, [], ◌∷◌, ltb, drop}
use Rattle.fields.specs.Bytes.{pick}
use Rattle.records.specs.Numbers.{place_in}

-- how many of the numbers have a place before this one
unfoldable pub number_before : ℕ → List ℕ → ℕ
number_before place [] = 0
number_before place (x ∷ xs) = pick (ltb (place_in x) place) (suc (number_before place xs)) (number_before place xs)

-- the numbers from a place on, where places rise
abbrev pub numbers_from : ℕ → List ℕ → List ℕ
numbers_from place xs = drop (number_before place xs) xs
