-- The numbers of a check's and of a lookup's result, as callers read them. Assumes nothing.
use Rattle.std.specs.Prelude.{ℕ, ◌<◌, ◌^◌, List, [], ◌∷◌}
use Rattle.symbols.specs.Numbers.{absent}
use Rattle.lookups.specs.Results as lookup
use Rattle.validator.specs.Results.{Judged, accepted, breach, Result, refused, checked}

-- outcome (0 accepted, 1 breach, 2 refused), number, place, first name, second name, entries, message length
abbrev pub judged_numbers : Judged → ℕ → ℕ → List ℕ
judged_numbers accepted entries size = 0 ∷ 0 ∷ absent ∷ absent ∷ absent ∷ entries ∷ size ∷ []
judged_numbers (breach rule place names) entries size = 1 ∷ rule ∷ place ∷ names.0 ∷ names.1 ∷ entries ∷ size ∷ []

-- the same of a refusal
abbrev pub refused_numbers : ℕ → List ℕ
refused_numbers n = 2 ∷ n ∷ absent ∷ absent ∷ absent ∷ 0 ∷ 0 ∷ []

-- THE NUMBERS of a check's result
unfoldable pub result_numbers : Result → List ℕ
result_numbers (refused n) = refused_numbers n
result_numbers (checked j entries size) = judged_numbers j entries size

-- outcome (0 answered, 2 refused), number, entry, entries
abbrev pub answer_numbers : lookup.Answer → ℕ → List ℕ
answer_numbers lookup.pass entries = 0 ∷ 0 ∷ absent ∷ entries ∷ []
answer_numbers lookup.function entries = 0 ∷ 1 ∷ absent ∷ entries ∷ []
answer_numbers lookup.reserved entries = 0 ∷ 2 ∷ absent ∷ entries ∷ []
answer_numbers (lookup.exact k) entries = 0 ∷ 3 ∷ k ∷ entries ∷ []
answer_numbers (lookup.ending k) entries = 0 ∷ 4 ∷ k ∷ entries ∷ []
answer_numbers lookup.missing entries = 0 ∷ 5 ∷ absent ∷ entries ∷ []

-- THE NUMBERS of a lookup's result
unfoldable pub lookup_numbers : lookup.Result → List ℕ
lookup_numbers (lookup.refused n) = 2 ∷ n ∷ absent ∷ 0 ∷ []
lookup_numbers (lookup.answered a entries) = answer_numbers a entries

-- each number has 32 bits
abbrev pub Narrow : List ℕ → Type 0
Narrow [] = Unit {0}
Narrow (n ∷ l) = (n < 2 ^ 32) × Narrow l
