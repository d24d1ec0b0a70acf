-- Results in numbers, worked out: a breach with two names, an accepted story, refusals, and two answers of a lookup. Assumes nothing.
use mathlib.Core.Path.{◌≡◌, refl}
use mathlib.Core.List.{[], ◌∷◌}
use Rattle.validator.specs.Results.{accepted, breach, refused, checked}
use Rattle.lookups.specs.Results as lookup
use Rattle.qaabireed.specs.Numbers.{result_numbers, lookup_numbers}

two-names : result_numbers (checked (breach 14 13 (5, 18)) 2 52) ≡ 1 ∷ 14 ∷ 13 ∷ 5 ∷ 18 ∷ 2 ∷ 52 ∷ []
unfolding result_numbers
two-names = refl

no-breach : result_numbers (checked accepted 2 0) ≡ 0 ∷ 0 ∷ 4294967295 ∷ 4294967295 ∷ 4294967295 ∷ 2 ∷ 0 ∷ []
unfolding result_numbers
no-breach = refl

short-message : result_numbers (refused 8) ≡ 2 ∷ 8 ∷ 4294967295 ∷ 4294967295 ∷ 4294967295 ∷ 0 ∷ 0 ∷ []
unfolding result_numbers
short-message = refl

exact : lookup_numbers (lookup.answered (lookup.exact 1) 2) ≡ 0 ∷ 3 ∷ 1 ∷ 2 ∷ []
unfolding lookup_numbers
exact = refl

missing : lookup_numbers (lookup.answered lookup.missing 2) ≡ 0 ∷ 5 ∷ 4294967295 ∷ 2 ∷ []
unfolding lookup_numbers
missing = refl

short-index : lookup_numbers (lookup.refused 7) ≡ 2 ∷ 7 ∷ 4294967295 ∷ 0 ∷ []
unfolding lookup_numbers
short-index = refl
