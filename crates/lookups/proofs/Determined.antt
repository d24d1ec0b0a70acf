-- 01's number and values determine the answer of a lookup: `determined`. Assumes nothing.
use mathlib.Core.Path.{◌≡◌, refl, sym, ◌∙◌, ap}
use mathlib.Core.List.{[], ◌∷◌}
use lib.ListN.{get_or}
use Rattle.std.proofs.Common.{Ok, Err}
use Rattle.fields.proofs.Refusals.{by_number, refusal-at}
use Rattle.lookups.specs.declared.Target.{Target}
use Rattle.lookups.specs.declared.Target.TheVariants as target
use Rattle.lookups.specs.declared.LookupRefusal.TheVariants.{Unreadable, ShortIndex}
use Rattle.lookups.specs.Results.{Answer, pass, function, reserved, exact, ending, missing, Result, refused, answered, LookupAnswer, answer_of, result_of}

-- the target with an answer
target_with : Answer → Target
target_with pass = target.Pass
target_with function = target.Function
target_with reserved = target.Reserved
target_with (exact k) = target.Exact k
target_with (ending k) = target.Ending k
target_with missing = target.Missing

-- the answer with a result
answer_with : Result → LookupAnswer
answer_with (refused n) = Err (get_or (by_number Unreadable ShortIndex (ShortIndex ∷ [])) n ShortIndex)
answer_with (answered a n) = Ok (record { target = target_with a; entries = n })

target-back : (t : Target) → target_with (answer_of t) ≡ t
unfolding target_with answer_of
target-back target.Pass = refl
target-back target.Function = refl
target-back target.Reserved = refl
target-back (target.Exact k) = refl
target-back (target.Ending k) = refl
target-back target.Missing = refl

back : (r : LookupAnswer) → answer_with (result_of r) ≡ r
unfolding answer_with by_number result_of
back (Err (Unreadable r)) = ap Err (refusal-at Unreadable ShortIndex (ShortIndex ∷ []) r)
back (Err ShortIndex) = refl
back (Ok a) = ap (λ (t : Target). Ok (record { target = t; entries = a.entries })) (target-back a.target)

pub determined : (a b : LookupAnswer) → result_of a ≡ result_of b → a ≡ b
determined a b e = sym (back a) ∙ ap answer_with e ∙ back b
