-- 01's number and values determine the answer: `determined`. Assumes nothing.
use mathlib.Core.Path.{◌≡◌, refl, sym, ◌∙◌, ap}
use mathlib.Core.List.{List, [], ◌∷◌}
use Prim.Native.Nat.{ℕ}
use lib.ListN.{get_or}
use Rattle.std.proofs.Common.{Ok, Err}
use Rattle.fields.proofs.Refusals.{by_number, refusal-at}
use Rattle.rules.specs.declared.Rule.{Rule}
use Rattle.rules.specs.declared.Rule.TheVariants.{FunctionDivertedTo, TargetNotFound, FlowCalled, NameIsFunction, NameIsGlobal, TempIsParameter, TempIsLabel, ParameterUnmarked, ParameterAlreadyMarked, GatherRepeated, ChoiceUndiverted, FunctionWithStitches, FunctionWithChoice, FunctionWithDivert, VariableForbidden}
use Rattle.rules.specs.Rules.{number}
use Rattle.validator.specs.declared.Verdict.TheVariants.{Accepted, Breached}
use Rattle.validator.specs.declared.CheckRefusal.TheVariants.{Unreadable, ShortIndex, ShortMessage}
use Rattle.validator.specs.Results.{accepted, breach, Result, refused, checked, Answer, result_of}

-- the rules by their numbers
rules : List Rule
rules = FunctionDivertedTo ∷ FunctionDivertedTo ∷ TargetNotFound ∷ FlowCalled ∷ NameIsFunction ∷ NameIsGlobal ∷ TempIsParameter ∷ TempIsLabel ∷ ParameterUnmarked ∷ ParameterAlreadyMarked ∷ GatherRepeated ∷ ChoiceUndiverted ∷ FunctionWithStitches ∷ FunctionWithChoice ∷ FunctionWithDivert ∷ VariableForbidden ∷ []

rule_of : ℕ → Rule
rule_of n = get_or rules n FunctionDivertedTo

-- the answer with a result
answer_of : Result → Answer
answer_of (refused n) = Err (get_or (by_number Unreadable ShortIndex (ShortIndex ∷ ShortMessage ∷ [])) n ShortIndex)
answer_of (checked accepted n k) = Ok (Accepted n)
answer_of (checked (breach rule place names) n k) = Ok (Breached (record { rule = rule_of rule; place = place; first = names.0; second = names.1; entries = n; message = k }))

rule-back : (r : Rule) → rule_of (number r) ≡ r
unfolding rules rule_of
rule-back FunctionDivertedTo = refl
rule-back TargetNotFound = refl
rule-back FlowCalled = refl
rule-back NameIsFunction = refl
rule-back NameIsGlobal = refl
rule-back TempIsParameter = refl
rule-back TempIsLabel = refl
rule-back ParameterUnmarked = refl
rule-back ParameterAlreadyMarked = refl
rule-back GatherRepeated = refl
rule-back ChoiceUndiverted = refl
rule-back FunctionWithStitches = refl
rule-back FunctionWithChoice = refl
rule-back FunctionWithDivert = refl
rule-back VariableForbidden = refl

back : (a : Answer) → answer_of (result_of a) ≡ a
unfolding answer_of by_number result_of
back (Ok (Accepted n)) = refl
back (Ok (Breached b)) = ap (λ (r : Rule). Ok (Breached (record { rule = r; place = b.place; first = b.first; second = b.second; entries = b.entries; message = b.message }))) (rule-back b.rule)
back (Err (Unreadable r)) = ap Err (refusal-at Unreadable ShortIndex (ShortIndex ∷ ShortMessage ∷ []) r)
back (Err ShortIndex) = refl
back (Err ShortMessage) = refl

pub determined : (a b : Answer) → result_of a ≡ result_of b → a ≡ b
determined a b e = sym (back a) ∙ ap answer_of e ∙ back b
