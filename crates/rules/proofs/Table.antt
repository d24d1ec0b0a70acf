-- The rules of each step are those that 01 brackets: `bracket-numbers`; and in each step their numbers rise: `brackets`. Assumes nothing.
use mathlib.Core.Path.{◌≡◌, refl, sym, ◌∙◌, ap, subst}
use mathlib.Core.List.Memᴰ
use mathlib.Core.List.{List, [], ◌∷◌, map}
use mathlib.Core.Logic.{⊎_elim}
use Prim.Native.Nat.{ℕ, ◌<◌}
use lib.Dec.{T, ltb, lit<}
use lib.ListN.{get_or}
use Rattle.names.specs.Words.{◌∈◌, Sorted}
use Rattle.rules.specs.declared.Rule.{Rule}
use Rattle.rules.specs.declared.Rule.TheVariants.{FunctionDivertedTo, TargetNotFound, FlowCalled, NameIsFunction, NameIsGlobal, TempIsParameter, TempIsLabel, ParameterUnmarked, ParameterAlreadyMarked, GatherRepeated, ChoiceUndiverted, FunctionWithStitches, FunctionWithChoice, FunctionWithDivert, VariableForbidden}
use Rattle.rules.specs.Rules.{number}
use Rattle.rules.specs.Steps.{Step, s1, s2, s3, s4, s5, s6, s7, s8, s9, s10, s11, s12, s13, s14, s15, s16, s17, s18, s19, s20, bracket}
use Rattle.rules.specs.Meaning.{bracketed}

pub bracket-numbers : (st : Step) → map number (bracket st) ≡ bracketed st
bracket-numbers s1 = refl
bracket-numbers s2 = refl
bracket-numbers s3 = refl
bracket-numbers s4 = refl
bracket-numbers s5 = refl
bracket-numbers s6 = refl
bracket-numbers s7 = refl
bracket-numbers s8 = refl
bracket-numbers s9 = refl
bracket-numbers s10 = refl
bracket-numbers s11 = refl
bracket-numbers s12 = refl
bracket-numbers s13 = refl
bracket-numbers s14 = refl
bracket-numbers s15 = refl
bracket-numbers s16 = refl
bracket-numbers s17 = refl
bracket-numbers s18 = refl
bracket-numbers s19 = refl
bracket-numbers s20 = refl

-- a rule is known by its number
rules : List Rule
rules = FunctionDivertedTo ∷ FunctionDivertedTo ∷ TargetNotFound ∷ FlowCalled ∷ NameIsFunction ∷ NameIsGlobal ∷ TempIsParameter ∷ TempIsLabel ∷ ParameterUnmarked ∷ ParameterAlreadyMarked ∷ GatherRepeated ∷ ChoiceUndiverted ∷ FunctionWithStitches ∷ FunctionWithChoice ∷ FunctionWithDivert ∷ VariableForbidden ∷ []

by_number : (r : Rule) → get_or rules (number r) FunctionDivertedTo ≡ r
unfolding rules
by_number FunctionDivertedTo = refl
by_number TargetNotFound = refl
by_number FlowCalled = refl
by_number NameIsFunction = refl
by_number NameIsGlobal = refl
by_number TempIsParameter = refl
by_number TempIsLabel = refl
by_number ParameterUnmarked = refl
by_number ParameterAlreadyMarked = refl
by_number GatherRepeated = refl
by_number ChoiceUndiverted = refl
by_number FunctionWithStitches = refl
by_number FunctionWithChoice = refl
by_number FunctionWithDivert = refl
by_number VariableForbidden = refl

pub one-rule : (q r : Rule) → number q ≡ number r → q ≡ r
one-rule q r e = sym (by_number q) ∙ ap (λ (n : ℕ). get_or rules n FunctionDivertedTo) e ∙ by_number r

-- the step has the rule exactly where its number is bracketed
pub rule-in-step : (st : Step) (r : Rule) → number r ∈ bracketed st → r ∈ bracket st
rule-in-step st r m =
    let q = Memᴰ.of_map number (bracket st) (subst (λ (l : List ℕ). number r ∈ l) (sym (bracket-numbers st)) m) in
    Memᴰ.cast (one-rule r q.0 (sym q.2)) q.1

pub rules-of-step : (st : Step) (r : Rule) → r ∈ bracket st → number r ∈ bracketed st
rules-of-step st r m = subst (λ (l : List ℕ). number r ∈ l) (bracket-numbers st) (Memᴰ.map number m)

-- one, two or three numbers that rise
one : (a : ℕ) → Sorted ◌<◌ (a ∷ [])
one a = (λ y m. absurd (Memᴰ.not-nil m), tt)

two : (a b : ℕ) → T (ltb a b) → Sorted ◌<◌ (a ∷ b ∷ [])
two a b h = (λ y m. subst (λ (y : ℕ). a < y) (sym (Memᴰ.eq_of_singleton m)) (lit< h), one b)

three : (a b c : ℕ) → T (ltb a b) → T (ltb a c) → T (ltb b c) → Sorted ◌<◌ (a ∷ b ∷ c ∷ [])
three a b c h i j = (λ y m. ⊎_elim (λ e. subst (λ (y : ℕ). a < y) (sym e) (lit< h)) (λ n. (two a c i).0 y n) (Memᴰ.cases_cons m), two b c j)

rising : (st : Step) → Sorted ◌<◌ (bracketed st)
rising s1 = two _ _ tt
rising s2 = two _ _ tt
rising s3 = one _
rising s4 = one _
rising s5 = three _ _ _ tt tt tt
rising s6 = two _ _ tt
rising s7 = three _ _ _ tt tt tt
rising s8 = two _ _ tt
rising s9 = one _
rising s10 = one _
rising s11 = two _ _ tt
rising s12 = one _
rising s13 = three _ _ _ tt tt tt
rising s14 = two _ _ tt
rising s15 = one _
rising s16 = two _ _ tt
rising s17 = one _
rising s18 = one _
rising s19 = one _
rising s20 = one _

sorted-map : {A B : Type 0} (R : B → B → Type 0) (f : A → B) (l : List A) → Sorted R (map f l) → Sorted (λ a b. R (f a) (f b)) l
sorted-map R f [] q = tt
sorted-map R f (x ∷ xs) q = (λ y m. q.0 (f y) (Memᴰ.map f m), sorted-map R f xs q.1)

pub brackets : (st : Step) → Sorted (λ (q r : Rule). number q < number r) (bracket st)
brackets st = sorted-map ◌<◌ number (bracket st) (subst (Sorted ◌<◌) (sym (bracket-numbers st)) (rising st))
