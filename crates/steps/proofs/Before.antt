-- Only rule 10 looks at what stands before an item: other steps find the same whatever stands there. Assumes nothing.
use mathlib.Core.Path.{◌≡◌, refl, ap, ◌∙◌}
use Prim.Native.Nat.{ℕ}
use native.Mathlib.Omega.{arith}
use lib.Dec.{T}
use Rattle.names.proofs.Bools.{is_true, and_left, and_right}
use mathlib.Core.Bool.{Bool, true, false, ◌&&◌}
use mathlib.Core.List.{List, [], ◌∷◌, ◌++◌}
use Rattle.names.specs.Words.{only, each}
use Rattle.records.specs.Items.{What, Item}
use Rattle.story.specs.Story.{Story}
use Rattle.rules.specs.declared.Rule.{Rule}
use Rattle.rules.specs.declared.Rule.TheVariants.{FunctionDivertedTo, TargetNotFound, FlowCalled, NameIsFunction, NameIsGlobal, TempIsParameter, TempIsLabel, ParameterUnmarked, ParameterAlreadyMarked, GatherRepeated, ChoiceUndiverted, FunctionWithStitches, FunctionWithChoice, FunctionWithDivert, VariableForbidden}
use Rattle.rules.specs.Rules.{Known, Here, broken, Scope, known, here}
use Rattle.rules.specs.Steps.{Step, bracket, Run, run, Numbered, visits, breach, in_visit}
use Rattle.steps.specs.Heard.{Heard, hear_all, pass, run_now, hear_runs}
use Rattle.steps.proofs.Hearing.{hear-append, all-instance}

-- the rule does not look at what stands before
unfoldable pub looks_ahead : Rule → Bool
looks_ahead FunctionDivertedTo = true
looks_ahead TargetNotFound = true
looks_ahead FlowCalled = true
looks_ahead NameIsFunction = true
looks_ahead NameIsGlobal = true
looks_ahead TempIsParameter = true
looks_ahead TempIsLabel = true
looks_ahead ParameterUnmarked = true
looks_ahead ParameterAlreadyMarked = true
looks_ahead GatherRepeated = false
looks_ahead ChoiceUndiverted = true
looks_ahead FunctionWithStitches = true
looks_ahead FunctionWithChoice = true
looks_ahead FunctionWithDivert = true
looks_ahead VariableForbidden = true

pub broken-before : (k : Known) (h : Here) (a b : List What) (r : Rule) (w : What) → looks_ahead r ≡ true → broken k h a r w ≡ broken k h b r w
unfolding broken looks_ahead
broken-before k h a b FunctionDivertedTo w e = refl
broken-before k h a b TargetNotFound w e = refl
broken-before k h a b FlowCalled w e = refl
broken-before k h a b NameIsFunction w e = refl
broken-before k h a b NameIsGlobal w e = refl
broken-before k h a b TempIsParameter w e = refl
broken-before k h a b TempIsLabel w e = refl
broken-before k h a b ParameterUnmarked w e = refl
broken-before k h a b ParameterAlreadyMarked w e = refl
broken-before k h a b GatherRepeated w e = absurd (let z : ◌≡◌ {A = ℕ} 0 1 = cc in omega arith)
broken-before k h a b ChoiceUndiverted w e = refl
broken-before k h a b FunctionWithStitches w e = refl
broken-before k h a b FunctionWithChoice w e = refl
broken-before k h a b FunctionWithDivert w e = refl
broken-before k h a b VariableForbidden w e = refl

-- all rules of the list are such
unfoldable pub all_ahead : List Rule → Bool
all_ahead [] = true
all_ahead (r ∷ rs) = looks_ahead r && all_ahead rs

module _ (s : Story) (u : Numbered Run) (i : Item) (a b : List What) where
  rules-before : (rs : List Rule) → T (all_ahead rs)
      → each (λ (r : Rule). only (broken (known s) (here s u.it.scope) a r i.what) (breach u (record { item = i; before = a }) r)) rs
      ≡ each (λ (r : Rule). only (broken (known s) (here s u.it.scope) b r i.what) (breach u (record { item = i; before = b }) r)) rs
  unfolding all_ahead
  rules-before [] t = refl
  rules-before (r ∷ rs) t =
      rw (broken-before (known s) (here s u.it.scope) a b r i.what (is_true (looks_ahead r) (and_left (looks_ahead r) (all_ahead rs) t)))
      (ap (λ l. only (broken (known s) (here s u.it.scope) b r i.what) (breach u (record { item = i; before = a }) r) ++ l) (rules-before rs (and_right (looks_ahead r) (all_ahead rs) t)))

-- a step of such rules finds the same at an item whatever stands before
pub visit-before : (s : Story) (u : Numbered Run) (i : Item) (a b : List What) → T (all_ahead (bracket u.it.step))
    → in_visit s u (record { item = i; before = a }) ≡ in_visit s u (record { item = i; before = b })
visit-before s u i a b t = rules-before s u i a b (bracket u.it.step) t

-- and along items
pub visits-before : (s : Story) (u : Numbered Run) (a b : List What) (items : List Item) → T (all_ahead (bracket u.it.step))
    → each (in_visit s u) (visits a items) ≡ each (in_visit s u) (visits b items)
visits-before s u a b [] t = refl
visits-before s u a b (i ∷ items) t =
    rw (visit-before s u i a b t) (ap (λ l. in_visit s u (record { item = i; before = b }) ++ l) (visits-before s u (a ++ (i.what ∷ [])) (b ++ (i.what ∷ [])) items t))

-- a run of such rules over a first item and others: what is heard at the first, then along the others as a run of their own
pub run-after : (s : Story) (h : Heard) (scope : Scope) (step : Step) (i : Item) (items : List Item) → T (all_ahead (bracket step))
    → hear_runs s h (run scope (i ∷ items) step ∷ [])
    ≡ hear_runs s (hear_all h (in_visit s (run_now h (run scope (i ∷ items) step)) (record { item = i; before = [] }))) (run scope items step ∷ [])
unfolding hear_runs
run-after s h scope step i items t =
    let u = run_now h (run scope (i ∷ items) step) in
    let first = in_visit s u (record { item = i; before = [] }) in
    ap (pass 1)
    (hear-append h first (each (in_visit s u) (visits (i.what ∷ []) items))
    ∙ rw (visits-before s u (i.what ∷ []) [] items t, all-instance h first))
