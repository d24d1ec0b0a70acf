-- Which of some rules is broken first at what is visited, and by which tests it is found. Assumes nothing.
use Rattle.std.specs.Prelude.{Bool, List, [], ◌∷◌, Option, Some, None}
use Rattle.fields.specs.Bytes.{pick}
use Rattle.names.specs.Words.{Bytes}
use Rattle.names.specs.Targets.{passes}
use Rattle.records.specs.Items.{What}
use Rattle.rules.specs.declared.Rule.{Rule}
use Rattle.rules.specs.declared.Rule.TheVariants.{FunctionDivertedTo, TargetNotFound, FlowCalled, NameIsFunction, NameIsGlobal, TempIsParameter, TempIsLabel, ParameterUnmarked, ParameterAlreadyMarked}
use Rattle.rules.specs.Rules.{Known, Here, call_passes, broken}

-- the first rule of a list that is broken
unfoldable pub first_broken : (Rule → Bool) → List Rule → Option Rule
first_broken f [] = None
first_broken f (r ∷ rs) = pick (f r) (Some r) (first_broken f rs)

-- the first of the rules that is broken by w, where `before` are the items earlier in the same body
unfoldable pub judged_by : Known → Here → List Rule → List What → What → Option Rule
judged_by k h rules before w = first_broken (λ (r : Rule). broken k h before r w) rules

-- a target: rules 1 and 2
abbrev pub target_judged : Known → Bytes → Option Rule
target_judged k n = pick (passes n) None (pick (k.function n) (Some FunctionDivertedTo) (pick (k.target n) None (Some TargetNotFound)))

-- a call name: rule 3
abbrev pub call_judged : Known → Bytes → Option Rule
call_judged k n = pick (call_passes k n) None (pick (k.flow n) (Some FlowCalled) None)

-- a temp's name: rules 4, 6 and 7
abbrev pub temp_judged : Known → Here → Bytes → Option Rule
temp_judged k h n =
    pick (k.function n) (Some NameIsFunction) (pick (h.param n) (Some TempIsParameter) (pick (h.label n) (Some TempIsLabel) None))

-- a parameter's name: rules 4 and 5
abbrev pub param_judged : Known → Bytes → Option Rule
param_judged k n = pick (k.function n) (Some NameIsFunction) (pick (k.global n) (Some NameIsGlobal) None)

-- a stitch's name: rule 5
abbrev pub stitch_judged : Known → Bytes → Option Rule
stitch_judged k n = pick (k.global n) (Some NameIsGlobal) None

-- a target that may be a parameter: rule 8
abbrev pub variable_divert_judged : Here → Bytes → Option Rule
variable_divert_judged h n = pick (h.param n) (pick (h.mark n) None (Some ParameterUnmarked)) None

-- an argument that may be a divert parameter: rule 9
abbrev pub argument_judged : Here → Bytes → Option Rule
argument_judged h n = pick (h.mark n) (Some ParameterAlreadyMarked) None
