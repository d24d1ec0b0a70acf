-- Inner contract. One look at a body, in front of its runs: the rules that it tests, at each sort of thing those that can be broken there,
-- and what it answers. Assumes nothing.
use Rattle.story.specs.declared.Sections.{Sections}
use Rattle.std.specs.Prelude.{ℕ, ◌≡◌, Bool, true, false, List, [], ◌∷◌, ◌++◌}
use Rattle.fields.specs.Bytes.{pick}
use Rattle.names.specs.Words.{any}
use Rattle.records.specs.declared.sorts.Sort.{Sort as Kind}
use Rattle.records.specs.declared.sorts.Sort.TheVariants.{Plain as plain, Temp as temp, Divert as divert, Tunnel as tunnel, Thread as thread, Call as call, Variable as variable, Argument as argument, Choice as choice, Gather as gather, Parameter as parameter, StitchName as stitch_name, FlowStart as flow_start}
use Rattle.records.specs.Items.{What, same_kind}
use Rattle.rules.specs.declared.Rule.{Rule}
use Rattle.rules.specs.declared.Rule.TheVariants.{FunctionDivertedTo, TargetNotFound, FlowCalled, NameIsFunction, NameIsGlobal, TempIsParameter, TempIsLabel, ParameterUnmarked, ParameterAlreadyMarked, GatherRepeated, ChoiceUndiverted, FunctionWithStitches, FunctionWithChoice, FunctionWithDivert, VariableForbidden}
use Rattle.broken.specs.declared.At.{At}
use Rattle.broken.specs.Things.{ThingIs}
use Rattle.broken.specs.Scopes.{known_in, here_in, before_at}
use Rattle.steps.specs.Clear.{clear_of}

-- 1. THE RULES OF A LOOK

-- the rules on temps: 4, 6, 7, the cheapest first
abbrev pub temp_rules : List Rule
temp_rules = TempIsParameter ∷ NameIsFunction ∷ TempIsLabel ∷ []

-- the rules on targets: 1, 2, 8
abbrev pub target_rules : List Rule
target_rules = ParameterUnmarked ∷ FunctionDivertedTo ∷ TargetNotFound ∷ []

-- the rules of every look: 1, 2, 3, 4, 6, 7, 8, 9, 10
abbrev pub body_rules : List Rule
body_rules = temp_rules ++ (target_rules ++ (FlowCalled ∷ ParameterAlreadyMarked ∷ GatherRepeated ∷ []))

-- those of the place: in a stitch 15, elsewhere 11
abbrev pub place_rules : Bool → List Rule
place_rules true = VariableForbidden ∷ []
place_rules false = ChoiceUndiverted ∷ []

-- those of a function's own list: 13 and 14
abbrev pub pure_rules : Bool → List Rule
pure_rules true = FunctionWithChoice ∷ FunctionWithDivert ∷ []
pure_rules false = []

-- THE RULES that a look at a body tests: `inner` for a stitch's, `function` for the own list of a function
unfoldable pub look_rules : Bool → Bool → List Rule
look_rules inner function = pure_rules function ++ (place_rules inner ++ body_rules)

-- 2. THE RULES BY SORT

-- the sorts of things at which a rule can be broken
abbrev pub sorts_of : Rule → List Kind
sorts_of FunctionDivertedTo = divert ∷ tunnel ∷ thread ∷ []
sorts_of TargetNotFound = divert ∷ tunnel ∷ thread ∷ []
sorts_of FlowCalled = call ∷ []
sorts_of NameIsFunction = temp ∷ parameter ∷ []
sorts_of NameIsGlobal = parameter ∷ stitch_name ∷ []
sorts_of TempIsParameter = temp ∷ []
sorts_of TempIsLabel = temp ∷ []
sorts_of ParameterUnmarked = divert ∷ tunnel ∷ thread ∷ []
sorts_of ParameterAlreadyMarked = argument ∷ []
sorts_of GatherRepeated = gather ∷ []
sorts_of ChoiceUndiverted = choice ∷ []
sorts_of FunctionWithStitches = flow_start ∷ []
sorts_of FunctionWithChoice = choice ∷ []
sorts_of FunctionWithDivert = divert ∷ []
sorts_of VariableForbidden = variable ∷ []

-- the rule can be broken at a thing of the sort
unfoldable pub can_break : Kind → Rule → Bool
can_break sort r = any (λ (k : Kind). same_kind k sort) (sorts_of r)

-- of the rules, those that can be broken at a thing of the sort
unfoldable pub of_sort : Kind → List Rule → List Rule
of_sort sort [] = []
of_sort sort (r ∷ rs) = pick (can_break sort r) (r ∷ of_sort sort rs) (of_sort sort rs)

-- at a divert
abbrev pub divert_rules : Bool → List Rule
divert_rules true = FunctionWithDivert ∷ target_rules
divert_rules false = target_rules

-- at a variable
abbrev pub variable_rules : Bool → List Rule
variable_rules true = VariableForbidden ∷ []
variable_rules false = []

-- at a choice, for its place
abbrev pub led_rules : Bool → List Rule
led_rules true = []
led_rules false = ChoiceUndiverted ∷ []

-- at a choice, in a function or not
abbrev pub choice_rules : Bool → Bool → List Rule
choice_rules inner true = FunctionWithChoice ∷ led_rules inner
choice_rules inner false = led_rules inner

-- THE TABLE: the rules that a look tests at a thing of each sort
abbrev pub look_table : Bool → Bool → Kind → List Rule
look_table inner function plain = []
look_table inner function temp = temp_rules
look_table inner function divert = divert_rules function
look_table inner function tunnel = target_rules
look_table inner function thread = target_rules
look_table inner function call = FlowCalled ∷ []
look_table inner function variable = variable_rules inner
look_table inner function argument = ParameterAlreadyMarked ∷ []
look_table inner function choice = choice_rules inner function
look_table inner function gather = GatherRepeated ∷ []
look_table inner function parameter = NameIsFunction ∷ []
look_table inner function stitch_name = []
look_table inner function flow_start = []

-- 3. WHAT A LOOK ANSWERS

-- the answer says whether no rule of the list is broken at the thing
pub record ClearAt (sections : Sections) (file kept : List ℕ) (at : At) (rs : List Rule) (r : Bool) : Type 0 where
  pub says : (w : What) → ThingIs file at.thing w
      → r ≡ clear_of (known_in sections file) (here_in file kept at.site.scope) rs (before_at file kept at) w
