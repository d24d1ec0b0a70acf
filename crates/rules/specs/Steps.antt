-- The twenty steps with their rules, the steps as run, all breaches in running order, and the verdict. Assumes nothing.
use Rattle.std.specs.Prelude.{◌≡◌, Bool, true, false, List, [], ◌∷◌, ◌++◌, map, ◌⊎◌, ℕ, suc, ◌<◌}
use Rattle.std.proofs.Math.Option.{Option, none, some}
use Rattle.names.specs.Words.{only, each}
use Rattle.records.specs.declared.sorts.Sort.{Sort as Kind}
use Rattle.records.specs.declared.sorts.Sort.TheVariants.{Parameter as parameter, StitchName as stitch_name, FlowStart as flow_start}
use Rattle.records.specs.Items.{What, Item}
use Rattle.story.specs.Story.{Name, Stitch, Flow, Story}
use Rattle.symbols.specs.Numbers.{absent}
use Rattle.rules.specs.declared.Rule.{Rule}
use Rattle.rules.specs.declared.Rule.TheVariants.{FunctionDivertedTo, TargetNotFound, FlowCalled, NameIsFunction, NameIsGlobal, TempIsParameter, TempIsLabel, ParameterUnmarked, ParameterAlreadyMarked, GatherRepeated, ChoiceUndiverted, FunctionWithStitches, FunctionWithChoice, FunctionWithDivert, VariableForbidden}
use Rattle.rules.specs.Rules.{number, broken, known, Scope, root, knot, stitch, here}

-- the twenty steps
pub data Step : Type 0 where
  s1 s2 s3 s4 s5 s6 s7 s8 s9 s10 s11 s12 s13 s14 s15 s16 s17 s18 s19 s20 : Step

-- the number of each step
abbrev pub step_number : Step → ℕ
step_number s1 = 1
step_number s2 = 2
step_number s3 = 3
step_number s4 = 4
step_number s5 = 5
step_number s6 = 6
step_number s7 = 7
step_number s8 = 8
step_number s9 = 9
step_number s10 = 10
step_number s11 = 11
step_number s12 = 12
step_number s13 = 13
step_number s14 = 14
step_number s15 = 15
step_number s16 = 16
step_number s17 = 17
step_number s18 = 18
step_number s19 = 19
step_number s20 = 20

-- the rules on targets
abbrev pub targets : List Rule
targets = FunctionDivertedTo ∷ TargetNotFound ∷ []

-- the rule on calls
abbrev pub calls : List Rule
calls = FlowCalled ∷ []

-- the rule on choices
abbrev pub choices : List Rule
choices = ChoiceUndiverted ∷ []

-- the rules on temps of a flow or a stitch
abbrev pub temps : List Rule
temps = NameIsFunction ∷ TempIsParameter ∷ TempIsLabel ∷ []

-- the rules on variable diverts
abbrev pub variable_diverts : List Rule
variable_diverts = ParameterUnmarked ∷ ParameterAlreadyMarked ∷ []

-- the rule on gathers
abbrev pub gathers : List Rule
gathers = GatherRepeated ∷ []

-- THE TABLE: the rules bracketed at each step
abbrev pub bracket : Step → List Rule
-- root
bracket s1 = NameIsFunction ∷ TempIsLabel ∷ []
bracket s2 = targets
bracket s3 = calls
bracket s4 = choices
-- each flow: 5 purity, 6 parameters
bracket s5 = FunctionWithStitches ∷ FunctionWithChoice ∷ FunctionWithDivert ∷ []
bracket s6 = NameIsFunction ∷ NameIsGlobal ∷ []
bracket s7 = temps
bracket s8 = targets
bracket s9 = calls
bracket s10 = choices
bracket s11 = variable_diverts
-- each of its stitches: 12 name, 17 forbidden variables
bracket s12 = NameIsGlobal ∷ []
bracket s13 = temps
bracket s14 = targets
bracket s15 = calls
bracket s16 = variable_diverts
bracket s17 = VariableForbidden ∷ []
bracket s18 = gathers
-- the flow's and the root's gathers
bracket s19 = gathers
bracket s20 = gathers

-- a step as run for the root, one flow or one stitch, and the items that it visits, in file order, at all depths
pub record Run : Type 0 where
  pub step : Step
  pub scope : Scope
  pub items : List Item

-- a step over the items
abbrev pub run : Scope → List Item → Step → Run
run scope items step = record { step = step; scope = scope; items = items }

-- the steps one after the other, over the same items
unfoldable pub over : Scope → List Item → List Step → List Run
over scope items steps = map (run scope items) steps

-- a name that a step visits: its place is given
abbrev pub name_item : Kind → ℕ → Name → Item
name_item k place n = record {
  place = place;
  named = n.at;
  what = record { kind = k; name = n.bytes; labels = false; branch = false; leaves = false };
}

-- for parameter and stitch names the place is the count byte
abbrev pub param_items : List Name → List Item
param_items l = map (λ (n : Name). name_item parameter n.at n) l

-- the name of a stitch
abbrev pub stitch_items : Stitch → List Item
stitch_items t = name_item stitch_name t.name.at t.name ∷ []

-- step 5 does nothing for a flow that isn't a function; for rule 12 the place is the flow's first byte
abbrev pub purity_items : Bool → Flow → List Item
purity_items true f = name_item flow_start f.at f.name ∷ f.body
purity_items false f = []

-- steps 1 to 4, over the root
abbrev pub root_steps : List Step
root_steps = s1 ∷ s2 ∷ s3 ∷ s4 ∷ []

-- steps 7 to 11, over a flow
abbrev pub flow_steps : List Step
flow_steps = s7 ∷ s8 ∷ s9 ∷ s10 ∷ s11 ∷ []

-- steps 13 to 18, over a stitch
abbrev pub stitch_steps : List Step
stitch_steps = s13 ∷ s14 ∷ s15 ∷ s16 ∷ s17 ∷ s18 ∷ []

-- the steps of a stitch
unfoldable pub stitch_runs : Flow → Stitch → List Run
stitch_runs f t = over (stitch f t) (stitch_items t) (s12 ∷ []) ++ over (stitch f t) t.body stitch_steps

-- the steps of a flow, those of its stitches among them
unfoldable pub flow_runs : Flow → List Run
flow_runs f =
    over (knot f) (purity_items f.function f) (s5 ∷ [])
    ++ over (knot f) (param_items f.params) (s6 ∷ [])
    ++ over (knot f) f.body flow_steps
    ++ each (stitch_runs f) f.stitches
    ++ over (knot f) f.body (s19 ∷ [])

-- THE STEPS AS RUN, in running order, those that find nothing included
unfoldable pub runs : Story → List Run
runs s = over root s.root root_steps ++ each flow_runs s.flows ++ over root s.root (s20 ∷ [])

-- a list's elements with their numbers
pub record Numbered (A : Type 0) : Type 0 where
  pub no : ℕ
  pub it : A

-- the list, numbered from n on
abbrev pub numbered : {A : Type 0} → ℕ → List A → List (Numbered A)
numbered n [] = []
numbered n (x ∷ xs) = record { no = n; it = x } ∷ numbered (suc n) xs

-- a breach: the number of the step as run, counted from 0, the rule, the place, and the places of the two names for the text
pub record Breach : Type 0 where
  pub instance : ℕ
  pub rule : Rule
  pub place : ℕ
  pub names : ℕ × ℕ

-- the names in the text's order: the flow's name, and the name of what is visited
abbrev pub names_of : Rule → ℕ → ℕ → ℕ × ℕ
names_of FunctionDivertedTo flow own = (own, absent)
names_of TargetNotFound flow own = (own, absent)
names_of FlowCalled flow own = (own, absent)
names_of NameIsFunction flow own = (own, absent)
names_of NameIsGlobal flow own = (own, absent)
names_of TempIsParameter flow own = (own, absent)
names_of TempIsLabel flow own = (own, absent)
names_of ParameterUnmarked flow own = (own, absent)
names_of ParameterAlreadyMarked flow own = (own, absent)
names_of GatherRepeated flow own = (own, absent)
names_of ChoiceUndiverted flow own = (absent, absent)
names_of FunctionWithStitches flow own = (flow, absent)
names_of FunctionWithChoice flow own = (flow, absent)
names_of FunctionWithDivert flow own = (flow, own)
names_of VariableForbidden flow own = (own, absent)

-- the place of the name of the flow at hand
abbrev pub flow_named : Scope → ℕ
flow_named root = absent
flow_named (knot f) = f.name.at
flow_named (stitch f t) = f.name.at

-- an item visited, with what stands before it in the same body
pub record Visit : Type 0 where
  pub item : Item
  pub before : List What

-- the items in order
abbrev pub visits : List What → List Item → List Visit
visits before [] = []
visits before (i ∷ is) = record { item = i; before = before } ∷ visits (before ++ (i.what ∷ [])) is

-- the breach of a rule at what a step visits
abbrev pub breach : Numbered Run → Visit → Rule → Breach
breach u v r = record {
  instance = u.no;
  rule = r;
  place = v.item.place;
  names = names_of r (flow_named u.it.scope) v.item.named;
}

-- the rule is broken at what the step visits
abbrev pub breaks : Story → Run → Visit → Rule → Bool
breaks s u v r = broken (known s) (here s u.scope) v.before r v.item.what

-- the breaches at what a step visits
abbrev pub in_visit : Story → Numbered Run → Visit → List Breach
in_visit s u v = each (λ (r : Rule). only (breaks s u.it v r) (breach u v r)) (bracket u.it.step)

-- the breaches in a step as run
abbrev pub in_run : Story → Numbered Run → List Breach
in_run s u = each (in_visit s u) (visits [] u.it.items)

-- THE BREACHES: all that stand, by step as run, place and rule
unfoldable pub breaches : Story → List Breach
breaches s = each (in_run s) (numbered 0 (runs s))

-- the first of a list
abbrev pub first : {A : Type 0} → List A → Option A
first [] = none
first (x ∷ xs) = some x

-- THE VERDICT: none where the story is accepted
unfoldable pub verdict : Story → Option Breach
verdict s = first (breaches s)

-- later: a later step, or the same step and a later place, or the same step and place and a larger rule number
abbrev pub Later : Breach → Breach → Type 0
Later b c =
    (b.instance < c.instance)
    ⊎ (((b.instance ≡ c.instance) × (b.place < c.place))
    ⊎ ((b.instance ≡ c.instance) × (b.place ≡ c.place) × (number b.rule < number c.rule)))
