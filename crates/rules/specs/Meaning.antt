-- The rules, the steps and the names of a breach once more, as statements that do not compute; and what it is for a breach to stand.
-- Assumes nothing.
use Rattle.std.specs.Prelude.{◌≡◌, List, [], ◌∷◌, ◌++◌, map, ◌⊎◌, ℕ, ◌+◌, ◌-◌, ◌*◌, ◌<◌, T, length}
use Rattle.names.specs.Words.{Bytes, ◌∈◌}
use Rattle.names.specs.Reserved.{END, DONE, arrow, back, builtins}
use Rattle.records.specs.declared.sorts.Sort.{Sort as Kind}
use Rattle.records.specs.declared.sorts.Sort.TheVariants.{Temp as temp, Divert as divert, Tunnel as tunnel, Thread as thread, Call as call, Variable as variable, Argument as argument, Choice as choice, Gather as gather, Parameter as parameter, StitchName as stitch_name, FlowStart as flow_start}
use Rattle.records.specs.Items.{code, What, Item}
use Rattle.story.specs.Story.{Name, Stitch, Flow, Story, words, whats}
use Rattle.symbols.specs.Spelled.{LabelIn, Spelled}
use Rattle.symbols.specs.Numbers.{absent}
use Rattle.rules.specs.declared.Rule.{Rule}
use Rattle.rules.specs.declared.Rule.TheVariants.{FunctionDivertedTo, TargetNotFound, FlowCalled, NameIsFunction, NameIsGlobal, TempIsParameter, TempIsLabel, ParameterUnmarked, ParameterAlreadyMarked, GatherRepeated, ChoiceUndiverted, FunctionWithStitches, FunctionWithChoice, FunctionWithDivert, VariableForbidden}
use Rattle.rules.specs.Rules.{number, Scope, root, knot, stitch}
use Rattle.rules.specs.Steps.{Step, s1, s2, s3, s4, s5, s6, s7, s8, s9, s10, s11, s12, s13, s14, s15, s16, s17, s18, s19, s20, step_number, Run, run, name_item, flow_named, Breach}

-- THE RULES AS STATEMENTS

-- it is of the kind
abbrev pub Is : Kind → What → Type 0
Is k w = code k ≡ code w.kind

-- kinds 3, 4 and 5
abbrev pub Target : What → Type 0
Target w = Is divert w ⊎ Is tunnel w ⊎ Is thread w

-- empty, "->" or starting with "$"
abbrev pub Passes : Bytes → Type 0
Passes t = ([] ≡ t) ⊎ (arrow ≡ t) ⊎ ((r : Bytes) × (t ≡ 36 ∷ r))

-- the name of a function
abbrev pub Function : Story → Bytes → Type 0
Function s n = (f : Flow) × f ∈ s.flows × T f.function × (n ≡ f.name.bytes)

-- the name of a flow
abbrev pub FlowName : Story → Bytes → Type 0
FlowName s n = (f : Flow) × f ∈ s.flows × (n ≡ f.name.bytes)

-- a function, an external or one of the 21 words
abbrev pub CallPasses : Story → Bytes → Type 0
CallPasses s n = Function s n ⊎ n ∈ words s.externals ⊎ n ∈ builtins

-- END, DONE, ->-> or spelled; or something spelled ends in "." and the name
abbrev pub Found : Story → Bytes → Type 0
Found s n = (n ∈ (END ∷ DONE ∷ back ∷ []) ⊎ Spelled s n) ⊎ ((w : Bytes) × Spelled s w × ((p : Bytes) × (w ≡ p ++ (46 ∷ n))))

-- a TempSet name in the body
abbrev pub TempIn : List Item → Bytes → Type 0
TempIn body n = (w : What) × w ∈ whats body × Is temp w × (n ≡ w.name)

-- a label of the knot or one of its stitches
abbrev pub KnotLabel : Flow → Bytes → Type 0
KnotLabel f n = LabelIn f.body n ⊎ ((t : Stitch) × t ∈ f.stitches × LabelIn t.body n)

-- that flow's or stitch's own parameters
abbrev pub Param : Scope → Bytes → Type 0
Param root n = ⊥
Param (knot f) n = n ∈ words f.params
Param (stitch f t) n = n ∈ words t.params

-- that flow's or stitch's own marks
abbrev pub Mark : Scope → Bytes → Type 0
Mark root n = ⊥
Mark (knot f) n = n ∈ words f.marks
Mark (stitch f t) n = n ∈ words t.marks

-- labels for temps: the root's; or those of the knot and all its stitches
abbrev pub Label : Story → Scope → Bytes → Type 0
Label s root n = LabelIn s.root n
Label s (knot f) n = KnotLabel f n
Label s (stitch f t) n = KnotLabel f n

-- forbidden in a stitch: the knot's parameters and temps, less the stitch's own
abbrev pub Forbidden : Scope → Bytes → Type 0
Forbidden root n = ⊥
Forbidden (knot f) n = ⊥
Forbidden (stitch f t) n = (n ∈ words f.params ⊎ TempIn f.body n) × ((n ∈ words t.params ⊎ TempIn t.body n) → ⊥)

-- the flow has stitches
abbrev pub Stitched : Scope → Type 0
Stitched root = ⊥
Stitched (knot f) = (t : Stitch) × t ∈ f.stitches
Stitched (stitch f t) = ⊥

-- THE RULES, 1 to 15: broken by w, where `before` are the items earlier in the same body
unfoldable pub Broken : Story → Scope → List What → Rule → What → Type 0
Broken s sc before FunctionDivertedTo w = Target w × (Passes w.name → ⊥) × Function s w.name
Broken s sc before TargetNotFound w = Target w × (Passes w.name → ⊥) × (Function s w.name → ⊥) × (Found s w.name → ⊥)
Broken s sc before FlowCalled w = Is call w × (CallPasses s w.name → ⊥) × FlowName s w.name
Broken s sc before NameIsFunction w = (Is temp w ⊎ Is parameter w) × Function s w.name
Broken s sc before NameIsGlobal w = (Is parameter w ⊎ Is stitch_name w) × w.name ∈ words s.globals
Broken s sc before TempIsParameter w = Is temp w × Param sc w.name
Broken s sc before TempIsLabel w = Is temp w × Label s sc w.name
Broken s sc before ParameterUnmarked w = Target w × Param sc w.name × (Mark sc w.name → ⊥)
Broken s sc before ParameterAlreadyMarked w = Is argument w × Mark sc w.name
Broken s sc before GatherRepeated w = Is gather w × ((v : What) × v ∈ before × Is gather v × (w.name ≡ v.name))
Broken s sc before ChoiceUndiverted w = Is choice w × T w.branch × (T w.leaves → ⊥)
Broken s sc before FunctionWithStitches w = Is flow_start w × Stitched sc
Broken s sc before FunctionWithChoice w = Is choice w
Broken s sc before FunctionWithDivert w = Is divert w × ((END ≡ w.name ⊎ DONE ≡ w.name) → ⊥)
Broken s sc before VariableForbidden w = Is variable w × Forbidden sc w.name

-- THE STEPS AS STATEMENTS

-- the numbers bracketed at each step, as 01 lists them
abbrev pub bracketed : Step → List ℕ
bracketed s1 = 4 ∷ 7 ∷ []
bracketed s2 = 1 ∷ 2 ∷ []
bracketed s3 = 3 ∷ []
bracketed s4 = 11 ∷ []
bracketed s5 = 12 ∷ 13 ∷ 14 ∷ []
bracketed s6 = 4 ∷ 5 ∷ []
bracketed s7 = 4 ∷ 6 ∷ 7 ∷ []
bracketed s8 = 1 ∷ 2 ∷ []
bracketed s9 = 3 ∷ []
bracketed s10 = 11 ∷ []
bracketed s11 = 8 ∷ 9 ∷ []
bracketed s12 = 5 ∷ []
bracketed s13 = 4 ∷ 6 ∷ 7 ∷ []
bracketed s14 = 1 ∷ 2 ∷ []
bracketed s15 = 3 ∷ []
bracketed s16 = 8 ∷ 9 ∷ []
bracketed s17 = 15 ∷ []
bracketed s18 = 10 ∷ []
bracketed s19 = 10 ∷ []
bracketed s20 = 10 ∷ []

-- how many steps are run for a flow: 5 to 11, 12 to 18 for each stitch, its 19
abbrev pub flow_size : Flow → ℕ
flow_size f = 8 + 7 * length f.stitches

-- how many for flows, one after the other
abbrev pub flows_size : List Flow → ℕ
flows_size [] = 0
flows_size (f ∷ fs) = flow_size f + flows_size fs

-- the number of a flow's first step, after the root's 1 to 4 and those of the flows before it
abbrev pub flow_begin : List Flow → ℕ
flow_begin before = 4 + flows_size before

-- the number of a stitch's first step, after its flow's 5 to 11 and those of the stitches before it
abbrev pub stitch_begin : ℕ → List Stitch → ℕ
stitch_begin begin before = begin + 7 + 7 * length before

-- a stitch's 12 to 18, from the number `begin` on
pub data RanInStitch (f : Flow) (t : Stitch) (begin : ℕ) : ℕ → Run → Type 0 where
  ran_name : RanInStitch f t begin begin (run (stitch f t) (name_item stitch_name t.name.at t.name ∷ []) s12)
  ran_stitch_body : {st : Step} → st ∈ (s13 ∷ s14 ∷ s15 ∷ s16 ∷ s17 ∷ s18 ∷ []) → RanInStitch f t begin (begin + (step_number st - 12)) (run (stitch f t) t.body st)

-- a flow's 5 to 11, from the number `begin` on, those of each stitch, its 19; step 5 visits nothing in a flow that isn't a function
pub data RanInFlow (f : Flow) (begin : ℕ) : ℕ → Run → Type 0 where
  ran_purity : T f.function → RanInFlow f begin begin (run (knot f) (name_item flow_start f.at f.name ∷ f.body) s5)
  ran_no_purity : (T f.function → ⊥) → RanInFlow f begin begin (run (knot f) [] s5)
  ran_params : RanInFlow f begin (begin + 1) (run (knot f) (map (λ (n : Name). name_item parameter n.at n) f.params) s6)
  ran_flow_body : {st : Step} → st ∈ (s7 ∷ s8 ∷ s9 ∷ s10 ∷ s11 ∷ []) → RanInFlow f begin (begin + (step_number st - 5)) (run (knot f) f.body st)
  ran_stitch : (before : List Stitch) (t : Stitch) (after : List Stitch) {n : ℕ} {u : Run} → f.stitches ≡ before ++ (t ∷ after)
      → RanInStitch f t (stitch_begin begin before) n u → RanInFlow f begin n u
  ran_flow_gathers : RanInFlow f begin (stitch_begin begin f.stitches) (run (knot f) f.body s19)

-- THE STEPS AS RUN, with what each visits and its number from 0 on: the root's 1 to 4, those of each flow, the root's 20
pub data Ran (s : Story) : ℕ → Run → Type 0 where
  ran_root : {st : Step} → st ∈ (s1 ∷ s2 ∷ s3 ∷ s4 ∷ []) → Ran s (step_number st - 1) (run root s.root st)
  ran_flow : (before : List Flow) (f : Flow) (after : List Flow) {n : ℕ} {u : Run} → s.flows ≡ before ++ (f ∷ after)
      → RanInFlow f (flow_begin before) n u → Ran s n u
  ran_root_gathers : Ran s (flow_begin s.flows) (run root s.root s20)

-- THE NAMES AS STATEMENTS: 14 has function and target, 11 none, the others one, which in 12 and 13 is the function
pub record NamesAre (rule : ℕ) (function own : ℕ) (names : ℕ × ℕ) : Type 0 where
  pub both : rule ≡ 14 → names ≡ (function, own)
  pub neither : rule ≡ 11 → names ≡ (absent, absent)
  pub the_function : (11 < rule) × (rule < 14) → names ≡ (function, absent)
  pub the_own : (rule < 11) ⊎ (rule ≡ 15) → names ≡ (own, absent)

-- A BREACH STANDS: a step as run visits the item at its place, those of the same body before it are `earlier`, its rule is
-- bracketed there and broken there, and its names are the rule's.
pub record Stands (s : Story) (b : Breach) : Type 0 where
  pub instance : ℕ
  pub step : Run
  pub runs_it : Ran s instance step
  pub earlier : List Item
  pub item : Item
  pub after : List Item
  pub visits_it : step.items ≡ earlier ++ (item ∷ after)
  pub rule : Rule
  pub of_step : number rule ∈ bracketed step.step
  pub is_broken : Broken s step.scope (whats earlier) rule item.what
  pub the_instance : b.instance ≡ instance
  pub the_rule : b.rule ≡ rule
  pub the_place : b.place ≡ item.place
  pub the_names : NamesAre (number rule) (flow_named step.scope) item.named b.names
