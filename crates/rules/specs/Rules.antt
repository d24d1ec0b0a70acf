-- The fifteen rules, one line each. What a rule asks of the rest of the story is a test on names: `Known` for the whole story,
-- `Here` for the root, the flow or the stitch at hand. The rules are the code's `Rule`. Assumes nothing.
use Rattle.std.specs.Prelude.{Bool, true, false, not, ◌&&◌, ◌||◌, List, [], ◌∷◌, ℕ}
use Rattle.names.specs.Words.{Bytes, same, any, one_of, ends}
use Rattle.names.specs.Reserved.{END, DONE, back, builtins}
use Rattle.names.specs.Targets.{passes}
use Rattle.records.specs.declared.sorts.Sort.TheVariants.{Temp as temp, Divert as divert, Tunnel as tunnel, Thread as thread, Call as call, Variable as variable, Argument as argument, Choice as choice, Gather as gather, Parameter as parameter, StitchName as stitch_name, FlowStart as flow_start}
use Rattle.records.specs.Items.{What, is}
use Rattle.story.specs.Story.{Stitch, Flow, Story, words}
use Rattle.searches.specs.Called.{is_flow, is_function}
use Rattle.items.specs.Search.{label_in, temp_in}
use Rattle.symbols.specs.Index.{spellings}
use Rattle.rules.specs.declared.Rule.{Rule}
use Rattle.rules.specs.declared.Rule.TheVariants.{FunctionDivertedTo, TargetNotFound, FlowCalled, NameIsFunction, NameIsGlobal, TempIsParameter, TempIsLabel, ParameterUnmarked, ParameterAlreadyMarked, GatherRepeated, ChoiceUndiverted, FunctionWithStitches, FunctionWithChoice, FunctionWithDivert, VariableForbidden}

-- the number of each rule
abbrev pub number : Rule → ℕ
number FunctionDivertedTo = 1
number TargetNotFound = 2
number FlowCalled = 3
number NameIsFunction = 4
number NameIsGlobal = 5
number TempIsParameter = 6
number TempIsLabel = 7
number ParameterUnmarked = 8
number ParameterAlreadyMarked = 9
number GatherRepeated = 10
number ChoiceUndiverted = 11
number FunctionWithStitches = 12
number FunctionWithChoice = 13
number FunctionWithDivert = 14
number VariableForbidden = 15

-- the names of the whole story
pub record Known : Type 0 where
  pub function : Bytes → Bool
  pub flow : Bytes → Bool
  pub global : Bytes → Bool
  pub external : Bytes → Bool
  -- valid, or some spelling ends in "." and the target
  pub target : Bytes → Bool

-- the names of the root, the flow or the stitch at hand
pub record Here : Type 0 where
  pub param : Bytes → Bool
  pub mark : Bytes → Bool
  pub label : Bytes → Bool
  pub forbidden : Bytes → Bool
  pub stitched : Bool

-- kinds 3, 4 and 5, whose name is a target
abbrev pub target : What → Bool
target w = is divert w || is tunnel w || is thread w

-- a call name passes if a function, an external or one of the 21 words
abbrev pub call_passes : Known → Bytes → Bool
call_passes k n = k.function n || k.external n || one_of n builtins

-- THE RULES: broken by w, where `before` are the items earlier in the same body
unfoldable pub broken : Known → Here → List What → Rule → What → Bool
-- 1 function diverted to; 2 target not found
broken k h before FunctionDivertedTo w = target w && not (passes w.name) && k.function w.name
broken k h before TargetNotFound w = target w && not (passes w.name) && not (k.function w.name) && not (k.target w.name)
-- 3 flow called but not a function
broken k h before FlowCalled w = is call w && not (call_passes k w.name) && k.flow w.name
-- 4 name is a function's; 5 name is a global's
broken k h before NameIsFunction w = (is temp w || is parameter w) && k.function w.name
broken k h before NameIsGlobal w = (is parameter w || is stitch_name w) && k.global w.name
-- 6 temp is a parameter; 7 temp is a label
broken k h before TempIsParameter w = is temp w && h.param w.name
broken k h before TempIsLabel w = is temp w && h.label w.name
-- 8 target is a parameter without divert mark; 9 argument is directly a DivertTarget of a divert parameter
broken k h before ParameterUnmarked w = target w && h.param w.name && not (h.mark w.name)
broken k h before ParameterAlreadyMarked w = is argument w && h.mark w.name
-- 10 gather label already seen earlier in the same body
broken k h before GatherRepeated w = is gather w && any (λ (v : What). is gather v && same w.name v.name) before
-- 11 choice directly in a branch of kind 8 or 9, its body's last non-Newline missing or not of kinds 3, 6, 7, 11, 12
broken k h before ChoiceUndiverted w = is choice w && w.branch && not w.leaves
-- 12 function with stitches; 13 with a choice; 14 with a Divert other than END or DONE
broken k h before FunctionWithStitches w = is flow_start w && h.stitched
broken k h before FunctionWithChoice w = is choice w
broken k h before FunctionWithDivert w = is divert w && not (same END w.name || same DONE w.name)
-- 15 Variable forbidden here
broken k h before VariableForbidden w = is variable w && h.forbidden w.name

-- Valid: END, DONE, ->-> and every spelling.
abbrev pub valid : Story → Bytes → Bool
valid s n = one_of n (END ∷ DONE ∷ back ∷ []) || one_of n (spellings s)

-- some spelling ends in "." and the target
abbrev pub ending : Story → Bytes → Bool
ending s n = any (ends (46 ∷ n)) (spellings s)

-- the names of a story
unfoldable pub known : Story → Known
known s = record {
  function = λ n. any (is_function n) s.flows;
  flow = λ n. any (is_flow n) s.flows;
  global = λ n. one_of n (words s.globals);
  external = λ n. one_of n (words s.externals);
  target = λ n. valid s n || ending s n;
}

-- where a step runs: at the root, for a flow, or for a stitch of a flow
pub data Scope : Type 0 where
  root : Scope
  knot : Flow → Scope
  stitch : Flow → Stitch → Scope

-- that flow's or stitch's own parameters
abbrev pub param : Scope → Bytes → Bool
param root n = false
param (knot f) n = one_of n (words f.params)
param (stitch f t) n = one_of n (words t.params)

-- that flow's or stitch's own marks
abbrev pub mark : Scope → Bytes → Bool
mark root n = false
mark (knot f) n = one_of n (words f.marks)
mark (stitch f t) n = one_of n (words t.marks)

-- the labels of the knot and all its stitches
abbrev pub knot_label : Flow → Bytes → Bool
knot_label f n = label_in f.body n || any (λ (t : Stitch). label_in t.body n) f.stitches

-- labels for temps: the root's; or those of the knot and all its stitches
abbrev pub label : Story → Scope → Bytes → Bool
label s root n = label_in s.root n
label s (knot f) n = knot_label f n
label s (stitch f t) n = knot_label f n

-- forbidden in a stitch: the knot's parameters and the TempSet names in the knot's own list,
-- less the stitch's own parameters and TempSet names
abbrev pub forbidden : Scope → Bytes → Bool
forbidden root n = false
forbidden (knot f) n = false
forbidden (stitch f t) n =
    (one_of n (words f.params) || temp_in f.body n) && not (one_of n (words t.params) || temp_in t.body n)

-- the flow has stitches
abbrev pub stitched : Scope → Bool
stitched root = false
stitched (knot f) = any (λ (t : Stitch). true) f.stitches
stitched (stitch f t) = false

-- the names where a step runs
unfoldable pub here : Story → Scope → Here
here s scope = record {
  param = param scope;
  mark = mark scope;
  label = label s scope;
  forbidden = forbidden scope;
  stitched = stitched scope;
}
