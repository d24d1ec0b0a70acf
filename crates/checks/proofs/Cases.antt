-- Which rule is broken first, by cases in the order of the code's tests. Assumes nothing.
use mathlib.Core.Path.{◌≡◌, refl}
use mathlib.Core.Bool.{Bool, true, false, not, ◌&&◌, ◌||◌, or-false, and-false}
use mathlib.Core.List.{List, [], ◌∷◌}
use Prim.Native.Nat.{ℕ, ◌≤◌}
use native.Mathlib.Omega.{arith}
use lib.Dec.{eqb, eqb→eq}
use borrow.Author.Tests.{ne_eqb}
use Rattle.fields.specs.Bytes.{pick}
use Rattle.names.specs.Words.{same, any}
use Rattle.names.specs.Reserved.{END, DONE}
use Rattle.names.specs.Targets.{passes}
use Rattle.records.specs.declared.sorts.Sort.TheVariants.{Temp as temp, Divert as divert, Variable as variable, Argument as argument, Call as call, Choice as choice, Gather as gather, Parameter as parameter, StitchName as stitch_name, FlowStart as flow_start}
use Rattle.records.specs.Items.{code, What, is}
use Rattle.story.specs.Story.{Name, Story}
use Rattle.rules.specs.declared.Rule.TheVariants.{FunctionDivertedTo, TargetNotFound, FlowCalled, NameIsFunction, TempIsParameter, TempIsLabel, ParameterUnmarked, ParameterAlreadyMarked, GatherRepeated, ChoiceUndiverted, FunctionWithStitches, FunctionWithChoice, FunctionWithDivert, VariableForbidden}
use Rattle.rules.specs.Rules.{Known, Here, target, call_passes, broken, here, root}
use Rattle.rules.specs.Steps.{name_item, bracket, s1, s5, s6, s12, targets, calls, choices, temps, variable_diverts, gathers}
use Rattle.std.proofs.Common.{Some, None}
use Rattle.checks.specs.Judged.{first_broken, judged_by, target_judged, call_judged, temp_judged, param_judged, stitch_judged, variable_divert_judged, argument_judged}

-- 1. A test's answer picks

pub picked : {A : Type 0} {b t : Bool} {x r : A} (y : A) → b ≡ t → b ≡ true → r ≡ x → r ≡ pick t x y
picked y e h g = rw (← e, h) g

pub passed : {A : Type 0} {b t : Bool} {y r : A} (x : A) → b ≡ t → b ≡ false → r ≡ y → r ≡ pick t x y
passed x e h g = rw (← e, h) g

-- 2. By tests alone

targets-tests : (t p f g : Bool)
    → pick (t && not p && f) (Some FunctionDivertedTo) (pick (t && not p && not f && not g) (Some TargetNotFound) None)
    ≡ pick t (pick p None (pick f (Some FunctionDivertedTo) (pick g None (Some TargetNotFound)))) None
targets-tests true true f g = refl
targets-tests true false true g = refl
targets-tests true false false true = refl
targets-tests true false false false = refl
targets-tests false p f g = refl

calls-tests : (t p f : Bool) → pick (t && not p && f) (Some FlowCalled) None ≡ pick t (pick p None (pick f (Some FlowCalled) None)) None
calls-tests true true f = refl
calls-tests true false f = refl
calls-tests false p f = refl

temps-tests : (t f g h : Bool)
    → pick (t && f) (Some NameIsFunction) (pick (t && g) (Some TempIsParameter) (pick (t && h) (Some TempIsLabel) None))
    ≡ pick t (pick f (Some NameIsFunction) (pick g (Some TempIsParameter) (pick h (Some TempIsLabel) None))) None
temps-tests true f g h = refl
temps-tests false f g h = refl

diverts-tests : (t a p m : Bool) → (t && a) ≡ false
    → pick (t && p && not m) (Some ParameterUnmarked) (pick (a && m) (Some ParameterAlreadyMarked) None)
    ≡ pick t (pick p (pick m None (Some ParameterUnmarked)) None) (pick a (pick m (Some ParameterAlreadyMarked) None) None)
diverts-tests true true p m h = let z : ◌≡◌ {A = Bool} true false = h in cc
diverts-tests true false true true h = refl
diverts-tests true false true false h = refl
diverts-tests true false false m h = refl
diverts-tests false true p m h = refl
diverts-tests false false p m h = refl

purity-tests : (c t e : Bool)
    → pick c (Some FunctionWithChoice) (pick (t && not e) (Some FunctionWithDivert) None)
    ≡ pick c (Some FunctionWithChoice) (pick t (pick e None (Some FunctionWithDivert)) None)
purity-tests true t e = refl
purity-tests false true true = refl
purity-tests false true false = refl
purity-tests false false e = refl

choices-tests : (c b l : Bool) → pick (c && b && not l) (Some ChoiceUndiverted) None ≡ pick c (pick b (pick l None (Some ChoiceUndiverted)) None) None
choices-tests true true true = refl
choices-tests true true false = refl
choices-tests true false l = refl
choices-tests false b l = refl

variables-tests : (v f : Bool) → pick (v && f) (Some VariableForbidden) None ≡ pick v (pick f (Some VariableForbidden) None) None
variables-tests true f = refl
variables-tests false f = refl

gathers-tests : (g a : Bool) → pick (g && a) (Some GatherRepeated) None ≡ pick g (pick a (Some GatherRepeated) None) None
gathers-tests true a = refl
gathers-tests false a = refl

-- no record is both a divert and an argument of one
apart : (n : ℕ) → ((eqb 2 n || eqb 3 n || eqb 4 n) && eqb 7 n) ≡ false
apart n = by-test (eqb 7 n) refl
  where
    by-test : (b : Bool) → eqb 7 n ≡ b → ((eqb 2 n || eqb 3 n || eqb 4 n) && b) ≡ false
    by-test true e = let at : 7 ≡ n = eqb→eq 7 n (rw e tt) in rw (← at)
    by-test false e = and-false (eqb 2 n || eqb 3 n || eqb 4 n)

-- 3. At a record of a body: its kind is none of parameter, stitch_name and flow_start

module _ (k : Known) (h : Here) (before : List What) (w : What) where
  pub targets_judged : judged_by k h targets before w ≡ pick (target w) (target_judged k w.name) None
  unfolding judged_by first_broken broken
  targets_judged = targets-tests (target w) (passes w.name) (k.function w.name) (k.target w.name)

  pub calls_judged : judged_by k h calls before w ≡ pick (is call w) (call_judged k w.name) None
  unfolding judged_by first_broken broken
  calls_judged = calls-tests (is call w) (call_passes k w.name) (k.flow w.name)

  pub temps_judged : code w.kind ≤ 9 → judged_by k h temps before w ≡ pick (is temp w) (temp_judged k h w.name) None
  unfolding judged_by first_broken broken
  temps_judged r =
      let other : is parameter w ≡ false = ne_eqb 10 (code w.kind) (λ e. omega arith) in
      rw (other, or-false (is temp w)) (temps-tests (is temp w) (k.function w.name) (h.param w.name) (h.label w.name))

  pub variable_diverts_judged : judged_by k h variable_diverts before w
      ≡ pick (target w) (variable_divert_judged h w.name) (pick (is argument w) (argument_judged h w.name) None)
  unfolding judged_by first_broken broken
  variable_diverts_judged = diverts-tests (target w) (is argument w) (h.param w.name) (h.mark w.name) (apart (code w.kind))

  pub purity_judged : code w.kind ≤ 9 → judged_by k h (bracket s5) before w
      ≡ pick (is choice w) (Some FunctionWithChoice)
      (pick (is divert w) (pick (same END w.name || same DONE w.name) None (Some FunctionWithDivert)) None)
  unfolding judged_by first_broken broken
  purity_judged r =
      let other : is flow_start w ≡ false = ne_eqb 12 (code w.kind) (λ e. omega arith) in
      rw other (purity-tests (is choice w) (is divert w) (same END w.name || same DONE w.name))

  pub choices_judged : judged_by k h choices before w ≡ pick (is choice w) (pick w.branch (pick w.leaves None (Some ChoiceUndiverted)) None) None
  unfolding judged_by first_broken broken
  choices_judged = choices-tests (is choice w) w.branch w.leaves

  pub variables_judged : judged_by k h (VariableForbidden ∷ []) before w ≡ pick (is variable w) (pick (h.forbidden w.name) (Some VariableForbidden) None) None
  unfolding judged_by first_broken broken
  variables_judged = variables-tests (is variable w) (h.forbidden w.name)

  pub gathers_judged : judged_by k h gathers before w
      ≡ pick (is gather w) (pick (any (λ (v : What). is gather v && same w.name v.name) before) (Some GatherRepeated) None) None
  unfolding judged_by first_broken broken
  gathers_judged = gathers-tests (is gather w) (any (λ (v : What). is gather v && same w.name v.name) before)

-- 4. At a name: a parameter's, a stitch's, or the flow itself

module _ (k : Known) (h : Here) (before : List What) (place : ℕ) (n : Name) where
  pub params_judged : judged_by k h (bracket s6) before (name_item parameter place n).what ≡ param_judged k n.bytes
  unfolding judged_by first_broken broken
  params_judged = refl

  pub stitch_name_judged : judged_by k h (bracket s12) before (name_item stitch_name place n).what ≡ stitch_judged k n.bytes
  unfolding judged_by first_broken broken
  stitch_name_judged = refl

  pub start_judged : judged_by k h (bracket s5) before (name_item flow_start place n).what ≡ pick h.stitched (Some FunctionWithStitches) None
  unfolding judged_by first_broken broken
  start_judged = refl

-- 5. At the root no name is a parameter

pub root-temps : (k : Known) (s : Story) (b c : List What) (w : What) → judged_by k (here s root) temps b w ≡ judged_by k (here s root) (bracket s1) c w
unfolding judged_by first_broken broken here
root-temps k s b c w = rw (and-false (is temp w))

-- 6. Only rule 10 looks at what stands before

module _ (k : Known) (h : Here) (b c : List What) (w : What) where
  pub params-free : judged_by k h (bracket s6) b w ≡ judged_by k h (bracket s6) c w
  unfolding judged_by first_broken broken
  params-free = refl

  pub purity-free : judged_by k h (bracket s5) b w ≡ judged_by k h (bracket s5) c w
  unfolding judged_by first_broken broken
  purity-free = refl
