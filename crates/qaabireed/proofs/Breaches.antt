-- The place and the names of a breach that stands have 32 bits: `breach-narrow`. Assumes nothing.
use mathlib.Core.Path.{◌≡◌, refl}
use mathlib.Core.List.Memᴰ
use mathlib.Core.Logic.{inl, inr, ⊎_elim}
use Prim.Native.Nat.{ℕ, ◌≤◌, ◌<◌, ◌^◌}
use native.Mathlib.Omega.{arith}
use lib.Dec.{lit<}
use Rattle.names.specs.Words.{◌∈◌}
use Rattle.records.specs.declared.sorts.Sort.TheVariants.{Parameter as parameter}
use Rattle.records.specs.Items.{Item}
use Rattle.story.specs.Story.{Name, Stitch, Flow, Story}
use Rattle.symbols.specs.Numbers.{absent}
use Rattle.rules.specs.declared.Rule.{Rule}
use Rattle.rules.specs.declared.Rule.TheVariants.{FunctionDivertedTo, TargetNotFound, FlowCalled, NameIsFunction, NameIsGlobal, TempIsParameter, TempIsLabel, ParameterUnmarked, ParameterAlreadyMarked, GatherRepeated, ChoiceUndiverted, FunctionWithStitches, FunctionWithChoice, FunctionWithDivert, VariableForbidden}
use Rattle.rules.specs.Rules.{number}
use Rattle.rules.specs.Steps.{Run, name_item, flow_named, Breach}
use Rattle.rules.specs.Meaning.{RanInStitch, ran_name, ran_stitch_body, RanInFlow, ran_purity, ran_no_purity, ran_params, ran_flow_body, ran_stitch, ran_flow_gathers, Ran, ran_root, ran_flow, ran_root_gathers, NamesAre, Stands}
use Rattle.rules.proofs.Placed.{in_split}
use Rattle.qaabireed.proofs.Stories.{ItemWithin, StitchWithin, FlowWithin, StoryWithin}

-- 1. What a step visits

named-item : {end : ℕ} {i : Item} → i.place < end → i.named < end → ItemWithin end i
named-item h k = record { place = h; named = omega arith }

-- in a stitch
in-stitch : {end : ℕ} (f : Flow) (t : Stitch) → StitchWithin end t → {begin n : ℕ} {u : Run} → RanInStitch f t begin n u → (i : Item) → i ∈ u.items → ItemWithin end i
in-stitch f t w ran_name i j = rw (Memᴰ.eq_of_singleton j) (named-item w.name w.name)
in-stitch f t w (ran_stitch_body m) i j = w.body i j

-- in a flow
in-flow : {end : ℕ} (f : Flow) → FlowWithin end f → {begin n : ℕ} {u : Run} → RanInFlow f begin n u → (i : Item) → i ∈ u.items → ItemWithin end i
in-flow f w (ran_purity t) i j = ⊎_elim (λ e. rw e (named-item w.at w.own.name)) (λ n. w.own.body i n) (Memᴰ.cases_cons j)
in-flow f w (ran_no_purity t) i j = absurd (Memᴰ.not-nil j)
in-flow f w ran_params i j =
    let o = Memᴰ.of_map (λ (n : Name). name_item parameter n.at n) f.params j in
    let h = w.own.params o.0 o.1 in
    rw (← o.2) (named-item h h)
in-flow f w (ran_flow_body m) i j = w.own.body i j
in-flow f w (ran_stitch before t after e r) i j = in-stitch f t (w.stitches t (in_split before t after e)) r i j
in-flow f w ran_flow_gathers i j = w.own.body i j

-- the name of the flow at hand
stitch-named : (f : Flow) (t : Stitch) {begin n : ℕ} {u : Run} → RanInStitch f t begin n u → flow_named u.scope ≡ f.name.at
stitch-named f t ran_name = refl
stitch-named f t (ran_stitch_body m) = refl

flow-named : (f : Flow) {begin n : ℕ} {u : Run} → RanInFlow f begin n u → flow_named u.scope ≡ f.name.at
flow-named f (ran_purity t) = refl
flow-named f (ran_no_purity t) = refl
flow-named f ran_params = refl
flow-named f (ran_flow_body m) = refl
flow-named f (ran_stitch before t after e r) = stitch-named f t r
flow-named f ran_flow_gathers = refl

module _ {end : ℕ} (s : Story) (w : StoryWithin end s) (short : end ≤ 1048576) where
  visited-within : {n : ℕ} {u : Run} → Ran s n u → (i : Item) → i ∈ u.items → ItemWithin end i
  visited-within (ran_root m) i j = w.root i j
  visited-within (ran_flow before f after e r) i j = in-flow f (w.flows f (in_split before f after e)) r i j
  visited-within ran_root_gathers i j = w.root i j

  -- the place of the name of the flow at hand, or that of none
  scope-narrow : {n : ℕ} {u : Run} → Ran s n u → flow_named u.scope < 2 ^ 32
  scope-narrow (ran_root m) = lit< tt
  scope-narrow (ran_flow before f after e r) = omega (arith, flow-named f r, (w.flows f (in_split before f after e)).own.name)
  scope-narrow ran_root_gathers = lit< tt

-- 2. The names of a rule

-- each of the two has 32 bits
abbrev pub NamesNarrow : ℕ × ℕ → Type 0
NamesNarrow names = (names.0 < 2 ^ 32) × (names.1 < 2 ^ 32)

module _ {flow own : ℕ} {names : ℕ × ℕ} (f : flow < 2 ^ 32) (o : own < 2 ^ 32) where
  own-narrow : names ≡ (own, absent) → NamesNarrow names
  own-narrow e = rw e (o, lit< tt)

  flow-narrow : names ≡ (flow, absent) → NamesNarrow names
  flow-narrow e = rw e (f, lit< tt)

  names-narrow : (r : Rule) → NamesAre (number r) flow own names → NamesNarrow names
  names-narrow FunctionDivertedTo n = own-narrow (n.the_own (inl (lit< tt)))
  names-narrow TargetNotFound n = own-narrow (n.the_own (inl (lit< tt)))
  names-narrow FlowCalled n = own-narrow (n.the_own (inl (lit< tt)))
  names-narrow NameIsFunction n = own-narrow (n.the_own (inl (lit< tt)))
  names-narrow NameIsGlobal n = own-narrow (n.the_own (inl (lit< tt)))
  names-narrow TempIsParameter n = own-narrow (n.the_own (inl (lit< tt)))
  names-narrow TempIsLabel n = own-narrow (n.the_own (inl (lit< tt)))
  names-narrow ParameterUnmarked n = own-narrow (n.the_own (inl (lit< tt)))
  names-narrow ParameterAlreadyMarked n = own-narrow (n.the_own (inl (lit< tt)))
  names-narrow GatherRepeated n = own-narrow (n.the_own (inl (lit< tt)))
  names-narrow ChoiceUndiverted n = rw (n.neither refl) (lit< tt, lit< tt)
  names-narrow FunctionWithStitches n = flow-narrow (n.the_function (lit< tt, lit< tt))
  names-narrow FunctionWithChoice n = flow-narrow (n.the_function (lit< tt, lit< tt))
  names-narrow FunctionWithDivert n = rw (n.both refl) (f, o)
  names-narrow VariableForbidden n = own-narrow (n.the_own (inr refl))

rule-narrow : (r : Rule) → number r < 2 ^ 32
rule-narrow FunctionDivertedTo = lit< tt
rule-narrow TargetNotFound = lit< tt
rule-narrow FlowCalled = lit< tt
rule-narrow NameIsFunction = lit< tt
rule-narrow NameIsGlobal = lit< tt
rule-narrow TempIsParameter = lit< tt
rule-narrow TempIsLabel = lit< tt
rule-narrow ParameterUnmarked = lit< tt
rule-narrow ParameterAlreadyMarked = lit< tt
rule-narrow GatherRepeated = lit< tt
rule-narrow ChoiceUndiverted = lit< tt
rule-narrow FunctionWithStitches = lit< tt
rule-narrow FunctionWithChoice = lit< tt
rule-narrow FunctionWithDivert = lit< tt
rule-narrow VariableForbidden = lit< tt

-- 3. A breach

-- rule, place and names have 32 bits each
pub record BreachNarrow (b : Breach) : Type 0 where
  pub rule : number b.rule < 2 ^ 32
  pub place : b.place < 2 ^ 32
  pub names : NamesNarrow b.names

pub breach-narrow : {end : ℕ} (s : Story) → StoryWithin end s → end ≤ 1048576 → (b : Breach) → Stands s b → BreachNarrow b
breach-narrow s w short b h =
    let i = visited-within s w short h.runs_it h.item (in_split h.earlier h.item h.after h.visits_it) in
    record {
      rule = rule-narrow b.rule;
      place = omega (arith, h.the_place, i.place);
      names = names-narrow (scope-narrow s w short h.runs_it) (omega (arith, i.named)) h.rule h.the_names;
    }
