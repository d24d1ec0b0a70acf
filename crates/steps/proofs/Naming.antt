-- A step at names, one after the other: a stitch's name, the parameters of a flow, the first byte of a function. Assumes nothing.
use mathlib.Core.Path.{◌≡◌, refl, sym, ap, ◌∙◌}
use mathlib.Core.Bool.{Bool, true, false}
use mathlib.Core.List.{List, [], ◌∷◌}
use Prim.Native.Nat.{ℕ}
use lib.Dec.{T}
use lib.ListN.{drop}
use Rattle.story.specs.declared.Sections.{Sections}
use Rattle.names.specs.Words.{Bytes}
use Rattle.names.specs.Counted.{name_at}
use Rattle.records.specs.declared.sorts.Sort.{Sort as Kind}
use Rattle.records.specs.declared.sorts.Sort.TheVariants.{Parameter as parameter, StitchName as stitch_name, FlowStart as flow_start}
use Rattle.records.specs.Items.{What, Item}
use Rattle.story.specs.Story.{Name, Story, Flow}
use Rattle.story.specs.Flows.{counted_in}
use Rattle.items.specs.Bodies.{items_at, kept_story}
use Rattle.rules.specs.declared.Rule.{Rule}
use Rattle.rules.specs.Rules as rules
use Rattle.rules.specs.Steps.{Step, s5, s6, s12, bracket, Run, run, over, name_item, param_items, purity_items}
use Rattle.broken.specs.Scopes.{body_run}
use Rattle.steps.specs.declared.Tally.{Tally}
use Rattle.steps.specs.declared.brackets.Step.TheVariants.{StitchName, Parameters, Purity}
use Rattle.steps.specs.declared.headings.Heading.{Heading}
use Rattle.steps.specs.declared.headings.NameVisit.{NameVisit}
use Rattle.steps.specs.Heard.{is_full, passed, Heard, heard, hear_all, run_now, hear_runs}
use Rattle.steps.specs.Brackets.{step_of}
use Rattle.steps.specs.Visits.{LikeThing, found}
use Rattle.steps.specs.Turns.{ScopeIs, turn_at, turn_run}
use Rattle.steps.specs.Headings.{named, name_thing, name_visit, NameHeard, FlowIs}
use Rattle.steps.proofs.Runs.{runs-full}
use Rattle.steps.proofs.Before.{all_ahead, looks_ahead, run-after}
use Rattle.steps.proofs.Turning.{visit-found}

-- 1. One name

-- what is found at the name, by the numbers at hand, is what the rules find there
pub name-heard : {sections : Sections} {file kept list list' : List ℕ} {v : NameVisit} {r : Tally} {rs : List Rule} → rs ≡ bracket (step_of v.turn.step)
    → ((w : What) → LikeThing file (name_thing v) w → heard r list' ≡ hear_all (heard v.turn.tally list) (found sections file kept (name_visit v) rs w))
    → NameHeard sections file kept list v r list'
name-heard {sections} {file} {kept} {list} {list'} {v} {r} e told = record {
  says = λ s k h q.
      let i : Item = name_item k v.place (named file v.named) in
      told i.what (record { sort = q; named = λ z. refl; branch = refl; leaves = refl })
      ∙ ap (hear_all (heard v.turn.tally list))
      (visit-found (kept_story sections file) (run_now (heard v.turn.tally list) (run s [] (step_of v.turn.step))) (record { item = i; before = [] }) h.names refl refl h.flow refl e);
}

-- a run over the name and other items: the others are left
pub name-after : {sections : Sections} {file kept list list' : List ℕ} {v : NameVisit} {r : Tally} → NameHeard sections file kept list v r list'
    → {s : rules.Scope} → ScopeIs file kept sections v.turn.site.scope s → (k : Kind) → k ≡ v.sort
    → (step : Step) → step_of v.turn.step ≡ step → T (all_ahead (bracket step)) → (items : List Item)
    → hear_runs (kept_story sections file) (heard v.turn.tally list) (run s (name_item k v.place (named file v.named) ∷ items) step ∷ [])
    ≡ hear_runs (kept_story sections file) (heard r list') (run s items step ∷ [])
name-after {sections} {file} {kept} {list} {list'} {v} {r} told {s} h k e step which t items =
    let story = kept_story sections file in
    let i : Item = name_item k v.place (named file v.named) in
    run-after story (heard v.turn.tally list) s step i items t ∙ ap (λ (g : Heard). hear_runs story g (run s items step ∷ [])) (sym (rw which at (told.says s k h e)))

-- a run over no items finds nothing
pub run_none : (story : Story) (s : rules.Scope) (step : Step) (tally : Tally) (list : List ℕ) {r : Tally} → r ≡ passed 1 tally
    → heard r list ≡ hear_runs story (heard tally list) (run s [] step ∷ [])
unfolding hear_runs hear_all
run_none story s step tally list e = rw e

-- one step over the items
over-one : (s : rules.Scope) (items : List Item) (step : Step) → over s items (step ∷ []) ≡ run s items step ∷ []
unfolding over
over-one s items step = refl

-- 2. Step 12

-- the stitch's name was visited: that is the whole run
pub stitch-name : {sections : Sections} {file kept list list' : List ℕ} (h : Heading) {r r' : Tally}
    → NameHeard sections file kept list (record { turn = turn_at h.site StitchName h.tally; sort = stitch_name; place = h.at; named = h.at }) r list' → r' ≡ passed 1 r
    → (s : rules.Scope) → ScopeIs file kept sections h.site.scope s
    → heard r' list' ≡ hear_runs (kept_story sections file) (heard h.tally list) (over s (name_item stitch_name h.at (named file h.at) ∷ []) (s12 ∷ []))
unfolding all_ahead looks_ahead
stitch-name {sections} {file} {kept} {list} {list'} h {r} told e s q =
    run_none (kept_story sections file) s s12 r list' e
    ∙ sym (ap (hear_runs (kept_story sections file) (heard h.tally list)) (over-one s (name_item stitch_name h.at (named file h.at) ∷ []) s12)
    ∙ name-after told q stitch_name refl s12 refl tt [])

-- 3. Step 6

-- step 6 over all parameters
abbrev param_runs : List ℕ → Heading → rules.Scope → List Run
param_runs file h s = over s (param_items (counted_in h.site.scope.params (drop h.site.scope.params file))) (s6 ∷ [])

-- what is to be heard of all parameters is what is to be heard of those that are left
pub record ParamsLeft (sections : Sections) (file kept : List ℕ) (h : Heading) (list₀ list : List ℕ) (tally : Tally) (left : List Name) : Type 0 where
  pub rest : (s : rules.Scope) → ScopeIs file kept sections h.site.scope s
      → hear_runs (kept_story sections file) (heard h.tally list₀) (param_runs file h s)
      ≡ hear_runs (kept_story sections file) (heard tally list) (run s (param_items left) s6 ∷ [])

-- no parameter was visited
pub params-start : {sections : Sections} (file kept : List ℕ) (h : Heading) (list : List ℕ) {left : List Name} → left ≡ counted_in h.site.scope.params (drop h.site.scope.params file)
    → ParamsLeft sections file kept h list list h.tally left
unfolding over
params-start file kept h list e = record { rest = λ s q. rw e refl }

module _ {sections : Sections} {file kept : List ℕ} {h : Heading} {list₀ list : List ℕ} {tally : Tally} {left : List Name} (more : ParamsLeft sections file kept h list₀ list tally left) where
  -- the next parameter was visited
  pub params-next : {n : Name} {left' : List Name} → left ≡ n ∷ left' → n.bytes ≡ name_at file n.at → {list' : List ℕ} {r : Tally}
      → NameHeard sections file kept list (record { turn = turn_at h.site Parameters tally; sort = parameter; place = n.at; named = n.at }) r list'
      → ParamsLeft sections file kept h list₀ list' r left'
  unfolding all_ahead looks_ahead
  params-next {n} {left'} p q told =
      let front : n ≡ named file n.at = ap (λ (b : Bytes). record { at = n.at; bytes = b }) q in
      record { rest = λ s k. more.rest s k ∙ rw p (ap (λ (m : Name). hear_runs (kept_story sections file) (heard tally list) (run s (name_item parameter n.at m ∷ param_items left') s6 ∷ [])) front ∙ name-after told k parameter refl s6 refl tt _) }

  module _ (s : rules.Scope) (k : ScopeIs file kept sections h.site.scope s) where
    -- no parameter is left
    pub params-end : left ≡ [] → {r : Tally} → r ≡ passed 1 tally
        → heard r list ≡ hear_runs (kept_story sections file) (heard h.tally list₀) (param_runs file h s)
    params-end z e = run_none (kept_story sections file) s s6 tally list e ∙ sym (more.rest s k ∙ rw z refl)

    -- no more is heard
    pub params-full : {b : Bool} → b ≡ is_full tally → b ≡ true
        → heard tally list ≡ hear_runs (kept_story sections file) (heard h.tally list₀) (param_runs file h s)
    params-full e f = sym (more.rest s k ∙ runs-full (kept_story sections file) (heard tally list) (sym e ∙ f) (run s (param_items left) s6 ∷ []))

-- 4. Step 5

module _ {sections : Sections} {file kept : List ℕ} {h : Heading} (s : rules.Scope) (f : Flow) (k : ScopeIs file kept sections h.site.scope s) (same : FlowIs file kept h f) where
  -- a function: its first byte was visited, then its own list
  pub purity-function : {list list₁ list' : List ℕ} {t r : Tally} → h.function ≡ true
      → NameHeard sections file kept list (record { turn = turn_at h.site Purity h.tally; sort = flow_start; place = h.at; named = h.site.scope.flow }) t list₁
      → heard r list' ≡ hear_runs (kept_story sections file) (heard t list₁) (turn_run file kept (turn_at h.site Purity t) s ∷ [])
      → heard r list' ≡ hear_runs (kept_story sections file) (heard h.tally list) (over s (purity_items h.function f) (s5 ∷ []))
  unfolding all_ahead looks_ahead over
  purity-function there told rest =
      rw (there, same.place, same.name, same.body) (rest ∙ sym (name-after told k flow_start refl s5 refl tt (items_at file (body_run kept h.site.scope))))

  -- another flow
  pub purity-none : {list : List ℕ} {r : Tally} → h.function ≡ false → r ≡ passed 1 h.tally
      → heard r list ≡ hear_runs (kept_story sections file) (heard h.tally list) (over s (purity_items h.function f) (s5 ∷ []))
  unfolding over
  purity-none {list} other e = rw other (run_none (kept_story sections file) s s5 h.tally list e)
