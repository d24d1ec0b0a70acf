-- The steps of a flow, and of the flows of a story: all is ready for them, and what they hear is what the runs find. Assumes nothing.
use Rattle.std.specs.Prelude.{Option, Some}
use mathlib.Core.Path.{◌≡◌, refl, sym, ap}
use mathlib.Core.Bool.{Bool, true, false}
use mathlib.Core.List.{List, [], ◌∷◌}
use Prim.Native.Nat.{ℕ, ◌≤◌, ◌<◌}
use native.Mathlib.Omega.{arith}
use lib.ListN.{length, drop}
use Rattle.story.specs.declared.Sections.{Sections}
use Rattle.names.specs.Words.{each}
use Rattle.story.specs.Flows.{counted_in}
use Rattle.searches.specs.declared.views.FlowView.{FlowView}
use Rattle.searches.specs.Views.{flow_view_of}
use Rattle.items.specs.Bodies.{items_at, kept_story, kept_flow, Kept}
use Rattle.items.specs.Runs.{number_before}
use Rattle.items.proofs.RisingPlaces.{number-rises}
use Rattle.rules.specs.Rules as rules
use Rattle.rules.specs.Steps.{Step, s5, s6, s19, flow_steps, bracket, over, param_items, purity_items, stitch_runs, flow_runs}
use Rattle.broken.specs.declared.Scope.{Scope}
use Rattle.broken.specs.Scopes.{body_run, ScopeReady, Ready, known_in, here_in}
use Rattle.steps.specs.declared.Tally.{Tally}
use Rattle.steps.specs.declared.bodies.Course.{Course}
use Rattle.steps.specs.declared.context.Knot.{Knot}
use Rattle.steps.specs.declared.context.StoryTurn.{StoryTurn}
use Rattle.steps.specs.Heard.{Heard, heard, passed, hear_runs}
use Rattle.steps.specs.Clear.{clear_along, among}
use Rattle.steps.specs.Looks.{look_rules}
use Rattle.steps.specs.Turns.{ScopeIs}
use Rattle.steps.specs.Scopes.{kept_flows, FlowsReady}
use Rattle.steps.specs.Headings.{FlowIs}
use Rattle.steps.specs.Courses.{own_course, CourseReady}
use Rattle.steps.specs.Stories.{first_heard, KnotReady, FlowTurnReady, StoryTurnReady}
use Rattle.steps.proofs.Coursing.{course-clear}
use Rattle.steps.proofs.Runs.{Through, through-start, through-next}
use Rattle.steps.proofs.Order.{flow-heard}
use Rattle.steps.proofs.Seen.{flows-first, flow-seen-ready, flows-after, flow-number, readable-flows, story-flows}
use Rattle.steps.proofs.Places.{body-within, knot-is, knot-body, knot_ready}
use Rattle.steps.proofs.Idle.{idle_body}

module _ {file kept set : List ℕ} {k : Knot} (ready : KnotReady file kept set k) where
  pub knot-scope-ready : ScopeReady file kept k.site.scope
  knot-scope-ready = rw ready.scope_is (knot_ready file kept k.flow ready.flow_ready)

  pub knot-scope-is : {sections : Sections} → ScopeIs file kept sections k.site.scope (rules.knot (kept_flow file kept k.flow))
  knot-scope-is {sections} = rw ready.scope_is (knot-is file kept k.flow ready.flow_ready sections)

  -- its own list
  pub knot-items : items_at file (body_run kept k.site.scope) ≡ (kept_flow file kept k.flow).body
  knot-items = rw ready.scope_is (knot-body file kept k.flow ready.flow_ready)

  -- its heading can be visited
  pub knot-heading : Ready file kept set [] k.site 0
  knot-heading = record {
    scope_ready = knot-scope-ready;
    knot_set = ready.knot_set;
    body_set = idle_body file kept k.site ready.own ready.gathers;
  }

  -- the heading is the flow's
  pub knot-flow-is : (tally : Tally)
      → FlowIs file kept (record { site = k.site; at = k.flow.at; function = k.flow.function; tally = tally }) (kept_flow file kept k.flow)
  knot-flow-is tally = record { place = refl; name = rw ready.scope_is; body = sym knot-items }

  -- steps along its own list can run
  pub knot-course : (tally : Tally) → CourseReady file kept set (own_course k.site k.flow.function tally)
  knot-course tally = record {
    scope_ready = knot-scope-ready;
    knot_set = ready.knot_set;
  }

  -- its parameters stand inside the file
  pub knot-params : k.site.scope.params < length file
  knot-params = rw ready.scope_is ready.flow_ready.params

  -- what its first two steps hear
  pub first-told : (sections : Sections) (h : Heard) {g r : Heard}
      → g ≡ hear_runs (kept_story sections file) h (over (rules.knot (kept_flow file kept k.flow)) (purity_items k.flow.function (kept_flow file kept k.flow)) (s5 ∷ []))
      → r ≡ hear_runs (kept_story sections file) g (over (rules.knot (kept_flow file kept k.flow)) (param_items (counted_in k.site.scope.params (drop k.site.scope.params file))) (s6 ∷ []))
      → r ≡ first_heard sections file kept k h
  first-told sections h p q =
      let own : k.site.scope.params ≡ k.flow.params = ap (λ (s : Scope). s.params) ready.scope_is in
      rw (← p) (rw own at q)

  -- steps along its own list, as they were run
  pub own-told : (steps : List Step) {sections : Sections} {c : Course} {tally : Tally} {r : Heard} (list : List ℕ) → c ≡ own_course k.site k.flow.function tally
      → ((s : rules.Scope) → ScopeIs file kept sections c.site.scope s
      → r ≡ hear_runs (kept_story sections file) (heard c.tally list) (over s (items_at file (body_run kept c.site.scope)) steps))
      → r ≡ hear_runs (kept_story sections file) (heard tally list) (over (rules.knot (kept_flow file kept k.flow)) (kept_flow file kept k.flow).body steps)
  own-told steps list e p = rw knot-items at ((rw e at p) (rules.knot (kept_flow file kept k.flow)) knot-scope-is)

  -- where the look found it clear, and tests all their rules
  pub own-passed : (sections : Sections) {b : Bool} → b ≡ clear_along (known_in sections file) (here_in file kept k.site.scope) (look_rules false k.flow.function) [] (items_at file (body_run kept k.site.scope)) → b ≡ true
      → (steps : List Step) → among (each bracket steps) (look_rules false k.flow.function) ≡ true → (tally : Tally) {r : Tally} (list : List ℕ) → r ≡ passed (length steps) tally
      → heard r list ≡ hear_runs (kept_story sections file) (heard tally list) (over (rules.knot (kept_flow file kept k.flow)) (kept_flow file kept k.flow).body steps)
  own-passed sections e f steps tested tally list p = own-told steps list refl (course-clear sections file kept (own_course k.site k.flow.function tally) steps tested e f p list)

  -- what all its steps hear
  pub knot-told : (sections : Sections) (h : Heard) {a b c d : Heard} → a ≡ first_heard sections file kept k h
      → b ≡ hear_runs (kept_story sections file) a (over (rules.knot (kept_flow file kept k.flow)) (kept_flow file kept k.flow).body flow_steps)
      → c ≡ hear_runs (kept_story sections file) b (each (stitch_runs (kept_flow file kept k.flow)) (kept_flow file kept k.flow).stitches)
      → d ≡ hear_runs (kept_story sections file) c (over (rules.knot (kept_flow file kept k.flow)) (kept_flow file kept k.flow).body (s19 ∷ []))
      → d ≡ hear_runs (kept_story sections file) h (flow_runs (kept_flow file kept k.flow))
  knot-told sections h p q r t = flow-heard (kept_story sections file) (kept_flow file kept k.flow) h refl p q r t

-- the flows of a story one after the other: those from the place on are left
pub record Flowing (sections : Sections) (file kept : List ℕ) (t : StoryTurn) (list₀ : List ℕ) (tally : Tally) (list : List ℕ) (at start : ℕ) : Type 0 where
  pub readable : FlowsReady file kept at sections.end
  pub before : start ≤ number_before at kept
  pub through : Through (kept_story sections file) flow_runs (kept_story sections file).flows (heard t.tally list₀) (heard tally list)
      (kept_flows file at sections.end)

module _ {sections : Sections} {file kept : List ℕ} {t : StoryTurn} (ready : StoryTurnReady sections file kept t) where
  pub flowing-start : Kept file sections kept → (list : List ℕ) → Flowing sections file kept t list t.tally list sections.flows t.start
  flowing-start read list = record {
    readable = readable-flows read;
    before = ready.before;
    through = rw (← story-flows sections file) (through-start _ _ _ _);
  }

  module _ {list₀ : List ℕ} {tally : Tally} {list : List ℕ} {at start : ℕ} (inv : Flowing sections file kept t list₀ tally list at start)
      {r : Option FlowView} (told : r ≡ flow_view_of file at sections.end) (v : FlowView) (q : r ≡ Some v) where
    -- the flow at the place can be gone through
    pub flowing-ready : FlowTurnReady file kept (record { flow = v; start = start; tally = tally })
    flowing-ready = record {
      flow_ready = flow-seen-ready file kept at sections.end inv.readable told v q;
      before = flow-number file kept at sections.end inv.readable told v q inv.before;
    }

    -- its own list and its stitches stand in order
    pub flowing-ordered : v.from ≤ v.end
    flowing-ordered =
        let f = flow-seen-ready file kept at sections.end inv.readable told v q in
        omega (arith, f.ordered, body-within file kept v f)

    -- its items stand before those of the next
    pub flowing-onward : start ≤ number_before v.end kept
    flowing-onward = omega (arith, flow-number file kept at sections.end inv.readable told v q inv.before, number-rises v.from v.end flowing-ordered kept)

    -- on to the next
    pub flowing-next : {tally' : Tally} {list' : List ℕ} → heard tally' list' ≡ hear_runs (kept_story sections file) (heard tally list) (flow_runs (kept_flow file kept v))
        → {start' : ℕ} → start' ≡ number_before v.end kept → Flowing sections file kept t list₀ tally' list' v.end start'
    flowing-next p b = record {
      readable = flows-after file kept at sections.end inv.readable told v q;
      before = omega arith;
      through = through-next inv.through (flows-first file kept at sections.end inv.readable told v q) p;
    }
