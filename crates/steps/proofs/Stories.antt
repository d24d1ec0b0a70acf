-- The steps of a stitch, and of the stitches of a knot: all is ready for them, and what they hear is what the runs find. Assumes nothing.
use Rattle.std.specs.Prelude.{Option, Some}
use mathlib.Core.Path.{◌≡◌, ◌∙◌}
use mathlib.Core.Bool.{Bool}
use mathlib.Core.List.{List, [], ◌∷◌}
use Prim.Native.Nat.{ℕ, ◌≤◌}
use native.Mathlib.Omega.{arith}
use Rattle.story.specs.declared.Sections.{Sections}
use Rattle.searches.specs.declared.views.StitchView.{StitchView}
use Rattle.searches.specs.Views.{stitch_view_of}
use Rattle.items.specs.Bodies.{items_at, kept_story, kept_stitch, kept_stitches, kept_flow, StitchesKept}
use Rattle.items.specs.Runs.{number_before}
use Rattle.items.specs.Stitches.{StitchesReady}
use Rattle.items.proofs.RisingPlaces.{number-rises}
use Rattle.items.proofs.StitchesLeft.{stitches-after}
use Rattle.rules.specs.Rules as rules
use Rattle.rules.specs.Steps.{s12, over, stitch_items, stitch_runs}
use Rattle.broken.specs.declared.Scope.{Scope}
use Rattle.broken.specs.Scopes.{body_run, ScopeReady, KnotSet, Ready}
use Rattle.steps.specs.declared.Tally.{Tally}
use Rattle.steps.specs.declared.context.Knot.{Knot}
use Rattle.steps.specs.declared.context.StitchTurn.{StitchTurn}
use Rattle.steps.specs.Heard.{Heard, heard, hear_runs}
use Rattle.steps.specs.Turns.{ScopeIs}
use Rattle.steps.specs.Scopes.{knot_scope, stitch_scope}
use Rattle.steps.specs.declared.brackets.Along.TheVariants as along
use Rattle.steps.specs.Brackets.{steps_along}
use Rattle.steps.specs.Courses.{CourseReady}
use Rattle.steps.specs.Stories.{KnotReady, StitchTurnReady}
use Rattle.steps.proofs.Runs.{Through, through-start, through-next}
use Rattle.steps.proofs.Order.{stitch-heard}
use Rattle.steps.proofs.Seen.{stitch-seen-ready, stitch-number, stitch-last, stitches-first, stitches-rest, stitches-start}
use Rattle.steps.proofs.Places.{stitch-is, stitch-body, stitch_ready}
use Rattle.steps.proofs.Idle.{idle_body}

module _ {file kept set : List ℕ} {k : Knot} (knot_ready : KnotReady file kept set k) {t : StitchTurn} (ready : StitchTurnReady file kept t) {s : Scope} (e : s ≡ stitch_scope kept k.site.scope t.stitch) where
  -- by the flow
  at-knot : s ≡ stitch_scope kept (knot_scope file kept k.flow) t.stitch
  at-knot = e ∙ rw knot_ready.scope_is

  pub stitch-scope-ready : ScopeReady file kept s
  stitch-scope-ready = rw at-knot (stitch_ready file kept k.flow knot_ready.flow_ready t.stitch ready.stitch_ready)

  pub stitch-scope-is : {sections : Sections} → ScopeIs file kept sections s (rules.stitch (kept_flow file kept k.flow) (kept_stitch file kept t.stitch))
  stitch-scope-is {sections} = rw at-knot (stitch-is file kept k.flow knot_ready.flow_ready t.stitch ready.stitch_ready sections)

  -- the knot's set is its own
  pub stitch-knot-set : KnotSet file kept (record { scope = s; rests = k.site.rests }) set
  stitch-knot-set = rw e (record { labels = knot_ready.knot_set.labels; temps = knot_ready.knot_set.temps })

  -- its name can be visited
  pub stitch-heading : Ready file kept set [] (record { scope = s; rests = k.site.rests }) 0
  stitch-heading = record {
    scope_ready = stitch-scope-ready;
    knot_set = stitch-knot-set;
    body_set = idle_body file kept _ knot_ready.own knot_ready.gathers;
  }

  -- the steps along its body can run
  pub stitch-course : (inner function : Bool) (tally : Tally)
      → CourseReady file kept set (record { site = record { scope = s; rests = k.site.rests }; inner = inner; function = function; tally = tally })
  stitch-course inner function tally = record {
    scope_ready = stitch-scope-ready;
    knot_set = stitch-knot-set;
  }

  -- what they hear
  pub stitch-told : (sections : Sections) (h : Heard) {g r : Heard}
      → g ≡ hear_runs (kept_story sections file) h (over (rules.stitch (kept_flow file kept k.flow) (kept_stitch file kept t.stitch)) (stitch_items (kept_stitch file kept t.stitch)) (s12 ∷ []))
      → r ≡ hear_runs (kept_story sections file) g (over (rules.stitch (kept_flow file kept k.flow) (kept_stitch file kept t.stitch)) (items_at file (body_run kept s)) (steps_along along.Stitch))
      → r ≡ hear_runs (kept_story sections file) h (stitch_runs (kept_flow file kept k.flow) (kept_stitch file kept t.stitch))
  stitch-told sections h p q =
      let body : items_at file (body_run kept s) ≡ (kept_stitch file kept t.stitch).body
      = rw at-knot (stitch-body file kept k.flow knot_ready.flow_ready t.stitch ready.stitch_ready) in
      stitch-heard (kept_story sections file) (kept_flow file kept k.flow) (kept_stitch file kept t.stitch) h p (rw body at q)

-- the stitches of a knot one after the other: those from the place on are left
pub record Stitching (sections : Sections) (file kept : List ℕ) (k : Knot) (tally₀ : Tally) (list₀ : List ℕ) (tally : Tally) (list : List ℕ) (at start : ℕ) : Type 0 where
  pub readable : StitchesReady file at k.flow.end
  pub own : StitchesKept file kept at k.flow.end
  pub before : start ≤ number_before at kept
  pub through : Through (kept_story sections file) (stitch_runs (kept_flow file kept k.flow)) (kept_flow file kept k.flow).stitches (heard tally₀ list₀) (heard tally list)
      (kept_stitches file at k.flow.end)

module _ {file kept set : List ℕ} {k : Knot} where
  pub stitching-start : {sections : Sections} (tally : Tally) (list : List ℕ) → KnotReady file kept set k → Stitching sections file kept k tally list tally list k.flow.stitches k.site.scope.own
  stitching-start tally list ready = record {
    readable = ready.flow_ready.stitches;
    own = ready.flow_ready.own;
    before = rw ready.scope_is (stitches-start ready.flow_ready);
    through = through-start _ _ _ _;
  }

  module _ {sections : Sections} (ready : KnotReady file kept set k) {tally₀ : Tally} {list₀ : List ℕ} {tally : Tally} {list : List ℕ} {at start : ℕ} (inv : Stitching sections file kept k tally₀ list₀ tally list at start)
      {r : Option StitchView} (told : r ≡ stitch_view_of file at k.flow.end) (w : StitchView) (q : r ≡ Some w) where
    -- the stitch at the place can be gone through
    pub stitching-ready : StitchTurnReady file kept (record { stitch = w; start = start; tally = tally })
    stitching-ready = record {
      stitch_ready = stitch-seen-ready file at k.flow.end inv.readable told w q;
      before = stitch-number file at k.flow.end inv.readable told w q kept inv.before;
    }

    -- its items stand before those of the next
    pub stitching-onward : start ≤ number_before w.end kept
    stitching-onward = omega (arith, stitch-number file at k.flow.end inv.readable told w q kept inv.before, stitch-rises)
      where
        stitch-rises : number_before w.from kept ≤ number_before w.end kept
        stitch-rises = omega (arith, number-rises w.from w.to (stitch-seen-ready file at k.flow.end inv.readable told w q).ordered kept, stitch-last file at k.flow.end inv.readable told w q kept)

    -- on to the next
    pub stitching-next : {tally' : Tally} {list' : List ℕ}
        → heard tally' list' ≡ hear_runs (kept_story sections file) (heard tally list) (stitch_runs (kept_flow file kept k.flow) (kept_stitch file kept w))
        → {start' : ℕ} → start' ≡ number_before w.end kept → Stitching sections file kept k tally₀ list₀ tally' list' w.end start'
    stitching-next p b = record {
      readable = stitches-after file at k.flow.end inv.readable told w q;
      own = stitches-rest file at k.flow.end inv.readable told w q inv.own;
      before = omega arith;
      through = through-next inv.through (stitches-first file at k.flow.end inv.readable told w q inv.own) p;
    }
