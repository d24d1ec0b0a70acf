-- Steps along one body, one after the other. Assumes nothing.
use mathlib.Core.Path.{◌≡◌, refl, sym, ap, ◌∙◌}
use mathlib.Core.Bool.{Bool, true, false, not}
use mathlib.Core.List.{List, [], ◌∷◌, map}
use Prim.Native.Nat.{ℕ, zero, suc, ◌+◌, ◌≤◌, ◌<◌}
use native.Mathlib.Omega.{arith}
use lib.ListN.{length, drop, drop_of_length-le}
use borrow.Author.Tests.{not-true}
use Rattle.story.specs.declared.Sections.{Sections}
use Rattle.names.specs.Words.{each}
use Rattle.records.specs.Items.{Item}
use Rattle.story.specs.Story.{Story}
use Rattle.items.specs.Bodies.{items_at, kept_story}
use Rattle.rules.specs.Rules as rules
use Rattle.rules.specs.Steps.{Step, bracket, run, over}
use Rattle.broken.specs.declared.Site.{Site}
use Rattle.broken.specs.declared.Rests.{Rests}
use Rattle.broken.specs.Scopes.{known_in, here_in, body_run, KnotSet, BodySet, Ready}
use Rattle.steps.specs.declared.Tally.{Tally}
use Rattle.steps.specs.declared.bodies.Course.{Course}
use Rattle.steps.specs.Heard.{is_full, passed, Heard, heard, hear_runs}
use Rattle.steps.specs.declared.brackets.Step as code
use Rattle.steps.specs.declared.brackets.Along.{Along}
use Rattle.steps.specs.declared.brackets.Along.TheVariants as along
use Rattle.steps.specs.Brackets.{step_of, on_gathers, gathers_last, steps_along}
use Rattle.steps.specs.Clear.{clear_along, among}
use Rattle.steps.specs.Looks.{look_rules}
use Rattle.steps.specs.Fillings.{with_rests, BodyPut}
use Rattle.steps.specs.Turns.{ScopeIs, turn_at, turn_run}
use Rattle.steps.specs.Courses.{course_runs, CourseReady}
use Rattle.steps.proofs.Runs.{runs-full}
use Rattle.steps.proofs.Clear.{both, over-clear}

-- 1. The steps of a course

-- the first of them, and then the others
pub runs-split : (s : Story) (h : Heard) (scope : rules.Scope) (items : List Item) {all more : List Step} {step : Step} → all ≡ step ∷ more
    → hear_runs s h (over scope items all) ≡ hear_runs s (hear_runs s h (run scope items step ∷ [])) (over scope items more)
unfolding hear_runs over
runs-split s h scope items e = rw e

-- no step is left
pub runs_none : (s : Story) (h : Heard) (scope : rules.Scope) (items : List Item) {left : List Step} → left ≡ [] → hear_runs s h (over scope items left) ≡ h
unfolding hear_runs over
runs_none s h scope items e = rw e

-- a step on gathers is the last
gathers-there : (steps : List code.Step) → gathers_last (map step_of steps) ≡ true → (i : ℕ) {step : code.Step} {more : List code.Step} → drop i steps ≡ step ∷ more
    → i + 1 < length steps → on_gathers (step_of step) ≡ false
unfolding gathers_last
gathers-there [] e i f l = absurd (omega arith)
gathers-there (s ∷ []) e i f l = absurd (omega arith)
gathers-there (s ∷ t ∷ more) e zero f l =
    let none = not-true (on_gathers (step_of s)) (both (not (on_gathers (step_of s))) (gathers_last (map step_of (t ∷ more))) e).0 in
    cc
gathers-there (s ∷ t ∷ more) e (suc i) f l =
    gathers-there (t ∷ more) (both (not (on_gathers (step_of s))) (gathers_last (map step_of (t ∷ more))) e).1 i f (omega arith)

-- 2. While the steps last

-- the first i steps were run: what the body's set has while a step is left, and what is to come
pub record Coursing (sections : Sections) (file kept : List ℕ) (c : Course) (steps : List code.Step) (rests : Rests) (list₀ body list : List ℕ) (tally : Tally) (i : ℕ) : Type 0 where
  pub set : i < length steps → BodySet file kept (with_rests c.site rests) 0 body
  pub to-come : (s : rules.Scope) → ScopeIs file kept sections c.site.scope s
      → hear_runs (kept_story sections file) (heard c.tally list₀) (course_runs file kept c (map step_of steps) s)
      ≡ hear_runs (kept_story sections file) (heard tally list) (over s (items_at file (body_run kept c.site.scope)) (map step_of (drop i steps)))

-- the knot's set is as filled, whatever the rests of a body
pub knot-again : {file kept : List ℕ} {s : Site} {r : Rests} {knot : List ℕ} → r.labels ≡ s.rests.labels → r.temps ≡ s.rests.temps → KnotSet file kept s knot → KnotSet file kept (with_rests s r) knot
knot-again e f k = record { labels = rw e k.labels; temps = rw f k.temps }

module _ {file kept : List ℕ} {c : Course} {rests : Rests} {body : List ℕ} (put : BodyPut file kept c.site rests body) where
  -- no step was run
  pub coursing-start : {sections : Sections} {steps : List code.Step} (list : List ℕ) → Coursing sections file kept c steps rests list body list c.tally 0
  coursing-start list = record { set = λ l. put.filled; to-come = λ s h. refl }

  module _ {knot : List ℕ} (ready : CourseReady file kept knot c) where
    -- all that a look may ask is ready
    pub course-look : Ready file kept knot body (with_rests c.site rests) 0
    course-look = record {
      scope_ready = ready.scope_ready;
      knot_set = knot-again put.labels put.temps ready.knot_set;
      body_set = put.filled;
    }

    -- all that the next step may ask is ready
    pub coursing-ready : {sections : Sections} {steps : List code.Step} {list₀ body' list : List ℕ} {tally : Tally} {i : ℕ} → Coursing sections file kept c steps rests list₀ body' list tally i → i < length steps
        → Ready file kept knot body' (with_rests c.site rests) 0
    coursing-ready u l = record {
      scope_ready = ready.scope_ready;
      knot_set = knot-again put.labels put.temps ready.knot_set;
      body_set = u.set l;
    }

module _ {sections : Sections} {file kept : List ℕ} {c : Course} {steps : List code.Step} {rests : Rests} {list₀ body list : List ℕ} {tally : Tally} {i : ℕ} (u : Coursing sections file kept c steps rests list₀ body list tally i) where
  -- the next step was run: only the last one changes the body's set
  pub coursing-next : gathers_last (map step_of steps) ≡ true → {step : code.Step} → drop i steps ≡ step ∷ drop (i + 1) steps → i < length steps
      → {body' list' : List ℕ} {tally' : Tally}
      → ((s : rules.Scope) → ScopeIs file kept sections c.site.scope s
      → heard tally' list' ≡ hear_runs (kept_story sections file) (heard tally list) (turn_run file kept (turn_at (with_rests c.site rests) step tally) s ∷ []))
      → (on_gathers (step_of step) ≡ false → body' ≡ body)
      → Coursing sections file kept c steps rests list₀ body' list' tally' (i + 1)
  coursing-next last there l heard-there stay = record {
    set = λ m. rw (stay (gathers-there steps last i there m)) (u.set l);
    to-come = λ s h.
        u.to-come s h
        ∙ runs-split (kept_story sections file) (heard tally list) s (items_at file (body_run kept c.site.scope)) (ap (map step_of) there)
        ∙ rw (← heard-there s h);
  }

  module _ (s : rules.Scope) (h : ScopeIs file kept sections c.site.scope s) where
    -- no step is left
    pub coursing-end : length steps ≤ i → heard tally list ≡ hear_runs (kept_story sections file) (heard c.tally list₀) (course_runs file kept c (map step_of steps) s)
    coursing-end l =
        sym (u.to-come s h ∙ runs_none (kept_story sections file) (heard tally list) s (items_at file (body_run kept c.site.scope)) (ap (map step_of) (drop_of_length-le steps l)))

    -- no more is heard
    pub coursing-full : {b : Bool} → b ≡ is_full tally → b ≡ true
        → heard tally list ≡ hear_runs (kept_story sections file) (heard c.tally list₀) (course_runs file kept c (map step_of steps) s)
    coursing-full e f = sym (u.to-come s h ∙ runs-full (kept_story sections file) (heard tally list) (sym e ∙ f) (over s (items_at file (body_run kept c.site.scope)) (map step_of (drop i steps))))

-- 3. Where one look finds nothing

-- the steps then find nothing, where the look tests all their rules
pub course-clear : (sections : Sections) (file kept : List ℕ) (c : Course) (steps : List Step) → among (each bracket steps) (look_rules c.inner c.function) ≡ true
    → {b : Bool} → b ≡ clear_along (known_in sections file) (here_in file kept c.site.scope) (look_rules c.inner c.function) [] (items_at file (body_run kept c.site.scope))
    → b ≡ true → {r : Tally} → r ≡ passed (length steps) c.tally → (list : List ℕ)
    → (s : rules.Scope) → ScopeIs file kept sections c.site.scope s
    → heard r list ≡ hear_runs (kept_story sections file) (heard c.tally list) (course_runs file kept c steps s)
course-clear sections file kept c steps tested e f p list s h =
    let items = items_at file (body_run kept c.site.scope) in
    let clear : clear_along (known_in sections file) (rules.here (kept_story sections file) s) (look_rules c.inner c.function) [] items ≡ true =
    rw h.names (sym e ∙ f) in
    rw (p, over-clear (kept_story sections file) s items (look_rules c.inner c.function) steps tested clear (heard c.tally list))

-- 4. The five lists of steps

-- a step on gathers stands only last
pub along-last : (a : Along) → gathers_last (steps_along a) ≡ true
unfolding gathers_last
along-last along.Root = refl
along-last along.RootGathers = refl
along-last along.Flow = refl
along-last along.FlowGathers = refl
along-last along.Stitch = refl

-- the body is a stitch's
abbrev pub in_stitch : Along → Bool
in_stitch along.Stitch = true
in_stitch _ = false

-- a look tests all their rules
pub along-tested : (a : Along) (function : Bool) → among (each bracket (steps_along a)) (look_rules (in_stitch a) function) ≡ true
unfolding among look_rules
along-tested along.Root true = refl
along-tested along.Root false = refl
along-tested along.RootGathers true = refl
along-tested along.RootGathers false = refl
along-tested along.Flow true = refl
along-tested along.Flow false = refl
along-tested along.FlowGathers true = refl
along-tested along.FlowGathers false = refl
along-tested along.Stitch true = refl
along-tested along.Stitch false = refl
