-- Steps by their numbers along one body, one after the other. Assumes nothing.
use mathlib.Core.Path.{◌≡◌, refl, sym, ap, ◌∙◌}
use mathlib.Core.Bool.{Bool, true}
use mathlib.Core.List.{List, [], ◌∷◌}
use Prim.Native.Nat.{ℕ, zero, suc, ◌+◌, ◌-◌, ◌≤◌, ◌<◌}
use native.Mathlib.Omega.{arith}
use native.Mathlib.Nat.{add-zero, sub-zero}
use lib.ListN.{length}
use Rattle.story.specs.declared.Sections.{Sections}
use Rattle.names.specs.Words.{each}
use Rattle.items.specs.Bodies.{items_at, kept_story}
use Rattle.rules.specs.Rules as rules
use Rattle.rules.specs.Steps.{bracket, over}
use Rattle.broken.specs.declared.Site.{Site}
use Rattle.broken.specs.declared.Rests.{Rests}
use Rattle.broken.specs.Scopes.{known_in, here_in, body_run, BodySet, Ready}
use Rattle.steps.specs.declared.Tally.{Tally}
use Rattle.steps.specs.declared.bodies.NumberedCourse.{NumberedCourse}
use Rattle.steps.specs.Heard.{is_full, passed, heard, hear_runs}
use Rattle.steps.specs.Clear.{clear_along, among}
use Rattle.steps.specs.Looks.{look_rules}
use Rattle.steps.specs.Fillings.{with_rests, BodyPut}
use Rattle.steps.specs.Turns.{ScopeIs, numbered_at, numbered_run}
use Rattle.steps.specs.Courses.{steps_from, numbered_runs, NumberedReady}
use Rattle.steps.proofs.Runs.{runs-full}
use Rattle.steps.proofs.Idle.{idle_body}
use Rattle.steps.proofs.Coursing.{runs-split, runs_none, knot-again, course-clear}

-- 1. The steps by their numbers

-- they are as many as their numbers
pub steps-length : (n many : ℕ) → length (steps_from n many) ≡ many
unfolding steps_from
steps-length n zero = refl
steps-length n (suc m) = ap suc (steps-length (n + 1) m)

-- the rests where nothing of the body is in a set
abbrev pub unlent_rests : Rests → Rests
unlent_rests r = record { labels = r.labels; temps = r.temps; own = 0; gathers = 0 }

-- with a set that has no slots all that a step may ask is ready
pub unlent-ready : {file kept knot body : List ℕ} {s : Site} → Ready file kept knot body s 0 → Ready file kept knot [] (with_rests s (unlent_rests s.rests)) 0
unlent-ready {file} {kept} {s = s} r = record {
  scope_ready = r.scope_ready;
  knot_set = knot-again refl refl r.knot_set;
  body_set = idle_body file kept (with_rests s (unlent_rests s.rests)) refl refl;
}

-- 2. While the steps last

-- the first i steps were run: what the body's set has while a step is left, and what is to come
pub record Coursing (sections : Sections) (file kept : List ℕ) (c : NumberedCourse) (rests : Rests) (list₀ body list : List ℕ) (tally : Tally) (i : ℕ) : Type 0 where
  pub set : i < c.many → BodySet file kept (with_rests c.course.site rests) 0 body
  pub to-come : (s : rules.Scope) → ScopeIs file kept sections c.course.site.scope s
      → hear_runs (kept_story sections file) (heard c.course.tally list₀) (numbered_runs file kept c s)
      ≡ hear_runs (kept_story sections file) (heard tally list) (over s (items_at file (body_run kept c.course.site.scope)) (steps_from (c.first + i) (c.many - i)))

module _ {file kept : List ℕ} {c : NumberedCourse} {rests : Rests} {body : List ℕ} (put : BodyPut file kept c.course.site rests body) where
  -- no step was run
  pub coursing-start : {sections : Sections} (list : List ℕ) → Coursing sections file kept c rests list body list c.course.tally 0
  coursing-start list = record { set = λ l. put.filled; to-come = λ s h. rw (add-zero c.first, sub-zero c.many) }

  module _ {knot : List ℕ} (ready : NumberedReady file kept knot c) where
    -- all that the next step may ask is ready
    pub coursing-ready : {sections : Sections} {list₀ body' list : List ℕ} {tally : Tally} {i : ℕ} → Coursing sections file kept c rests list₀ body' list tally i → i < c.many
        → Ready file kept knot body' (with_rests c.course.site rests) 0
    coursing-ready u l = record {
      scope_ready = ready.course_ready.scope_ready;
      knot_set = knot-again put.labels put.temps ready.course_ready.knot_set;
      body_set = u.set l;
    }

module _ {sections : Sections} {file kept : List ℕ} {c : NumberedCourse} {rests : Rests} {list₀ body list : List ℕ} {tally : Tally} {i : ℕ} (u : Coursing sections file kept c rests list₀ body list tally i) where
  -- the next step was run: only the last one changes the body's set
  pub coursing-next : {knot : List ℕ} → NumberedReady file kept knot c → i < c.many → {body' list' : List ℕ} {tally' : Tally}
      → ((s : rules.Scope) → ScopeIs file kept sections c.course.site.scope s
      → heard tally' list' ≡ hear_runs (kept_story sections file) (heard tally list) (numbered_run file kept (numbered_at (with_rests c.course.site rests) (c.first + i) tally) s ∷ []))
      → (c.first + i < 18 → body' ≡ body)
      → Coursing sections file kept c rests list₀ body' list' tally' (i + 1)
  unfolding steps_from
  coursing-next ready l heard-there stay = record {
    set = λ m. rw (stay (ready.gathers_last i m)) (u.set l);
    to-come = λ s h.
        let left : c.many - i ≡ suc (c.many - (i + 1)) = omega arith in
        let on : c.first + i + 1 ≡ c.first + (i + 1) = omega arith in
        u.to-come s h
        ∙ rw (left, heard-there s h, ← on)
        (runs-split (kept_story sections file) (heard tally list) s (items_at file (body_run kept c.course.site.scope)) refl);
  }

  module _ (s : rules.Scope) (h : ScopeIs file kept sections c.course.site.scope s) where
    -- no step is left
    pub coursing-end : c.many ≤ i → heard tally list ≡ hear_runs (kept_story sections file) (heard c.course.tally list₀) (numbered_runs file kept c s)
    unfolding steps_from
    coursing-end l =
        let none : c.many - i ≡ 0 = omega arith in
        sym (u.to-come s h ∙ rw none (runs_none (kept_story sections file) (heard tally list) s (items_at file (body_run kept c.course.site.scope)) refl))

    -- no more is heard
    pub coursing-full : {b : Bool} → b ≡ is_full tally → b ≡ true
        → heard tally list ≡ hear_runs (kept_story sections file) (heard c.course.tally list₀) (numbered_runs file kept c s)
    coursing-full e f = sym (u.to-come s h ∙ runs-full (kept_story sections file) (heard tally list) (sym e ∙ f) (over s (items_at file (body_run kept c.course.site.scope)) (steps_from (c.first + i) (c.many - i))))

-- 3. Where one look finds nothing

-- the steps then find nothing, where the look tests all their rules
pub numbered-clear : (sections : Sections) (file kept : List ℕ) (c : NumberedCourse) → among (each bracket (steps_from c.first c.many)) (look_rules c.course.inner c.course.function) ≡ true
    → {b : Bool} → b ≡ clear_along (known_in sections file) (here_in file kept c.course.site.scope) (look_rules c.course.inner c.course.function) [] (items_at file (body_run kept c.course.site.scope))
    → b ≡ true → {r : Tally} → r ≡ passed c.many c.course.tally → (list : List ℕ)
    → (s : rules.Scope) → ScopeIs file kept sections c.course.site.scope s
    → heard r list ≡ hear_runs (kept_story sections file) (heard c.course.tally list) (numbered_runs file kept c s)
numbered-clear sections file kept c tested e f p = course-clear sections file kept c.course (steps_from c.first c.many) tested e f (rw (steps-length c.first c.many) p)
