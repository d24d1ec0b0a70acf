-- The steps of the root, and of a whole story: all is ready for them, and what they hear is what the runs find. Assumes nothing.
use mathlib.Core.Path.{◌≡◌}
use mathlib.Core.Bool.{false}
use mathlib.Core.List.{List, [], ◌∷◌}
use Prim.Native.Nat.{ℕ}
use native.Mathlib.Omega.{arith}
use Rattle.story.specs.declared.Sections.{Sections}
use Rattle.names.specs.Words.{each}
use Rattle.items.specs.Bodies.{items_at, kept_story, Kept}
use Rattle.rules.specs.Rules as rules
use Rattle.rules.specs.Steps.{Step, s20, root_steps, over, flow_runs, runs}
use Rattle.broken.specs.declared.Scope.{Scope}
use Rattle.broken.specs.declared.Rests.{Rests}
use Rattle.broken.specs.Scopes.{body_run, ScopeReady, KnotSet}
use Rattle.steps.specs.declared.Tally.{Tally}
use Rattle.steps.specs.declared.bodies.Course.{Course}
use Rattle.steps.specs.Heard.{Heard, heard, hear_runs}
use Rattle.steps.specs.Turns.{ScopeIs}
use Rattle.steps.specs.Scopes.{root_scope}
use Rattle.steps.specs.Courses.{own_course, CourseReady}
use Rattle.steps.specs.Stories.{StoryTurnReady}
use Rattle.steps.proofs.Order.{story-heard}
use Rattle.steps.proofs.Places.{root_is, root-body, root-ready}

module _ {sections : Sections} {file kept : List ℕ} (read : Kept file sections kept) {s : Scope} (e : s ≡ root_scope file sections kept) where
  pub root-scope-ready : ScopeReady file kept s
  root-scope-ready = rw e (root-ready read)

  root-scope-is : ScopeIs file kept sections s rules.root
  root-scope-is = rw e (root_is read)

  root-items : items_at file (body_run kept s) ≡ (kept_story sections file).root
  root-items = rw e (root-body read)

  -- steps along the root can run
  pub root-course-ready : {set : List ℕ} {n : Rests} {c : Course} {tally : Tally} → c ≡ own_course (record { scope = s; rests = n }) false tally → KnotSet file kept (record { scope = s; rests = n }) set
      → CourseReady file kept set c
  root-course-ready q k = rw q (record {
    scope_ready = root-scope-ready;
    knot_set = k;
  })

  -- the flows can be gone through
  pub root-flows-ready : (tally : Tally) → StoryTurnReady sections file kept (record { start = s.last; tally = tally })
  root-flows-ready tally = record { before = rw e (omega arith) }

  -- what steps along it hear
  pub root-told : (steps : List Step) {n : Rests} {c : Course} {tally : Tally} {r : Heard} (list : List ℕ) → c ≡ own_course (record { scope = s; rests = n }) false tally
      → ((z : rules.Scope) → ScopeIs file kept sections c.site.scope z
      → r ≡ hear_runs (kept_story sections file) (heard c.tally list) (over z (items_at file (body_run kept c.site.scope)) steps))
      → r ≡ hear_runs (kept_story sections file) (heard tally list) (over rules.root (kept_story sections file).root steps)
  root-told steps list q p = rw root-items at ((rw q at p) rules.root root-scope-is)

  -- what all steps of the story hear
  pub story-told : (h : Heard) {a b c : Heard} → a ≡ hear_runs (kept_story sections file) h (over rules.root (kept_story sections file).root root_steps)
      → b ≡ hear_runs (kept_story sections file) a (each flow_runs (kept_story sections file).flows)
      → c ≡ hear_runs (kept_story sections file) b (over rules.root (kept_story sections file).root (s20 ∷ []))
      → c ≡ hear_runs (kept_story sections file) h (runs (kept_story sections file))
  story-told h p q r = story-heard (kept_story sections file) h p q r
