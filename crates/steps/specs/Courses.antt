-- Inner contract. Steps along one body, one after the other: which they are, and what is ready. Assumes nothing.
use Rattle.std.specs.Prelude.{ℕ, zero, suc, ◌+◌, ◌≤◌, ◌<◌, Bool, false, List, [], ◌∷◌}
use Rattle.items.specs.Bodies.{items_at}
use Rattle.rules.specs.Rules as rules
use Rattle.rules.specs.Steps.{Step as table_step, Run, over}
use Rattle.broken.specs.declared.Site.{Site}
use Rattle.broken.specs.Scopes.{body_run, ScopeReady, KnotSet}
use Rattle.steps.specs.declared.Tally.{Tally}
use Rattle.steps.specs.declared.bodies.Course.{Course}
use Rattle.steps.specs.declared.bodies.NumberedCourse.{NumberedCourse}
use Rattle.steps.specs.Brackets.{step_at}

-- the steps along the body as run
abbrev pub course_runs : List ℕ → List ℕ → Course → List table_step → rules.Scope → List Run
course_runs file kept c steps s = over s (items_at file (body_run kept c.site.scope)) steps

-- steps along the root or the own list of a flow, after what was heard
abbrev pub own_course : Site → Bool → Tally → Course
own_course site function tally = record { site = site; inner = false; function = function; tally = tally }

-- all that the steps of the course may ask is ready but for the body's set
pub record CourseReady (file kept knot : List ℕ) (c : Course) : Type 0 where
  pub scope_ready : ScopeReady file kept c.site.scope
  pub knot_set : KnotSet file kept c.site knot

-- so many steps, by their numbers from n on
unfoldable pub steps_from : ℕ → ℕ → List table_step
steps_from n zero = []
steps_from n (suc m) = step_at n ∷ steps_from (n + 1) m

-- the steps of the course by their numbers, as run
abbrev pub numbered_runs : List ℕ → List ℕ → NumberedCourse → rules.Scope → List Run
numbered_runs file kept c s = over s (items_at file (body_run kept c.course.site.scope)) (steps_from c.first c.many)

-- all that the steps may ask is ready but for the body's set, and only the last of them has a number of the steps on gathers
pub record NumberedReady (file kept knot : List ℕ) (c : NumberedCourse) : Type 0 where
  pub course_ready : CourseReady file kept knot c.course
  pub steps : c.first + c.many ≤ 21
  pub gathers_last : (i : ℕ) → i + 1 < c.many → c.first + i < 18
