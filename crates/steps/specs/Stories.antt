-- Inner contract. What holds while the steps of a stitch, a flow and a story run. Assumes nothing.
use Rattle.story.specs.declared.Sections.{Sections}
use Rattle.std.specs.Prelude.{ℕ, ◌≤◌, ◌≡◌, List, [], ◌∷◌}
use Rattle.items.specs.Bodies.{kept_story, kept_flow}
use Rattle.items.specs.Runs.{number_before}
use Rattle.rules.specs.Rules.{knot}
use Rattle.rules.specs.Steps.{s5, s6, over, param_items, purity_items}
use Rattle.broken.specs.Scopes.{KnotSet}
use Rattle.steps.specs.declared.context.Knot.{Knot}
use Rattle.steps.specs.declared.context.StitchTurn.{StitchTurn}
use Rattle.steps.specs.declared.context.FlowTurn.{FlowTurn}
use Rattle.steps.specs.declared.context.StoryTurn.{StoryTurn}
use Rattle.steps.specs.Heard.{Heard, hear_runs}
use Rattle.steps.specs.Scopes.{knot_scope, FlowReady, StitchReady}

-- what is heard after steps 5 and 6 of the flow
abbrev pub first_heard : Sections → List ℕ → List ℕ → Knot → Heard → Heard
first_heard sections file kept k h =
    hear_runs (kept_story sections file)
    (hear_runs (kept_story sections file) h (over (knot (kept_flow file kept k.flow)) (purity_items k.flow.function (kept_flow file kept k.flow)) (s5 ∷ [])))
    (over (knot (kept_flow file kept k.flow)) (param_items (kept_flow file kept k.flow).params) (s6 ∷ []))

-- the knot's steps can run: its set is filled, and no temp and no gather of a body is in a set yet
pub record KnotReady (file kept set : List ℕ) (k : Knot) : Type 0 where
  pub flow_ready : FlowReady file kept k.flow
  pub scope_is : k.site.scope ≡ knot_scope file kept k.flow
  pub knot_set : KnotSet file kept k.site set
  pub own : k.site.rests.own ≡ 0
  pub gathers : k.site.rests.gathers ≡ 0

-- the steps of a stitch of a knot that is ready can run
pub record StitchTurnReady (file kept : List ℕ) (t : StitchTurn) : Type 0 where
  pub stitch_ready : StitchReady file t.stitch
  pub before : t.start ≤ number_before t.stitch.from kept

-- the steps of a flow can run, but for its set
pub record FlowTurnReady (file kept : List ℕ) (t : FlowTurn) : Type 0 where
  pub flow_ready : FlowReady file kept t.flow
  pub before : t.start ≤ number_before t.flow.from kept

-- the steps of the flows can run
pub record StoryTurnReady (sections : Sections) (file kept : List ℕ) (t : StoryTurn) : Type 0 where
  pub before : t.start ≤ number_before sections.flows kept
