-- Inner contract. One step along the items of a body, and the scope of the rules for which the code's numbers stand. Assumes nothing.
use Rattle.std.specs.Prelude.{ℕ, ◌+◌, ◌≡◌, List}
use Rattle.records.specs.Items.{Item, name_start}
use Rattle.records.specs.Numbers.{place_in, sort_in}
use Rattle.story.specs.declared.Sections.{Sections}
use Rattle.items.specs.Bodies.{items_at, kept_story}
use Rattle.rules.specs.Rules as rules
use Rattle.rules.specs.Steps.{Run, run, flow_named}
use Rattle.broken.specs.declared.Scope.{Scope}
use Rattle.broken.specs.declared.Site.{Site}
use Rattle.broken.specs.Scopes.{here_in, body_run}
use Rattle.steps.specs.declared.Tally.{Tally}
use Rattle.steps.specs.declared.visits.Visit.{Visit}
use Rattle.steps.specs.declared.brackets.Step.{Step}
use Rattle.steps.specs.declared.nodes.Turn.{Turn}
use Rattle.steps.specs.declared.nodes.NumberedTurn.{NumberedTurn}
use Rattle.steps.specs.Brackets.{step_of, step_at}
use Rattle.steps.specs.Visits.{thing_of, at_item}

-- the code's numbers stand for the scope of the rules: the same names, and the flow's name at the same place
pub record ScopeIs (file kept : List ℕ) (c : Sections) (v : Scope) (s : rules.Scope) : Type 0 where
  pub names : rules.here (kept_story c file) s ≡ here_in file kept v
  pub flow : flow_named s ≡ v.flow

-- a step at the site, after what was heard
abbrev pub turn_at : Site → Step → Tally → Turn
turn_at s step tally = record { site = s; step = step; tally = tally }

-- the items that the step visits
abbrev pub turn_items : List ℕ → List ℕ → Turn → List Item
turn_items file kept t = items_at file (body_run kept t.site.scope)

-- the step as run
abbrev pub turn_run : List ℕ → List ℕ → Turn → rules.Scope → Run
turn_run file kept t s = run s (turn_items file kept t) (step_of t.step)

-- the step of the number at the site, after what was heard
abbrev pub numbered_at : Site → ℕ → Tally → NumberedTurn
numbered_at s step tally = record { site = s; step = step; tally = tally }

-- the step of the number as run
abbrev pub numbered_run : List ℕ → List ℕ → NumberedTurn → rules.Scope → Run
numbered_run file kept t s = run s (items_at file (body_run kept t.site.scope)) (step_at t.step)

-- the visit of the kept item, before which so many stand
abbrev pub visit_of : Turn → Tally → ℕ → ℕ → ℕ → Visit
visit_of t tally gathers number item = record {
  at = at_item t.site gathers (thing_of item) number;
  place = place_in item;
  named = place_in item + (5 + name_start (sort_in item));
  tally = tally;
}
