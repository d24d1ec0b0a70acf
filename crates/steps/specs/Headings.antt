-- Inner contract. The steps that visit names: what is heard at a name. Assumes nothing.
use Rattle.story.specs.declared.Sections.{Sections}
use Rattle.std.specs.Prelude.{ℕ, ◌≡◌, false, List, []}
use Rattle.names.specs.Counted.{name_at}
use Rattle.records.specs.declared.sorts.Sort.{Sort as Kind}
use Rattle.story.specs.Story.{Name, Flow}
use Rattle.items.specs.Bodies.{items_at, kept_story}
use Rattle.rules.specs.Rules as rules
use Rattle.rules.specs.Steps.{run, name_item, in_visit}
use Rattle.broken.specs.declared.Thing.{Thing}
use Rattle.broken.specs.Scopes.{body_run}
use Rattle.steps.specs.declared.Tally.{Tally}
use Rattle.steps.specs.declared.visits.Visit.{Visit}
use Rattle.steps.specs.declared.headings.Heading.{Heading}
use Rattle.steps.specs.declared.headings.NameVisit.{NameVisit}
use Rattle.steps.specs.Heard.{heard, hear_all, run_now}
use Rattle.steps.specs.Brackets.{step_of}
use Rattle.steps.specs.Turns.{ScopeIs}

-- the name at the place
abbrev pub named : List ℕ → ℕ → Name
named file at = record { at = at; bytes = name_at file at }

-- the name as thing
abbrev pub name_thing : NameVisit → Thing
name_thing v = record { sort = v.sort; name = v.named; branch = false; leaves = false }

-- the visit of the name, before which no item stands
abbrev pub name_visit : NameVisit → Visit
name_visit v = record {
  at = record { site = v.turn.site; thing = name_thing v; number = 0 };
  place = v.place;
  named = v.named;
  tally = v.turn.tally;
}

-- what the step finds at the name was heard, in whatever scope of the rules the code's numbers stand for
pub record NameHeard (sections : Sections) (file kept list : List ℕ) (v : NameVisit) (r : Tally) (list' : List ℕ) : Type 0 where
  pub says : (s : rules.Scope) (k : Kind) → ScopeIs file kept sections v.turn.site.scope s → k ≡ v.sort
      → heard r list'
      ≡ hear_all (heard v.turn.tally list)
      (in_visit (kept_story sections file) (run_now (heard v.turn.tally list) (run s [] (step_of v.turn.step))) (record { item = name_item k v.place (named file v.named); before = [] }))

-- the heading is that of the flow: its first byte, its name, and its own list
pub record FlowIs (file kept : List ℕ) (h : Heading) (f : Flow) : Type 0 where
  pub place : f.at ≡ h.at
  pub name : f.name ≡ named file h.site.scope.flow
  pub body : f.body ≡ items_at file (body_run kept h.site.scope)
