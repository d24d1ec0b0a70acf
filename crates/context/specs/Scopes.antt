-- The root, a flow and a stitch by their places, what holds while their steps run, and what the steps find. Assumes nothing.
use Rattle.std.specs.Prelude.{ℕ, ◌≤◌, ◌<◌, ◌≡◌, Bool, true, false, ◌||◌, List, [], ◌∷◌, ◌++◌, map, length, Option}
use Rattle.names.specs.Words.{Bytes, any, each}
use Rattle.names.specs.Counted.{name_at}
use Rattle.records.specs.Trace.{well, ends}
use Rattle.story.specs.declared.Sections.{Sections}
use Rattle.records.specs.declared.sorts.Sort.TheVariants.{StitchName as stitch_name}
use Rattle.story.specs.Story.{Name, Stitch, Flow}
use Rattle.story.specs.Flows.{flows, part, flows_in}
use Rattle.story.specs.Plain.{flow_without_plain}
use Rattle.searches.specs.declared.views.FlowView.{FlowView}
use Rattle.searches.specs.declared.views.StitchView.{StitchView}
use Rattle.items.specs.Bodies.{kept_in, kept_stitches, StitchesKept, FlowsKept}
use Rattle.items.specs.Search.{label_in}
use Rattle.items.specs.Stitches.{StitchesReady}
use Rattle.symbols.specs.Numbers.{absent}
use Rattle.rules.specs.Rules.{Here, knot}
use Rattle.rules.specs.Steps.{s5, s6, s12, s19, bracket, flow_steps, Run, over, name_item, param_items, purity_items, stitch_runs}
use Rattle.checks.specs.declared.ScopeView.{ScopeView}
use Rattle.checks.specs.Context.{known_in, here_at}
use Rattle.context.specs.declared.BreachAt.{BreachAt}
use Rattle.context.specs.declared.Pass.{Pass}
use Rattle.context.specs.Found.{found_along, found_passes, clear_along}

-- 1. The root of a file of so many bytes, a flow, a stitch of a flow

-- the root
abbrev pub root_view : Sections → ℕ → ScopeView
root_view c n = record {
  inner = false;
  flow = absent;
  params = n;
  marks = n;
  from = c.root;
  to = c.flows;
  outer = n;
  body = c.root;
  stitches = c.flows;
  end = c.flows;
}

-- a flow
abbrev pub knot_view : FlowView → ScopeView
knot_view v = record {
  inner = false;
  flow = v.name;
  params = v.params;
  marks = v.marks;
  from = v.from;
  to = v.to;
  outer = v.params;
  body = v.from;
  stitches = v.stitches;
  end = v.end;
}

-- a stitch of a flow
abbrev pub stitch_view : FlowView → StitchView → ScopeView
stitch_view v w = record {
  inner = true;
  flow = v.name;
  params = w.params;
  marks = w.marks;
  from = w.from;
  to = w.to;
  outer = v.params;
  body = v.from;
  stitches = v.stitches;
  end = v.end;
}

-- the flows from the place on to the end, without their plain items
abbrev pub kept_flows : List ℕ → ℕ → ℕ → List Flow
kept_flows file at end = map flow_without_plain (flows_in at (part at end file))

-- 2. What holds while the steps run

-- the flow's parts lie within the file, its body ends where its stitches begin, they can be read, and the kept numbers are theirs: those of
-- the whole flow have the labels of its body and of its stitches
pub record FlowReady (file kept : List ℕ) (v : FlowView) : Type 0 where
  pub params : v.params < length file
  pub marks : v.marks ≤ length file
  pub ordered : v.from ≤ v.to
  pub joined : v.to ≡ v.stitches
  pub stitches : StitchesReady file v.stitches v.end
  pub own : StitchesKept file kept v.stitches v.end
  pub labels : (n : Bytes) → label_in (kept_in file kept v.from v.end) n
      ≡ label_in (kept_in file kept v.from v.to) n || any (λ (t : Stitch). label_in t.body n) (kept_stitches file v.stitches v.end)

-- the stitch's parts lie within the file
pub record StitchReady (file : List ℕ) (w : StitchView) : Type 0 where
  pub params : w.params ≤ length file
  pub marks : w.marks ≤ length file
  pub ordered : w.from ≤ w.to

-- the flows from the place on to the end lie within the file and can be read, and the kept numbers are theirs
pub record FlowsReady (file kept : List ℕ) (at end : ℕ) : Type 0 where
  pub ordered : at ≤ end
  pub within : end ≤ length file
  pub short : length file ≤ 1048576
  pub good : ends (flows (part at end file)) ≡ well
  pub own : FlowsKept file kept at end

-- 3. What the steps find

-- passes along the body
abbrev pub passes_found : List ℕ → List ℕ → Sections → ScopeView → List Pass → Option BreachAt
passes_found file kept c v ps = found_passes (known_in c file) (here_at file kept v) v.flow ps (kept_in file kept v.from v.to)

-- no rule of the passes is broken along the body
abbrev pub passes_clear : List ℕ → List ℕ → Sections → ScopeView → List Pass → Bool
passes_clear file kept c v ps = clear_along (known_in c file) (here_at file kept v) ps [] (kept_in file kept v.from v.to)

-- step 6, at these parameters
abbrev pub params_found : List ℕ → Sections → Here → ℕ → List Name → Option BreachAt
params_found file c h flow names = found_along (known_in c file) h flow (bracket s6) [] (param_items names)

-- step 12, at the stitch's name
abbrev pub stitch_name_found : List ℕ → Sections → Here → ℕ → ℕ → Option BreachAt
stitch_name_found file c h flow at =
    found_along (known_in c file) h flow (bracket s12) [] (name_item stitch_name at (record { at = at; bytes = name_at file at }) ∷ [])

-- steps 5 and 6
abbrev pub first_runs : Flow → List Run
first_runs f = over (knot f) (purity_items f.function f) (s5 ∷ []) ++ over (knot f) (param_items f.params) (s6 ∷ [])

-- steps 7 to 19
abbrev pub later_runs : Flow → List Run
later_runs f = over (knot f) f.body flow_steps ++ each (stitch_runs f) f.stitches ++ over (knot f) f.body (s19 ∷ [])
