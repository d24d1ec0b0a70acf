-- Inner contract. The root, a flow and a stitch, as the code has them while steps run there, and what holds of them. Assumes nothing.
use Rattle.std.specs.Prelude.{ℕ, ◌≤◌, ◌<◌, ◌≡◌, false, ◌||◌, List, map, length}
use Rattle.names.specs.Words.{Bytes, any}
use Rattle.records.specs.Trace.{well, ends}
use Rattle.story.specs.declared.Sections.{Sections}
use Rattle.story.specs.Story.{Stitch, Flow}
use Rattle.story.specs.Flows.{part, flows, flows_in}
use Rattle.story.specs.Plain.{flow_without_plain}
use Rattle.searches.specs.declared.views.FlowView.{FlowView}
use Rattle.searches.specs.declared.views.StitchView.{StitchView}
use Rattle.items.specs.Bodies.{kept_in, kept_stitches, StitchesKept, FlowsKept}
use Rattle.items.specs.Runs.{number_before}
use Rattle.items.specs.Search.{label_in}
use Rattle.items.specs.Stitches.{has_stitches, StitchesReady}
use Rattle.symbols.specs.Numbers.{absent}
use Rattle.broken.specs.declared.Scope.{Scope}

-- 1. The root, a flow, a stitch of a flow

-- the root, which is its own knot, without name and parameters
abbrev pub root_scope : List ℕ → Sections → List ℕ → Scope
root_scope file c kept = record {
  flow = absent;
  params = length file;
  marks = length file;
  first = number_before c.root kept;
  last = number_before c.flows kept;
  outer = length file;
  knot = number_before c.root kept;
  own = number_before c.flows kept;
  end = number_before c.flows kept;
  stitched = false;
}

-- a flow, which is its own knot
abbrev pub knot_scope : List ℕ → List ℕ → FlowView → Scope
knot_scope file kept v = record {
  flow = v.name;
  params = v.params;
  marks = v.marks;
  first = number_before v.from kept;
  last = number_before v.to kept;
  outer = v.params;
  knot = number_before v.from kept;
  own = number_before v.to kept;
  end = number_before v.end kept;
  stitched = has_stitches file v.stitches v.end;
}

-- a stitch of a knot
abbrev pub stitch_scope : List ℕ → Scope → StitchView → Scope
stitch_scope kept s w = record {
  flow = s.flow;
  params = w.params;
  marks = w.marks;
  first = number_before w.from kept;
  last = number_before w.to kept;
  outer = s.outer;
  knot = s.knot;
  own = s.own;
  end = s.end;
  stitched = false;
}

-- 2. What holds of them

-- the flow's parts lie within the file, its body ends where its stitches begin, they can be read, and the kept numbers are theirs: those of
-- the whole flow have the labels of its body and of its stitches
pub record FlowReady (file kept : List ℕ) (v : FlowView) : Type 0 where
  pub params : v.params < length file
  pub marks : v.marks ≤ length file
  pub ordered : v.from ≤ v.to
  pub joined : v.to ≡ v.stitches
  pub stitches : StitchesReady file v.stitches v.end
  pub own : StitchesKept file kept v.stitches v.end
  pub labels : (n : Bytes) → label_in (kept_in file kept v.from v.end) n
      ≡ label_in (kept_in file kept v.from v.to) n || any (λ (t : Stitch). label_in t.body n) (kept_stitches file v.stitches v.end)

-- the stitch's parts lie within the file
pub record StitchReady (file : List ℕ) (w : StitchView) : Type 0 where
  pub params : w.params ≤ length file
  pub marks : w.marks ≤ length file
  pub ordered : w.from ≤ w.to

-- the flows from the place on to the end, without their plain items
abbrev pub kept_flows : List ℕ → ℕ → ℕ → List Flow
kept_flows file at end = map flow_without_plain (flows_in at (part at end file))

-- the flows from the place on to the end lie within the file and can be read, and the kept numbers are theirs
pub record FlowsReady (file kept : List ℕ) (at end : ℕ) : Type 0 where
  pub ordered : at ≤ end
  pub within : end ≤ length file
  pub short : length file ≤ 1048576
  pub good : ends (flows (part at end file)) ≡ well
  pub own : FlowsKept file kept at end
