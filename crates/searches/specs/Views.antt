-- Inner contract. Flows and stitches by the places of their parts in the file, and what they are to the rules. Assumes nothing.
use Rattle.fields.specs.declared.Refusal.{Refusal}
use Rattle.story.specs.declared.Heading.{Heading}
use Rattle.std.specs.Prelude.{ℕ, ◌+◌, List, get_or, drop, eqb, Result, Option, Ok, Err, Some, None}
use Rattle.fields.specs.Bytes.{Span, list_of}
use Rattle.names.specs.Counted.{name_at}
use Rattle.story.specs.Headings.{heading_of}
use Rattle.story.specs.Story.{Stitch, Flow}
use Rattle.records.specs.Items.{items_in}
use Rattle.story.specs.Flows.{counted_in, part, pieces_in, stitch_in}
use Rattle.searches.specs.declared.views.StitchView.{StitchView}
use Rattle.searches.specs.declared.views.FlowView.{FlowView}

-- the places that a heading gives, whose name stands at p
unfoldable pub title_view_at : Result Heading Refusal → ℕ → ℕ → Option StitchView
title_view_at (Ok h) p e = Some (record {
  name = p;
  params = p + h.params;
  marks = p + h.marks;
  from = p + h.nodes;
  to = p + h.end;
  end = e;
})
title_view_at (Err r) p e = None

-- the same, read in the file from p to e
unfoldable pub title_view_of : List ℕ → ℕ → ℕ → Option StitchView
title_view_of file p e = title_view_at (heading_of (part p e file)) p e

-- the stitch at the place, of this length
unfoldable pub stitch_view_at : Span → List ℕ → ℕ → Option StitchView
stitch_view_at (Span.Bytes n) file at = title_view_of file (at + 4) (at + (4 + n))
stitch_view_at (Span.Refused x) file at = None

-- the stitch at the place, of those to the end
unfoldable pub stitch_view_of : List ℕ → ℕ → ℕ → Option StitchView
stitch_view_of file at end = stitch_view_at (list_of (part at end file)) file at

-- what a flow has from its name on, with its flag, and its stitches after its nodes
unfoldable pub flagged_view : Option StitchView → List ℕ → ℕ → Option FlowView
flagged_view (Some v) file at = Some (record {
  at = at;
  function = eqb (get_or file (at + 4) 0) 1;
  name = v.name;
  params = v.params;
  marks = v.marks;
  from = v.from;
  to = v.to;
  stitches = v.to;
  end = v.end;
})
flagged_view None file at = None

-- the flow at the place, of this length
unfoldable pub flow_view_at : Span → List ℕ → ℕ → Option FlowView
flow_view_at (Span.Bytes n) file at = flagged_view (title_view_of file (at + 5) (at + (4 + n))) file at
flow_view_at (Span.Refused x) file at = None

-- the flow at the place, of those to the end
unfoldable pub flow_view_of : List ℕ → ℕ → ℕ → Option FlowView
flow_view_of file at end = flow_view_at (list_of (part at end file)) file at

-- the stitch of a view
abbrev pub viewed_stitch : List ℕ → StitchView → Stitch
viewed_stitch file v = record {
  name = record { at = v.name; bytes = name_at file v.name };
  params = counted_in v.params (drop v.params file);
  marks = counted_in v.marks (drop v.marks file);
  body = items_in v.from (part v.from v.to file);
}

-- the flow of a view
abbrev pub viewed_flow : List ℕ → FlowView → Flow
viewed_flow file v = record {
  at = v.at;
  function = v.function;
  name = record { at = v.name; bytes = name_at file v.name };
  params = counted_in v.params (drop v.params file);
  marks = counted_in v.marks (drop v.marks file);
  body = items_in v.from (part v.from v.to file);
  stitches = pieces_in stitch_in v.stitches (part v.stitches v.end file);
}
