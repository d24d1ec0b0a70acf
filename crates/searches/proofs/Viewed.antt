-- What the view of a flow or a stitch is to the rules. Assumes nothing.
use Rattle.std.specs.Prelude.{Result, Option, Ok, Err, Some, None}
use Rattle.std.specs.Result.{result_ok}
use Rattle.std.proofs.lemmas.Option.{none-some}
use mathlib.Core.Path.{◌≡◌, refl, sym, ◌∙◌}
use mathlib.Core.List.{List, ◌∷◌}
use Prim.Native.Nat.{ℕ, ◌+◌, ◌-◌, ◌≤◌, ◌<◌}
use native.Mathlib.Omega.{arith}
use lib.Dec.{eqb}
use lib.ListN.{get_or, take, drop, length-take}
use Rattle.fields.specs.declared.Refusal.{Refusal}
use Rattle.fields.specs.Bytes.{Span, list_of, name_of, span_reach}
use Rattle.fields.proofs.Laws.{list-fits, list-within, span_to, span-refused}
use Rattle.story.specs.declared.Heading.{Heading}
use Rattle.story.specs.Headings.{name_then, heading_of}
use Rattle.story.specs.Flows.{part, titled_at, titled_in, pieces_in, stitch_in, title_end, flow_in, flows_in}
use Rattle.story.proofs.Reaches.{heading-laid}
use Rattle.story.proofs.Unfolding.{pieces-in-step}
use Rattle.searches.specs.declared.views.StitchView.{StitchView}
use Rattle.searches.specs.declared.views.FlowView.{FlowView}
use Rattle.searches.specs.Views.{title_view_at, title_view_of, stitch_view_at, stitch_view_of, flagged_view, flow_view_at, flow_view_of, viewed_stitch, viewed_flow}
use Rattle.searches.proofs.Parts.{part-drop, part-part, part-piece, part_none, part-short, part-first, name-in-part, counted-in-part}

-- what `ok` makes of an answer
ok-there : {A : Type 0} {x : A} (r : Result A Refusal) → result_ok r ≡ Some x → r ≡ Ok x
ok-there (Ok y) e = cc
ok-there {x = x} (Err y) e = absurd (none-some x e)

ok-none : {A : Type 0} (r : Result A Refusal) → result_ok r ≡ None → (x : Refusal) × (r ≡ Err x)
ok-none (Ok y) e = absurd (none-some y (sym e))
ok-none (Err x) e = (x, refl)

-- 1. What stands from a name on to the end of its flow or stitch

-- the places that a heading gives
abbrev pub places : Heading → ℕ → ℕ → StitchView
places h p e = record { name = p; params = p + h.params; marks = p + h.marks; from = p + h.nodes; to = p + h.end; end = e }

-- the parts stand in this order
pub record ViewOrder (v : StitchView) : Type 0 where
  pub name : v.name < v.params
  pub params : v.params < v.marks
  pub marks : v.marks < v.from
  pub from : v.from ≤ v.to
  pub to : v.to ≤ v.end

-- a view of what stands at p and ends at e
pub record Titled (file : List ℕ) (p e : ℕ) (v : StitchView) : Type 0 where
  pub name : v.name ≡ p
  pub end : v.end ≡ e
  pub order : ViewOrder v
  pub nodes : p + title_end (heading_of (part p e file)) ≡ v.to
  pub stands : titled_in p (part p e file) ≡ viewed_stitch file v

module _ (file : List ℕ) (p e : ℕ) where
  pub heading-fits : (h : Heading) → heading_of (part p e file) ≡ Ok h → p + h.end ≤ e
  heading-fits h read =
      let laid = heading-laid (part p e file) h refl read in
      omega (arith, laid.some, laid.params, laid.marks, laid.nodes, laid.within, part-short p e file)

  heading-viewed : (h : Heading) → heading_of (part p e file) ≡ Ok h → Titled file p e (places h p e)
  unfolding titled_in titled_at title_end
  heading-viewed h read =
      let laid = heading-laid (part p e file) h refl read in
      let fits = heading-fits h read in
      record {
        name = refl;
        end = refl;
        order = record {
          name = omega (arith, laid.some);
          params = omega (arith, laid.params);
          marks = omega (arith, laid.marks);
          from = omega (arith, laid.nodes);
          to = fits;
        };
        nodes = rw read;
        stands =
            rw (
              read,
              name-in-part file p e (h.params - 1) laid.name-read,
              counted-in-part file p e (p + h.params) h.params laid.params-read,
              counted-in-part file p e (p + h.marks) h.marks laid.marks-read,
              part-part h.nodes h.end p e file laid.nodes fits,
            );
      }

  -- the places, as the code learns the heading
  module _ {r : Result Heading Refusal} (told : r ≡ heading_of (take (e - p) (drop p file))) {o : Option Heading} (ok : o ≡ result_ok r) where
    pub places-order : (h : Heading) → o ≡ Some h → ViewOrder (places h p e)
    unfolding part
    places-order h q = (heading-viewed h (sym told ∙ ok-there r (sym ok ∙ q))).order

    pub title-view-at : (h : Heading) → o ≡ Some h → Some (places h p e) ≡ title_view_of file p e
    unfolding title_view_of title_view_at part
    title-view-at h q = rw (← told, ok-there r (sym ok ∙ q))

    pub title-view-none : o ≡ None → None ≡ title_view_of file p e
    unfolding title_view_of title_view_at part
    title-view-none q = rw (← told, (ok-none r (sym ok ∙ q)).1)

  pub title-viewed : (v : StitchView) → title_view_of file p e ≡ Some v → Titled file p e v
  unfolding title_view_of title_view_at
  title-viewed v q = by-heading (heading_of (part p e file)) refl q
    where
      by-heading : (x : Result Heading Refusal) → x ≡ heading_of (part p e file) → title_view_at x p e ≡ Some v → Titled file p e v
      by-heading (Ok h) read q = let same : places h p e ≡ v = cc in rw (← same) (heading-viewed h (sym read))
      by-heading (Err x) read q = let z : ◌≡◌ {A = ℕ} 0 1 = cc in absurd (omega arith)

-- nothing stands in no bytes
pub title-none : (file : List ℕ) (p e : ℕ) → e ≤ p → None ≡ title_view_of file p e
unfolding title_view_of title_view_at heading_of name_of name_then
title-none file p e h = rw (part_none p e file h)

-- a piece ends within what it is read from
pub part-fits : (file : List ℕ) (at end n : ℕ) → Span.Bytes n ≡ list_of (part at end file) → at + (4 + n) ≤ end
unfolding part
part-fits file at end n told =
    omega (arith, list-fits (take (end - at) (drop at file)) n told refl, length-take (end - at) (drop at file))

-- the views, as the code learns how far a piece reaches
module _ (file : List ℕ) (at end : ℕ) {r : Result ℕ Refusal} (told : r ≡ span_reach 4 (list_of (take (end - at) (drop at file)))) {o : Option ℕ} (ok : o ≡ result_ok r) where
  pub piece-within : (to : ℕ) → o ≡ Some to → (4 ≤ to) × (at + to ≤ end)
  piece-within to q =
      omega (arith, list-within (take (end - at) (drop at file)) to told (ok-there r (sym ok ∙ q)), length-take (end - at) (drop at file))

  pub stitch-view-at : (to : ℕ) → o ≡ Some to → stitch_view_of file at end ≡ title_view_of file (at + 4) (at + to)
  unfolding stitch_view_of stitch_view_at part
  stitch-view-at to q =
      let h = span_to 4 (list_of (take (end - at) (drop at file))) told to (ok-there r (sym ok ∙ q)) in
      rw (h.0, h.1)

  pub flow-view-at : (to : ℕ) → o ≡ Some to → flow_view_of file at end ≡ flagged_view (title_view_of file (at + 5) (at + to)) file at
  unfolding flow_view_of flow_view_at part
  flow-view-at to q =
      let h = span_to 4 (list_of (take (end - at) (drop at file))) told to (ok-there r (sym ok ∙ q)) in
      rw (h.0, h.1)

  module _ (q : o ≡ None) where
    pub stitch-view-none : None ≡ stitch_view_of file at end
    unfolding stitch_view_of stitch_view_at part
    stitch-view-none = let x = ok-none r (sym ok ∙ q) in rw (span-refused 4 (list_of (take (end - at) (drop at file))) told x.0 x.1)

    pub flow-view-none : None ≡ flow_view_of file at end
    unfolding flow_view_of flow_view_at part
    flow-view-none = let x = ok-none r (sym ok ∙ q) in rw (span-refused 4 (list_of (take (end - at) (drop at file))) told x.0 x.1)

-- 2. Stitches

-- a stitch was seen: its length, and what stands after it
pub record StitchSeen (file : List ℕ) (at end : ℕ) (v : StitchView) : Type 0 where
  pub n : ℕ
  pub length : Span.Bytes n ≡ list_of (part at end file)
  pub title : title_view_of file (at + 4) (at + (4 + n)) ≡ Some v

-- the stitch's parts stand in this order, within what it is read from
pub record StitchLaid (at end : ℕ) (v : StitchView) : Type 0 where
  pub after : at < v.name
  pub name : v.name < v.params
  pub params : v.params < v.marks
  pub marks : v.marks < v.from
  pub from : v.from ≤ v.to
  pub to : v.to ≤ v.end
  pub within : v.end ≤ end

stitch-first : (file : List ℕ) (at end n : ℕ) (v : StitchView) → Span.Bytes n ≡ list_of (part at end file) → title_view_of file (at + 4) (at + (4 + n)) ≡ Some v
    → pieces_in stitch_in at (part at end file) ≡ viewed_stitch file v ∷ pieces_in stitch_in v.end (part v.end end file)
unfolding stitch_in
stitch-first file at end n v read title =
    let t = title-viewed file (at + 4) (at + (4 + n)) v title in
    pieces-in-step stitch_in at n (part at end file) read refl
    ∙ rw (part-piece n at end file (part-fits file at end n read), part-drop (4 + n) at end file, t.stands, t.end)

module _ (file : List ℕ) (at end : ℕ) (v : StitchView) {r : Option StitchView} (told : r ≡ stitch_view_of file at end) (given : r ≡ Some v) where
  pub stitch-seen : StitchSeen file at end v
  unfolding stitch_view_of stitch_view_at
  stitch-seen = by_span (list_of (part at end file)) refl (sym told ∙ given)
    where
      by_span : (x : Span) → x ≡ list_of (part at end file) → stitch_view_at x file at ≡ Some v → StitchSeen file at end v
      by_span (Span.Bytes n) read q = record { n = n; length = read; title = q }
      by_span (Span.Refused x) read q = let z : ◌≡◌ {A = ℕ} 0 1 = cc in absurd (omega arith)

  pub stitch-viewed : pieces_in stitch_in at (part at end file) ≡ viewed_stitch file v ∷ pieces_in stitch_in v.end (part v.end end file)
  stitch-viewed = stitch-first file at end stitch-seen.n v stitch-seen.length stitch-seen.title

  pub stitch-laid : StitchLaid at end v
  stitch-laid =
      let n = stitch-seen.n in
      let t = title-viewed file (at + 4) (at + (4 + n)) v stitch-seen.title in
      let o = t.order in
      record {
        after = omega (arith, t.name);
        name = o.name;
        params = o.params;
        marks = o.marks;
        from = o.from;
        to = o.to;
        within = omega (arith, t.end, part-fits file at end n stitch-seen.length);
      }

-- 3. Flows

-- a flow's places: those from its name on, with its flag
abbrev pub flow_places : List ℕ → ℕ → StitchView → FlowView
flow_places file at v = record {
  at = at;
  function = eqb (get_or file (at + 4) 0) 1;
  name = v.name;
  params = v.params;
  marks = v.marks;
  from = v.from;
  to = v.to;
  stitches = v.to;
  end = v.end;
}

-- a flow was seen: its length, and what stands after its flag
pub record FlowSeen (file : List ℕ) (at end : ℕ) (v : FlowView) : Type 0 where
  pub n : ℕ
  pub length : Span.Bytes n ≡ list_of (part at end file)
  pub own : StitchView
  pub title : title_view_of file (at + 5) (at + (4 + n)) ≡ Some own
  pub places : flow_places file at own ≡ v

-- the flow's parts stand in this order, within what it is read from
pub record FlowLaid (at end : ℕ) (v : FlowView) : Type 0 where
  pub first : v.at ≡ at
  pub after : at < v.name
  pub name : v.name < v.params
  pub params : v.params < v.marks
  pub marks : v.marks < v.from
  pub from : v.from ≤ v.to
  pub to : v.to ≡ v.stitches
  pub stitches : v.stitches ≤ v.end
  pub within : v.end ≤ end

flow-stands : (file : List ℕ) (at e : ℕ) (v : StitchView) → Titled file (at + 5) e v → flow_in at (part (at + 4) e file) ≡ viewed_flow file (flow_places file at v)
unfolding flow_in
flow-stands file at e v t =
    let one : at + 4 + 1 ≡ at + 5 = omega arith in
    let rest = title_end (heading_of (part (at + 5) e file)) in
    let from : at + 4 + (1 + rest) ≡ v.to = omega (arith, t.nodes) in
    let place : at + (5 + rest) ≡ v.to = omega (arith, t.nodes) in
    let o = t.order in
    let after : at + 4 < e = omega (arith, t.name, t.end) in
    rw (part-drop 1 (at + 4) e file, one, part-drop (1 + rest) (at + 4) e file, from, place, part-first (at + 4) e file after, t.stands, t.end)

flow-first : (file : List ℕ) (at end n : ℕ) (own : StitchView) (v : FlowView) → Span.Bytes n ≡ list_of (part at end file)
    → title_view_of file (at + 5) (at + (4 + n)) ≡ Some own → flow_places file at own ≡ v
    → flows_in at (part at end file) ≡ viewed_flow file v ∷ flows_in v.end (part v.end end file)
unfolding flows_in
flow-first file at end n own v read title same =
    let t = title-viewed file (at + 5) (at + (4 + n)) own title in
    pieces-in-step flow_in at n (part at end file) read refl
    ∙ rw (part-piece n at end file (part-fits file at end n read), part-drop (4 + n) at end file, flow-stands file at (at + (4 + n)) own t, ← same, t.end)

module _ (file : List ℕ) (at end : ℕ) (v : FlowView) {r : Option FlowView} (told : r ≡ flow_view_of file at end) (given : r ≡ Some v) where
  pub flow-seen : FlowSeen file at end v
  unfolding flow_view_of flow_view_at flagged_view
  flow-seen = by_span (list_of (part at end file)) refl (sym told ∙ given)
    where
      by-title : (n : ℕ) (x : Option StitchView) → Span.Bytes n ≡ list_of (part at end file) → x ≡ title_view_of file (at + 5) (at + (4 + n)) → flagged_view x file at ≡ Some v
          → FlowSeen file at end v
      by-title n (Some w) read title q = record { n = n; length = read; own = w; title = sym title; places = cc }
      by-title n None read title q = let z : ◌≡◌ {A = ℕ} 0 1 = cc in absurd (omega arith)

      by_span : (x : Span) → x ≡ list_of (part at end file) → flow_view_at x file at ≡ Some v → FlowSeen file at end v
      by_span (Span.Bytes n) read q = by-title n (title_view_of file (at + 5) (at + (4 + n))) read refl q
      by_span (Span.Refused x) read q = let z : ◌≡◌ {A = ℕ} 0 1 = cc in absurd (omega arith)

  pub flow-viewed : flows_in at (part at end file) ≡ viewed_flow file v ∷ flows_in v.end (part v.end end file)
  flow-viewed = flow-first file at end flow-seen.n flow-seen.own v flow-seen.length flow-seen.title flow-seen.places

  pub flow-laid : FlowLaid at end v
  flow-laid =
      let n = flow-seen.n in
      let t = title-viewed file (at + 5) (at + (4 + n)) flow-seen.own flow-seen.title in
      let o = t.order in
      rw (← flow-seen.places)
      (record {
        first = refl;
        after = omega (arith, t.name);
        name = o.name;
        params = o.params;
        marks = o.marks;
        from = o.from;
        to = refl;
        stitches = o.to;
        within = omega (arith, t.end, part-fits file at end n flow-seen.length);
      })
