-- A flow or a stitch that is seen at a place, and those after it. Assumes nothing.
use Rattle.std.specs.Prelude.{Option, Some, None}
use mathlib.Core.Path.{◌≡◌, refl, ap}
use mathlib.Core.List.{List, [], ◌∷◌, map}
use Prim.Native.Nat.{ℕ, ◌-◌, ◌≤◌, ◌<◌}
use native.Mathlib.Omega.{arith}
use Rattle.story.specs.declared.Sections.{Sections}
use Rattle.story.specs.Plain.{flow_without_plain, without_plain}
use Rattle.story.specs.File.{story_in}
use Rattle.story.proofs.Readable.{readable}
use Rattle.searches.specs.declared.views.FlowView.{FlowView}
use Rattle.searches.specs.declared.views.StitchView.{StitchView}
use Rattle.searches.specs.Views.{flow_view_of, stitch_view_of}
use Rattle.searches.proofs.Viewed.{FlowLaid, flow-laid, StitchLaid, stitch-laid}
use Rattle.searches.proofs.Readable.{flow-readable, no_flow}
use Rattle.items.specs.Bodies.{kept_story, kept_stitch, kept_stitches, kept_flow, Kept, StitchesKept}
use Rattle.items.specs.Runs.{number_before}
use Rattle.items.specs.Stitches.{StitchesReady}
use Rattle.items.proofs.RisingPlaces.{number-rises}
use Rattle.items.proofs.Kept.{kept-flows, flow-stitches, flow-rest, flows-plain, flow-labels, stitch-rest, stitches-plain}
use Rattle.steps.specs.Scopes.{FlowReady, StitchReady, kept_flows, FlowsReady}

module _ (file kept : List ℕ) (at end : ℕ) (ready : FlowsReady file kept at end) {r : Option FlowView} (told : r ≡ flow_view_of file at end) where
  -- no flow is left
  pub flows-none : r ≡ None → kept_flows file at end ≡ []
  flows-none q = ap (map flow_without_plain) (no_flow file at end ready.good told q)

  module _ (v : FlowView) (q : r ≡ Some v) where
    -- its parts stand in order
    flow-order : FlowLaid at end v
    flow-order = flow-laid file at end v told q

    -- it is the first, and then those after it
    pub flows-first : kept_flows file at end ≡ kept_flow file kept v ∷ kept_flows file v.end end
    flows-first = flows-plain file kept at end ready.ordered ready.within ready.short ready.good ready.own v told q

    -- it is ready for its steps
    pub flow-seen-ready : FlowReady file kept v
    flow-seen-ready =
        let o = flow-order in
        record {
          params = omega (arith, o, ready);
          marks = omega (arith, o, ready);
          ordered = o.from;
          joined = o.to;
          stitches = record {
            ordered = o.stitches;
            within = omega (arith, o, ready);
            short = ready.short;
            good = (flow-readable file at end ready.good told v q).own;
          };
          own = flow-stitches file kept at end ready.ordered ready.within ready.short ready.good ready.own v told q;
          labels = flow-labels file kept at end ready.ordered ready.within ready.short ready.good ready.own v told q;
        }

    -- the flows after it
    pub flows-after : FlowsReady file kept v.end end
    flows-after = record {
      ordered = flow-order.within;
      within = ready.within;
      short = ready.short;
      good = (flow-readable file at end ready.good told v q).rest;
      own = flow-rest file kept at end ready.ordered ready.within ready.short ready.good ready.own v told q;
    }

    -- the items that stand before the place stand before its body
    pub flow-number : {start : ℕ} → start ≤ number_before at kept → start ≤ number_before v.from kept
    flow-number h = omega (arith, h, number-rises at v.from (omega (arith, flow-order)) kept)

    -- fewer bytes are left
    pub flows-fewer : end - v.end < end - at
    flows-fewer = let o = flow-order in omega arith

module _ (file : List ℕ) (at end : ℕ) (ready : StitchesReady file at end) {r : Option StitchView} (told : r ≡ stitch_view_of file at end) where
  module _ (w : StitchView) (q : r ≡ Some w) where
    -- its parts stand in order
    stitch-order : StitchLaid at end w
    stitch-order = stitch-laid file at end w told q

    -- it is ready for its steps
    pub stitch-seen-ready : StitchReady file w
    stitch-seen-ready =
        let o = stitch-order in
        record { params = omega (arith, o, ready); marks = omega (arith, o, ready); ordered = o.from }

    -- the items that stand before the place stand before its body
    pub stitch-number : (kept : List ℕ) {start : ℕ} → start ≤ number_before at kept → start ≤ number_before w.from kept
    stitch-number kept h = omega (arith, h, number-rises at w.from (omega (arith, stitch-order)) kept)

    -- the items up to the end of its body stand before the stitches after it
    pub stitch-last : (kept : List ℕ) → number_before w.to kept ≤ number_before w.end kept
    stitch-last kept = number-rises w.to w.end stitch-order.to kept

    -- the kept numbers have it first, and then those after it
    module _ {kept : List ℕ} (own : StitchesKept file kept at end) where
      pub stitches-first : kept_stitches file at end ≡ kept_stitch file kept w ∷ kept_stitches file w.end end
      stitches-first = stitches-plain file kept at end ready.ordered ready.within ready.short ready.good own w told q

      pub stitches-rest : StitchesKept file kept w.end end
      stitches-rest = stitch-rest file kept at end ready.ordered ready.within ready.short ready.good own w told q

-- the items up to the end of a flow's body stand before its stitches
pub stitches-start : {file kept : List ℕ} {v : FlowView} → FlowReady file kept v → number_before v.to kept ≤ number_before v.stitches kept
stitches-start ready = rw ready.joined (omega arith)

-- the flows of the story are those from the place of the flows on
pub story-flows : (c : Sections) (file : List ℕ) → (kept_story c file).flows ≡ kept_flows file c.flows c.end
unfolding without_plain story_in
story-flows c file = refl

-- a readable file's flows
pub readable-flows : {file : List ℕ} {c : Sections} {kept : List ℕ} → Kept file c kept → FlowsReady file kept c.flows c.end
readable-flows {file} {c} k =
    let good = readable file c refl k.read in
    record { ordered = good.order.flows; within = omega (arith, good.order.trailer); short = good.order.short; good = good.flows; own = kept-flows k }
