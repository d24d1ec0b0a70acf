-- The names of the root, a flow and a stitch are those at their places, and their parts lie within the file. Assumes nothing.
use Rattle.std.specs.Prelude.{Option, Some, None}
use mathlib.Core.Path.{◌≡◌, refl, sym, ap}
use mathlib.Core.Bool.{Bool, true, false, not, ◌&&◌}
use mathlib.Core.List.{List, [], ◌∷◌, map}
use Prim.Native.Nat.{ℕ, ◌-◌, ◌<◌}
use native.Mathlib.Omega.{arith}
use lib.ListN.{length}
use lib.Seq.{drop-length}
use Rattle.names.specs.Words.{Bytes}
use Rattle.names.proofs.Any.{any-map}
use Rattle.story.specs.declared.Sections.{Sections}
use Rattle.story.specs.Story.{Stitch}
use Rattle.story.specs.Plain.{stitch_without_plain, flow_without_plain, without_plain}
use Rattle.story.specs.Flows.{names_n, counted_in, part, pieces_in, stitch_in}
use Rattle.story.specs.File.{InOrder}
use Rattle.story.proofs.Unfolding.{pieces-in-none}
use Rattle.story.proofs.Readable.{readable}
use Rattle.searches.specs.declared.views.FlowView.{FlowView}
use Rattle.searches.specs.declared.views.StitchView.{StitchView}
use Rattle.searches.specs.Counted.{counted_at}
use Rattle.searches.specs.Views.{flow_view_of, stitch_view_of}
use Rattle.searches.proofs.Parts.{part_none}
use Rattle.searches.proofs.Viewed.{FlowLaid, flow-laid, stitch-laid}
use Rattle.searches.proofs.Readable.{flow-readable, no_flow}
use Rattle.items.specs.Bodies.{kept_story, kept_stitch, kept_stitches, kept_flow, Kept, StitchesKept}
use Rattle.items.specs.Runs.{numbers_from}
use Rattle.items.specs.Stitches.{StitchesReady}
use Rattle.items.proofs.Kept.{kept-rising, kept-flows, root-plain, flow-stitches, flow-rest, flows-plain, flow-labels, stitch-rest, stitches-plain, flows-from}
use Rattle.rules.specs.Rules.{here, root, knot, stitch}
use Rattle.rules.proofs.Order.{same_here}
use Rattle.checks.specs.Context.{declared_at, here_at, ScopeReady}
use Rattle.context.specs.Scopes.{root_view, knot_view, stitch_view, kept_flows, FlowReady, StitchReady, FlowsReady}

-- 1. The same names

-- nothing is declared in the knot and not declared there
never_both : (b : Bool) → false ≡ b && not b
never_both true = refl
never_both false = refl

-- no names stand at the file's end
none-counted : (file : List ℕ) (n : Bytes) → false ≡ counted_at file (length file) n
unfolding counted_in names_n
none-counted file n = rw (drop-length file)

-- no stitches stand between a place and itself
none_between : (file : List ℕ) (at : ℕ) → pieces_in stitch_in at (part at at file) ≡ []
none_between file at = rw (part_none at at file (omega arith)) (pieces-in-none stitch_in at [] (omega arith))

pub root-here : {file : List ℕ} {c : Sections} {kept : List ℕ} → Kept file c kept → here (kept_story c file) root ≡ here_at file kept (root_view c (length file))
unfolding here here_at without_plain
root-here {file} {c} {kept} k = same_here _ _
    (none-counted file)
    (none-counted file)
    (λ n. rw (root-plain k))
    (λ n. never_both (declared_at file kept (length file) c.root c.flows n))
    (rw (none_between file c.flows))

module _ (file kept : List ℕ) (c : Sections) (v : FlowView) (ready : FlowReady file kept v) where
  pub knot-here : here (kept_story c file) (knot (kept_flow file kept v)) ≡ here_at file kept (knot_view v)
  unfolding here here_at
  knot-here = same_here _ _
      (λ n. refl)
      (λ n. refl)
      (λ n. sym (ready.labels n))
      (λ n. rw ready.joined (never_both (declared_at file kept v.params v.from v.stitches n)))
      (any-map (λ (t : Stitch). true) stitch_without_plain (pieces_in stitch_in v.stitches (part v.stitches v.end file)))

  pub stitch-here : (w : StitchView) → here (kept_story c file) (stitch (kept_flow file kept v) (kept_stitch file kept w)) ≡ here_at file kept (stitch_view v w)
  unfolding here here_at
  stitch-here w = same_here _ _ (λ n. refl) (λ n. refl) (λ n. sym (ready.labels n)) (λ n. rw ready.joined) refl

-- 2. The parts lie within the file

pub root-ready : {file : List ℕ} {c : Sections} {kept : List ℕ} → Kept file c kept → InOrder c file → ScopeReady file kept (root_view c (length file))
root-ready k order = record {
  params = omega arith;
  marks = omega arith;
  outer = omega arith;
  ordered = order.root;
  rising = kept-rising k;
}

module _ (file kept : List ℕ) (v : FlowView) (ready : FlowReady file kept v) where
  pub knot_ready : ScopeReady file kept (knot_view v)
  knot_ready = record {
    params = omega (arith, ready.params);
    marks = ready.marks;
    outer = omega (arith, ready.params);
    ordered = ready.ordered;
    rising = ready.own.rising;
  }

  pub stitch_ready : (w : StitchView) → StitchReady file w → ScopeReady file kept (stitch_view v w)
  stitch_ready w own = record {
    params = own.params;
    marks = own.marks;
    outer = omega (arith, ready.params);
    ordered = own.ordered;
    rising = ready.own.rising;
  }

-- 3. A flow or a stitch that is seen

module _ (file kept : List ℕ) (at end : ℕ) (ready : FlowsReady file kept at end) {r : Option FlowView} (told : r ≡ flow_view_of file at end) where
  pub flows-none : r ≡ None → kept_flows file at end ≡ []
  flows-none q = ap (map flow_without_plain) (no_flow file at end ready.good told q)

  module _ (v : FlowView) (q : r ≡ Some v) where
    flow-order : FlowLaid at end v
    flow-order = flow-laid file at end v told q

    pub flows-first : kept_flows file at end ≡ kept_flow file kept v ∷ kept_flows file v.end end
    flows-first = flows-plain file kept at end ready.ordered ready.within ready.short ready.good ready.own v told q

    pub flow-seen-ready : FlowReady file kept v
    flow-seen-ready =
        let o = flow-order in
        record {
          params = omega (arith, o, ready);
          marks = omega (arith, o, ready);
          ordered = o.from;
          joined = o.to;
          stitches = record {
            ordered = o.stitches;
            within = omega (arith, o, ready);
            short = ready.short;
            good = (flow-readable file at end ready.good told v q).own;
          };
          own = flow-stitches file kept at end ready.ordered ready.within ready.short ready.good ready.own v told q;
          labels = flow-labels file kept at end ready.ordered ready.within ready.short ready.good ready.own v told q;
        }

    pub flows-after : FlowsReady file kept v.end end
    flows-after = record {
      ordered = flow-order.within;
      within = ready.within;
      short = ready.short;
      good = (flow-readable file at end ready.good told v q).rest;
      own = flow-rest file kept at end ready.ordered ready.within ready.short ready.good ready.own v told q;
    }

    pub flows-fewer : end - v.end < end - at
    flows-fewer = let o = flow-order in omega arith

-- for the flows from a place on, the numbers from that place on will do
pub flows-ready-from : {file kept rest : List ℕ} {at end : ℕ} → rest ≡ numbers_from at kept → FlowsReady file kept at end → FlowsReady file rest at end
flows-ready-from q ready = record {
  ordered = ready.ordered;
  within = ready.within;
  short = ready.short;
  good = ready.good;
  own = flows-from q ready.own;
}

module _ (file : List ℕ) (at end : ℕ) (ready : StitchesReady file at end) {r : Option StitchView} (told : r ≡ stitch_view_of file at end) where
  module _ (w : StitchView) (q : r ≡ Some w) where
    pub stitch-seen-ready : StitchReady file w
    stitch-seen-ready =
        let o = stitch-laid file at end w told q in
        record { params = omega (arith, o, ready); marks = omega (arith, o, ready); ordered = o.from }

    -- the kept numbers have it first, and then those after it
    module _ {kept : List ℕ} (own : StitchesKept file kept at end) where
      pub stitches-first : kept_stitches file at end ≡ kept_stitch file kept w ∷ kept_stitches file w.end end
      stitches-first = stitches-plain file kept at end ready.ordered ready.within ready.short ready.good own w told q

      pub stitches-rest : StitchesKept file kept w.end end
      stitches-rest = stitch-rest file kept at end ready.ordered ready.within ready.short ready.good own w told q

-- a readable file's flows
pub readable_flows : {file : List ℕ} {c : Sections} {kept : List ℕ} → Kept file c kept → FlowsReady file kept c.flows c.end
readable_flows {file} {c} k =
    let good = readable file c refl k.read in
    record { ordered = good.order.flows; within = omega (arith, good.order.trailer); short = good.order.short; good = good.flows; own = kept-flows k }
