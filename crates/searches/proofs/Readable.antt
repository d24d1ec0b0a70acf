-- Flows and stitches that can be read have a view, and their bodies and what follows them can be read too. Assumes nothing.
use Rattle.std.specs.Prelude.{Result, Option, Ok, Err, Some, None}
use Rattle.fields.specs.declared.Refusal.{Refusal}
use mathlib.Core.Path.{◌≡◌, refl, sym, ◌∙◌}
use mathlib.Core.List.{List, []}
use Prim.Native.Nat.{ℕ, ◌+◌}
use native.Mathlib.Omega.{arith}
use Rattle.fields.specs.Bytes.{Span, list_of}
use Rattle.records.specs.Trace.{well, ends}
use Rattle.records.specs.Grammar.{Reading, repeat, ending, nodes, piece}
use Rattle.story.specs.declared.Heading.{Heading}
use Rattle.story.specs.Headings.{heading_of}
use Rattle.story.specs.Flows.{part, titled, stitch, flow, flows, pieces_in, stitch_in, flow_in, flows_in, stitches}
use Rattle.story.proofs.Readable.{TitledWell, titled-well, titled-heading, piece-first, piece-rest, flow-titled}
use Rattle.story.proofs.Unfolding.{pieces-in-refused}
use Rattle.searches.specs.declared.views.StitchView.{StitchView}
use Rattle.searches.specs.declared.views.FlowView.{FlowView}
use Rattle.searches.specs.Views.{title_view_at, title_view_of, stitch_view_at, stitch_view_of, flagged_view, flow_view_at, flow_view_of}
use Rattle.searches.proofs.Parts.{part-drop, part-part, part-piece}
use Rattle.searches.proofs.Viewed.{places, heading-fits, part-fits, title-viewed, stitch-seen, flow-seen}

-- 1. What stands from a name on, where it can be read with k for what follows its nodes

module _ (file : List ℕ) (p e : ℕ) (k : Reading) (good : ends (titled k (part p e file)) ≡ well) where
  title-missing : title_view_of file p e ≡ None → ⊥
  unfolding title_view_of title_view_at
  title-missing q = by-heading (titled-heading k (part p e file) good)
    where
      by-heading : (h : Heading) × TitledWell k h (part p e file) → ⊥
      by-heading (h, w) = let z : ◌≡◌ {A = ℕ} 0 1 = cc w.told in omega arith

  -- the nodes can be read, and what follows them
  title-readable : (v : StitchView) → title_view_of file p e ≡ Some v
      → (ends (nodes (part v.from v.to file)) ≡ well) × (ends (k (part v.to v.end file)) ≡ well)
  unfolding title_view_of title_view_at
  title-readable v q = by-heading (heading_of (part p e file)) refl q
    where
      by-heading : (x : Result Heading Refusal) → x ≡ heading_of (part p e file) → title_view_at x p e ≡ Some v
          → (ends (nodes (part v.from v.to file)) ≡ well) × (ends (k (part v.to v.end file)) ≡ well)
      by-heading (Ok h) read q =
          let same : places h p e ≡ v = cc in
          let w = titled-well k (part p e file) good h read refl in
          rw (← same, ← part-part h.nodes h.end p e file w.laid.nodes (heading-fits file p e h (sym read)), ← part-drop h.end p e file) (w.nodes, w.rest)
      by-heading (Err x) read q = let z : ◌≡◌ {A = ℕ} 0 1 = cc in absurd (omega arith)

-- 2. Pieces: the first, and those after it

module _ (g : Reading) (file : List ℕ) (at end n : ℕ) (read : Span.Bytes n ≡ list_of (part at end file))
    (good : ends (repeat (piece g) (part at end file)) ≡ well) where
  piece-good : ends (g (part (at + 4) (at + (4 + n)) file)) ≡ well
  piece-good = rw (← part-piece n at end file (part-fits file at end n read)) (piece-first g (part at end file) good n read refl)

  pieces-good : ends (repeat (piece g) (part (at + (4 + n)) end file)) ≡ well
  pieces-good = rw (← part-drop (4 + n) at end file) (piece-rest g (part at end file) good n read refl)

-- 3. Stitches

-- the stitch's nodes can be read, and the stitches after it
pub record GoodStitch (file : List ℕ) (end : ℕ) (v : StitchView) : Type 0 where
  pub body : ends (nodes (part v.from v.to file)) ≡ well
  pub rest : ends (stitches (part v.end end file)) ≡ well

module _ (file : List ℕ) (at end : ℕ) (good : ends (stitches (part at end file)) ≡ well) {r : Option StitchView} (told : r ≡ stitch_view_of file at end) where
  -- where there is no view, no stitch is left
  pub no-stitch : r ≡ None → pieces_in stitch_in at (part at end file) ≡ []
  unfolding stitch_view_of stitch_view_at stitch
  no-stitch q = by_span (list_of (part at end file)) refl (sym told ∙ q)
    where
      by_span : (x : Span) → x ≡ list_of (part at end file) → stitch_view_at x file at ≡ None → pieces_in stitch_in at (part at end file) ≡ []
      by_span (Span.Bytes n) read q = absurd (title-missing file (at + 4) (at + (4 + n)) ending (piece-good stitch file at end n read good) q)
      by_span (Span.Refused x) read q = pieces-in-refused stitch_in at (part at end file) read refl

  pub stitch-readable : (v : StitchView) → r ≡ Some v → GoodStitch file end v
  unfolding stitch
  stitch-readable v q =
      let seen = stitch-seen file at end v told q in
      let t = title-viewed file (at + 4) (at + (4 + seen.n)) v seen.title in
      let own = title-readable file (at + 4) (at + (4 + seen.n)) ending (piece-good stitch file at end seen.n seen.length good) v seen.title in
      record { body = own.0; rest = rw t.end (pieces-good stitch file at end seen.n seen.length good) }

-- 4. Flows

-- the flow's nodes can be read, its stitches, and the flows after it
pub record GoodFlow (file : List ℕ) (end : ℕ) (v : FlowView) : Type 0 where
  pub body : ends (nodes (part v.from v.to file)) ≡ well
  pub own : ends (stitches (part v.stitches v.end file)) ≡ well
  pub rest : ends (flows (part v.end end file)) ≡ well

module _ (file : List ℕ) (at end : ℕ) (good : ends (flows (part at end file)) ≡ well) {r : Option FlowView} (told : r ≡ flow_view_of file at end) where
  own-good : (n : ℕ) → Span.Bytes n ≡ list_of (part at end file) → ends (titled stitches (part (at + 5) (at + (4 + n)) file)) ≡ well
  unfolding flows
  own-good n read =
      let one : at + 4 + 1 ≡ at + 5 = omega arith in
      let s = part (at + 4) (at + (4 + n)) file in
      rw (← one, ← part-drop 1 (at + 4) (at + (4 + n)) file) (flow-titled s (piece-good flow file at end n read good)).1

  -- where there is no view, no flow is left
  pub no_flow : r ≡ None → flows_in at (part at end file) ≡ []
  unfolding flow_view_of flow_view_at flagged_view flows_in
  no_flow q = by_span (list_of (part at end file)) refl (sym told ∙ q)
    where
      by-title : (n : ℕ) (x : Option StitchView) → Span.Bytes n ≡ list_of (part at end file) → x ≡ title_view_of file (at + 5) (at + (4 + n)) → flagged_view x file at ≡ None → ⊥
      by-title n (Some v) read title q = let z : ◌≡◌ {A = ℕ} 0 1 = cc in omega arith
      by-title n None read title q = title-missing file (at + 5) (at + (4 + n)) stitches (own-good n read) (sym title)

      by_span : (x : Span) → x ≡ list_of (part at end file) → flow_view_at x file at ≡ None → pieces_in flow_in at (part at end file) ≡ []
      by_span (Span.Bytes n) read q = absurd (by-title n (title_view_of file (at + 5) (at + (4 + n))) read refl q)
      by_span (Span.Refused x) read q = pieces-in-refused flow_in at (part at end file) read refl

  pub flow-readable : (v : FlowView) → r ≡ Some v → GoodFlow file end v
  unfolding flows
  flow-readable v q =
      let seen = flow-seen file at end v told q in
      let t = title-viewed file (at + 5) (at + (4 + seen.n)) seen.own seen.title in
      let own = title-readable file (at + 5) (at + (4 + seen.n)) stitches (own-good seen.n seen.length) seen.own seen.title in
      rw (← seen.places) (record { body = own.0; own = own.1; rest = rw t.end (pieces-good flow file at end seen.n seen.length good) })
