-- The root, a flow and a stitch, as the code has them, are those of the story: their names, their bodies, and that their parts lie within the file. Assumes nothing.
use mathlib.Core.Path.{◌≡◌, refl, sym}
use mathlib.Core.Bool.{Bool, true, false, not, ◌&&◌}
use mathlib.Core.List.{List}
use Prim.Native.Nat.{ℕ, ◌≤◌}
use native.Mathlib.Omega.{arith}
use lib.ListN.{length}
use lib.Seq.{drop-length}
use Rattle.names.specs.Words.{Bytes}
use Rattle.story.specs.declared.Sections.{Sections}
use Rattle.story.specs.Plain.{without_plain}
use Rattle.story.specs.Flows.{names_n, counted_in, part}
use Rattle.story.specs.File.{InOrder}
use Rattle.story.proofs.Readable.{readable}
use Rattle.searches.specs.Counted.{counted_at}
use Rattle.searches.specs.declared.views.FlowView.{FlowView}
use Rattle.searches.specs.declared.views.StitchView.{StitchView}
use Rattle.records.specs.Numbers.{between}
use Rattle.items.specs.Bodies.{items_at, kept_in, kept_story, kept_stitch, kept_flow, Kept}
use Rattle.items.specs.Runs.{number_before}
use Rattle.items.proofs.RisingPlaces.{number_fits, number-rises, run-by-numbers}
use Rattle.items.proofs.Kept.{kept-rising, root-plain}
use Rattle.rules.specs.Rules.{here, root, knot, stitch}
use Rattle.rules.proofs.Order.{same_here}
use Rattle.broken.specs.Scopes.{declared_in, here_in, ScopeReady, body_run}
use Rattle.steps.specs.Turns.{ScopeIs}
use Rattle.steps.specs.Scopes.{root_scope, knot_scope, stitch_scope, FlowReady, StitchReady}

-- 1. Names and numbers

-- nothing is declared in the knot and not declared there
never_both : (b : Bool) → false ≡ b && not b
never_both true = refl
never_both false = refl

-- no names stand at the file's end
none-counted : (file : List ℕ) (n : Bytes) → false ≡ counted_at file (length file) n
unfolding counted_in names_n
none-counted file n = rw (drop-length file)

-- the numbers of a run lie in order within the kept items
run_fits : (from to : ℕ) (kept : List ℕ) → from ≤ to → (number_before from kept ≤ number_before to kept) × (number_before to kept ≤ length kept)
run_fits from to kept h = (number-rises from to h kept, number_fits to kept)

-- the number found for a place is a start for a later place
pub start-onward : (from to : ℕ) (kept : List ℕ) {n : ℕ} → from ≤ to → n ≡ number_before from kept → n ≤ number_before to kept
start-onward from to kept h e = omega (arith, e, number-rises from to h kept)

-- a readable file's sections stand in order
pub kept-order : {file : List ℕ} {c : Sections} {kept : List ℕ} → Kept file c kept → InOrder c file
kept-order {file} {c} k = (readable file c refl k.read).order

-- 2. The root

module _ {file : List ℕ} {c : Sections} {kept : List ℕ} (k : Kept file c kept) where
  -- its run of items
  root-run : part (number_before c.root kept) (number_before c.flows kept) kept ≡ between c.root c.flows kept
  root-run = run-by-numbers c.root c.flows (kept-order k).root kept (kept-rising k)

  -- its names
  pub root_is : ScopeIs file kept c (root_scope file c kept) root
  unfolding here here_in without_plain
  root_is = record {
    names = same_here _ _
        (none-counted file)
        (none-counted file)
        (λ n. rw (root-run, root-plain k))
        (λ n. never_both (declared_in file kept (length file) (number_before c.root kept) (number_before c.flows kept) n))
        refl;
    flow = refl;
  }

  -- its items
  pub root-body : items_at file (body_run kept (root_scope file c kept)) ≡ (kept_story c file).root
  unfolding without_plain
  root-body = rw (root-run, root-plain k)

  -- its parts
  pub root-ready : ScopeReady file kept (root_scope file c kept)
  root-ready =
      let run = run_fits c.root c.flows kept (kept-order k).root in
      record { params = omega arith; marks = omega arith; outer = omega arith; body = run; own = run; whole = run }

-- 3. A flow, and a stitch of it

module _ (file kept : List ℕ) (v : FlowView) (ready : FlowReady file kept v) where
  -- the body ends before the flow does
  pub body-within : v.to ≤ v.end
  body-within = omega (arith, ready.joined, ready.stitches.ordered)

  -- the run of its own items
  knot-run : part (number_before v.from kept) (number_before v.to kept) kept ≡ between v.from v.to kept
  knot-run = run-by-numbers v.from v.to ready.ordered kept ready.own.rising

  -- the run of its items and of its stitches'
  whole_run : part (number_before v.from kept) (number_before v.end kept) kept ≡ between v.from v.end kept
  whole_run = run-by-numbers v.from v.end (omega (arith, ready.ordered, body-within)) kept ready.own.rising

  -- the flow's names
  pub knot-is : (c : Sections) → ScopeIs file kept c (knot_scope file kept v) (knot (kept_flow file kept v))
  unfolding here here_in
  knot-is c = record {
    names = same_here _ _
        (λ n. refl)
        (λ n. refl)
        (λ n. rw whole_run (sym (ready.labels n)))
        (λ n. never_both (declared_in file kept v.params (number_before v.from kept) (number_before v.to kept) n))
        refl;
    flow = refl;
  }

  -- the flow's items
  pub knot-body : items_at file (body_run kept (knot_scope file kept v)) ≡ kept_in file kept v.from v.to
  knot-body = rw knot-run

  -- the flow's parts
  pub knot_ready : ScopeReady file kept (knot_scope file kept v)
  knot_ready =
      let run = run_fits v.from v.to kept ready.ordered in
      let whole = run_fits v.from v.end kept (omega (arith, ready.ordered, body-within)) in
      record { params = omega (arith, ready.params); marks = ready.marks; outer = omega (arith, ready.params); body = run; own = run; whole = whole }

  module _ (w : StitchView) (own : StitchReady file w) where
    -- the run of the stitch's items
    stitch-run : part (number_before w.from kept) (number_before w.to kept) kept ≡ between w.from w.to kept
    stitch-run = run-by-numbers w.from w.to own.ordered kept ready.own.rising

    -- the stitch's names
    pub stitch-is : (c : Sections) → ScopeIs file kept c (stitch_scope kept (knot_scope file kept v) w) (stitch (kept_flow file kept v) (kept_stitch file kept w))
    unfolding here here_in
    stitch-is c = record {
      names = same_here _ _ (λ n. refl) (λ n. refl) (λ n. rw whole_run (sym (ready.labels n))) (λ n. rw (knot-run, stitch-run)) refl;
      flow = refl;
    }

    -- the stitch's items
    pub stitch-body : items_at file (body_run kept (stitch_scope kept (knot_scope file kept v) w)) ≡ kept_in file kept w.from w.to
    stitch-body = rw stitch-run

    -- the stitch's parts
    pub stitch_ready : ScopeReady file kept (stitch_scope kept (knot_scope file kept v) w)
    stitch_ready =
        let run = run_fits w.from w.to kept own.ordered in
        record { params = own.params; marks = own.marks; outer = knot_ready.outer; body = run; own = knot_ready.own; whole = knot_ready.whole }
