-- The steps as run, by what the passes and the tests along them find. Assumes nothing.
use Rattle.std.specs.Prelude.{Option, Some, None}
use mathlib.Core.Path.{◌≡◌, refl, sym, ap, ◌∙◌}
use mathlib.Core.Bool.{Bool, true, false}
use mathlib.Core.List.{List, [], ◌∷◌, ◌++◌, append_assoc}
use Prim.Native.Nat.{ℕ}
use lib.ListN.{length}
use Rattle.fields.specs.Bytes.{pick}
use Rattle.names.specs.Words.{any, each}
use Rattle.story.specs.declared.Sections.{Sections}
use Rattle.records.specs.declared.sorts.Sort.TheVariants.{FlowStart as flow_start}
use Rattle.records.specs.Items.{Item}
use Rattle.story.specs.Story.{Stitch, Flow, Story}
use Rattle.story.specs.Plain.{without_plain}
use Rattle.story.specs.File.{story_in}
use Rattle.story.proofs.Plain.{story-unlabelled}
use Rattle.searches.specs.declared.views.FlowView.{FlowView}
use Rattle.searches.specs.declared.views.StitchView.{StitchView}
use Rattle.items.specs.Bodies.{kept_in, kept_story, kept_stitch, kept_stitches, kept_flow, Kept}
use Rattle.items.proofs.Kept.{root-plain}
use Rattle.rules.specs.declared.Rule.TheVariants.{FunctionWithStitches}
use Rattle.rules.specs.Rules.{Here, known, here, Scope, root, knot, stitch}
use Rattle.rules.specs.Steps.{Step, s5, s6, s12, s19, s20, bracket, gathers, root_steps, flow_steps, stitch_steps, Run, over, name_item, param_items, stitch_items, purity_items, stitch_runs, flow_runs, runs, verdict, names_of, flow_named}
use Rattle.rules.proofs.Plain.{verdict-plain}
use Rattle.checks.specs.Context.{known_in, here_at}
use Rattle.context.specs.declared.BreachAt.{BreachAt}
use Rattle.context.specs.Found.{breach_at, found_of, or_else, found_at, found_along, found_in, found_runs, rules_of, found_passes}
use Rattle.context.specs.declared.passes.TheConstants.{ROOT, FLOW, WHOLE_FLOW, STITCH, GATHERS, PURITY}
use Rattle.context.specs.Scopes.{root_view, knot_view, stitch_view, FlowReady, passes_found, passes_clear, params_found, stitch_name_found, first_runs, later_runs}
use Rattle.context.proofs.Verdict.{or-clear, both-clear, verdict-found, runs_append, runs-one}
use Rattle.context.proofs.Along.{root-along, purity-along}
use Rattle.context.proofs.Clear.{clear_passes}
use Rattle.context.proofs.Places.{root-here, knot-here, stitch-here}

-- 1. Some steps, then others

module _ (s : Story) (us vs : List Run) where
  pub runs-found : {b : BreachAt} → Some b ≡ found_runs s us → Some b ≡ found_runs s (us ++ vs)
  unfolding or_else
  runs-found e = rw (runs_append s us vs, ← e)

  pub runs-passed : None ≡ found_runs s us → {r : Option BreachAt} → r ≡ found_runs s vs → r ≡ found_runs s (us ++ vs)
  unfolding or_else
  runs-passed e g = rw (runs_append s us vs, ← e) g

-- steps between those that find nothing
runs-between : (s : Story) (us vs ws : List Run) → None ≡ found_runs s (us ++ ws) → {r : Option BreachAt} → r ≡ found_runs s vs → r ≡ found_runs s (us ++ vs ++ ws)
unfolding or_else
runs-between s us vs ws e g =
    let none = both-clear (found_runs s us) (found_runs s ws) (e ∙ runs_append s us ws) in
    rw (runs_append s (us ++ vs) ws, runs_append s us vs, none.0, none.1, or-clear (found_runs s vs)) g

-- the steps of one thing after the other
module _ {A : Type 0} (s : Story) (f : A → List Run) {ts : List A} where
  pub each_none : ts ≡ [] → None ≡ found_runs s (each f ts)
  unfolding found_runs
  each_none e = rw e

  module _ {t : A} {rest : List A} (e : ts ≡ t ∷ rest) where
    pub each-found : {b : BreachAt} → Some b ≡ found_runs s (f t) → Some b ≡ found_runs s (each f ts)
    each-found g = rw e (runs-found s (f t) (each f rest) g)

    pub each-passed : None ≡ found_runs s (f t) → found_runs s (each f ts) ≡ found_runs s (each f rest)
    unfolding or_else
    each-passed g = rw (e, runs_append s (f t) (each f rest), ← g)

-- 2. Passes are steps

module _ (s : Story) (scope : Scope) (items : List Item) where
  flow-passes : found_passes (known s) (here s scope) (flow_named scope) FLOW items ≡ found_runs s (over scope items flow_steps)
  unfolding found_passes rules_of found_runs found_in over
  flow-passes = refl

  stitch-passes : found_passes (known s) (here s scope) (flow_named scope) STITCH items ≡ found_runs s (over scope items stitch_steps)
  unfolding found_passes rules_of found_runs found_in over
  stitch-passes = refl

  -- steps 19 and 20
  gather-passes : (step : Step) → gathers ≡ bracket step → found_passes (known s) (here s scope) (flow_named scope) GATHERS items ≡ found_runs s (over scope items (step ∷ []))
  unfolding found_passes rules_of found_runs found_in over
  gather-passes step e = rw e

  -- steps 7 to 11 and 19
  body-passes : found_passes (known s) (here s scope) (flow_named scope) WHOLE_FLOW items ≡ found_runs s (over scope items flow_steps ++ over scope items (s19 ∷ []))
  unfolding found_passes rules_of found_runs found_in over
  body-passes = refl

  purity-passes : found_passes (known s) (here s scope) (flow_named scope) PURITY items ≡ found_runs s (over scope items (s5 ∷ []))
  unfolding found_passes rules_of found_runs found_in over
  purity-passes = refl

root-passes : (s : Story) (items : List Item) → found_passes (known s) (here s root) (flow_named root) ROOT items ≡ found_runs s (over root items root_steps)
unfolding found_passes rules_of found_runs found_in over
root-passes s items = rw (root-along s items)

-- 3. The root

-- its items are those of its run
root-items : {file : List ℕ} {c : Sections} {kept : List ℕ} → Kept file c kept → kept_in file kept c.root c.flows ≡ (kept_story c file).root
unfolding without_plain
root-items k = root-plain k

module _ {file : List ℕ} {c : Sections} {kept : List ℕ} (k : Kept file c kept) {r : Option BreachAt} where
  pub root-run : r ≡ passes_found file kept c (root_view c (length file)) ROOT → r ≡ found_runs (kept_story c file) (over root (kept_story c file).root root_steps)
  root-run e = e ∙ rw (← root-here k, root-items k) (root-passes (kept_story c file) (kept_story c file).root)

  pub root-gathers : r ≡ passes_found file kept c (root_view c (length file)) GATHERS → r ≡ found_runs (kept_story c file) (over root (kept_story c file).root (s20 ∷ []))
  root-gathers e = e ∙ rw (← root-here k, root-items k) (gather-passes (kept_story c file) root (kept_story c file).root s20 refl)

-- 4. A flow

module _ (file kept : List ℕ) (c : Sections) (v : FlowView) (ready : FlowReady file kept v) {r : Option BreachAt} where
  pub flow-run : r ≡ passes_found file kept c (knot_view v) FLOW → r ≡ found_runs (kept_story c file) (over (knot (kept_flow file kept v)) (kept_flow file kept v).body flow_steps)
  flow-run e = e ∙ rw (← knot-here file kept c v ready) (flow-passes (kept_story c file) (knot (kept_flow file kept v)) (kept_flow file kept v).body)

  pub flow-gathers : r ≡ passes_found file kept c (knot_view v) GATHERS → r ≡ found_runs (kept_story c file) (over (knot (kept_flow file kept v)) (kept_flow file kept v).body (s19 ∷ []))
  flow-gathers e = e ∙ rw (← knot-here file kept c v ready) (gather-passes (kept_story c file) (knot (kept_flow file kept v)) (kept_flow file kept v).body s19 refl)

  pub params-run : ((h : Here) → r ≡ params_found file c h v.name (kept_flow file kept v).params)
      → r ≡ found_runs (kept_story c file) (over (knot (kept_flow file kept v)) (param_items (kept_flow file kept v).params) (s6 ∷ []))
  unfolding found_in
  params-run e = e (here (kept_story c file) (knot (kept_flow file kept v))) ∙ sym (runs-one (kept_story c file) (knot (kept_flow file kept v)) (param_items (kept_flow file kept v).params) s6)

-- 5. Step 5: nothing of a flow that is no function; rule 12 where it has stitches; else what its body has

pure-items : (b : Bool) (f : Flow) → b ≡ true → purity_items b f ≡ name_item flow_start f.at f.name ∷ f.body
pure-items b f e = rw e

module _ (file kept : List ℕ) (c : Sections) (v : FlowView) (ready : FlowReady file kept v) where
  pub purity_skipped : v.function ≡ false → None ≡ found_runs (kept_story c file) (over (knot (kept_flow file kept v)) (purity_items v.function (kept_flow file kept v)) (s5 ∷ []))
  unfolding found_runs found_in found_along over or_else
  purity_skipped f = rw f

  -- the flow itself, then its body
  purity-run : v.function ≡ true
      → found_runs (kept_story c file) (over (knot (kept_flow file kept v)) (purity_items v.function (kept_flow file kept v)) (s5 ∷ []))
      ≡ or_else (found_at (pick (any (λ (t : Stitch). true) (kept_flow file kept v).stitches) (Some FunctionWithStitches) None) v.name (name_item flow_start v.at (kept_flow file kept v).name))
      (found_runs (kept_story c file) (over (knot (kept_flow file kept v)) (kept_flow file kept v).body (s5 ∷ [])))
  purity-run f =
      rw (pure-items v.function (kept_flow file kept v) f, runs-one (kept_story c file) (knot (kept_flow file kept v)) (name_item flow_start v.at (kept_flow file kept v).name ∷ (kept_flow file kept v).body) s5, runs-one (kept_story c file) (knot (kept_flow file kept v)) (kept_flow file kept v).body s5)
      (purity-along (kept_story c file) (knot (kept_flow file kept v)) v.at (kept_flow file kept v).name (kept_flow file kept v).body)

  module _ (f : v.function ≡ true) {t : Bool} (e : t ≡ any (λ (t : Stitch). true) (kept_stitches file v.stitches v.end)) where
    pub purity_stitched : t ≡ true → {b : BreachAt} → b ≡ breach_at FunctionWithStitches v.at (names_of FunctionWithStitches v.name v.name)
        → Some b ≡ found_runs (kept_story c file) (over (knot (kept_flow file kept v)) (purity_items v.function (kept_flow file kept v)) (s5 ∷ []))
    unfolding or_else found_at
    purity_stitched g k = sym (purity-run f ∙ rw (← e, g, ← k))

    pub purity_body : t ≡ false → {r : Option BreachAt} → r ≡ passes_found file kept c (knot_view v) PURITY
        → r ≡ found_runs (kept_story c file) (over (knot (kept_flow file kept v)) (purity_items v.function (kept_flow file kept v)) (s5 ∷ []))
    unfolding or_else found_at
    purity_body g k =
        sym (purity-run f ∙ rw (← e, g) (sym (k ∙ rw (← knot-here file kept c v ready) (purity-passes (kept_story c file) (knot (kept_flow file kept v)) (kept_flow file kept v).body))))

-- 6. A stitch

module _ (file kept : List ℕ) (c : Sections) (v : FlowView) (ready : FlowReady file kept v) (w : StitchView) where
  pub name-run : {r : Option BreachAt} → ((h : Here) → r ≡ stitch_name_found file c h v.name w.name)
      → r ≡ found_runs (kept_story c file) (over (stitch (kept_flow file kept v) (kept_stitch file kept w)) (stitch_items (kept_stitch file kept w)) (s12 ∷ []))
  unfolding found_in
  name-run e =
      e (here (kept_story c file) (stitch (kept_flow file kept v) (kept_stitch file kept w)))
      ∙ sym (runs-one (kept_story c file) (stitch (kept_flow file kept v) (kept_stitch file kept w)) (stitch_items (kept_stitch file kept w)) s12)

  pub stitch-run : {r : Option BreachAt} → r ≡ passes_found file kept c (stitch_view v w) STITCH
      → r ≡ found_runs (kept_story c file) (over (stitch (kept_flow file kept v) (kept_stitch file kept w)) (kept_stitch file kept w).body stitch_steps)
  stitch-run e =
      e ∙ rw (← stitch-here file kept c v ready w) (stitch-passes (kept_story c file) (stitch (kept_flow file kept v) (kept_stitch file kept w)) (kept_stitch file kept w).body)

-- 7. Whole flows, and the story

pub flow-runs : (f : Flow) → flow_runs f ≡ first_runs f ++ later_runs f
unfolding flow_runs
flow-runs f =
    let body = over (knot f) f.body flow_steps in
    let stitches = each (stitch_runs f) f.stitches in
    let gathered = over (knot f) f.body (s19 ∷ []) in
    ap (λ (l : List Run). l ++ gathered) (append_assoc (first_runs f) body stitches) ∙ append_assoc (first_runs f) (body ++ stitches) gathered

-- steps 5 and 6, by what step 5 finds
module _ (file kept : List ℕ) (c : Sections) (v : FlowView) (ready : FlowReady file kept v) where
  pub purity_found : {b : BreachAt} → Some b ≡ found_runs (kept_story c file) (over (knot (kept_flow file kept v)) (purity_items v.function (kept_flow file kept v)) (s5 ∷ []))
      → Some b ≡ found_runs (kept_story c file) (first_runs (kept_flow file kept v))
  purity_found e =
      let f = kept_flow file kept v in
      runs-found (kept_story c file) (over (knot f) (purity_items f.function f) (s5 ∷ [])) (over (knot f) (param_items f.params) (s6 ∷ [])) e

  pub purity_passed : None ≡ found_runs (kept_story c file) (over (knot (kept_flow file kept v)) (purity_items v.function (kept_flow file kept v)) (s5 ∷ []))
      → {r : Option BreachAt} → ((h : Here) → r ≡ params_found file c h v.name (kept_flow file kept v).params)
      → r ≡ found_runs (kept_story c file) (first_runs (kept_flow file kept v))
  purity_passed e k =
      let f = kept_flow file kept v in
      let params = params-run file kept c v ready k in
      runs-passed (kept_story c file) (over (knot f) (purity_items f.function f) (s5 ∷ [])) (over (knot f) (param_items f.params) (s6 ∷ [])) e params

-- all steps of a flow, by what steps 5 and 6 find
module _ (file kept : List ℕ) (c : Sections) (v : FlowView) where
  pub first_found : {b : BreachAt} → Some b ≡ found_runs (kept_story c file) (first_runs (kept_flow file kept v)) → Some b ≡ found_runs (kept_story c file) (flow_runs (kept_flow file kept v))
  first_found e = rw (flow-runs (kept_flow file kept v)) (runs-found (kept_story c file) (first_runs (kept_flow file kept v)) (later_runs (kept_flow file kept v)) e)

  pub first_passed : None ≡ found_runs (kept_story c file) (first_runs (kept_flow file kept v)) → {r : Option BreachAt} → r ≡ found_runs (kept_story c file) (later_runs (kept_flow file kept v))
      → r ≡ found_runs (kept_story c file) (flow_runs (kept_flow file kept v))
  first_passed e k = rw (flow-runs (kept_flow file kept v)) (runs-passed (kept_story c file) (first_runs (kept_flow file kept v)) (later_runs (kept_flow file kept v)) e k)

-- steps 7 to 19, one after the other
module _ (file kept : List ℕ) (c : Sections) (v : FlowView) (ready : FlowReady file kept v) where
  pub own_found : {b : BreachAt} → Some b ≡ passes_found file kept c (knot_view v) FLOW → Some b ≡ found_runs (kept_story c file) (later_runs (kept_flow file kept v))
  own_found e =
      let f = kept_flow file kept v in
      let body = over (knot f) f.body flow_steps in
      let stitches = each (stitch_runs f) f.stitches in
      runs-found (kept_story c file) (body ++ stitches) (over (knot f) f.body (s19 ∷ []))
      (runs-found (kept_story c file) body stitches (flow-run file kept c v ready e))

  module _ (e : None ≡ passes_found file kept c (knot_view v) FLOW) where
    own-passed : {r : Option BreachAt} → r ≡ found_runs (kept_story c file) (each (stitch_runs (kept_flow file kept v)) (kept_flow file kept v).stitches)
        → r ≡ found_runs (kept_story c file) (over (knot (kept_flow file kept v)) (kept_flow file kept v).body flow_steps ++ each (stitch_runs (kept_flow file kept v)) (kept_flow file kept v).stitches)
    own-passed h =
        let f = kept_flow file kept v in
        runs-passed (kept_story c file) (over (knot f) f.body flow_steps) (each (stitch_runs f) f.stitches) (flow-run file kept c v ready e) h

    pub stitches_found : {b : BreachAt} → Some b ≡ found_runs (kept_story c file) (each (stitch_runs (kept_flow file kept v)) (kept_flow file kept v).stitches)
        → Some b ≡ found_runs (kept_story c file) (later_runs (kept_flow file kept v))
    stitches_found h =
        let f = kept_flow file kept v in
        runs-found (kept_story c file) (over (knot f) f.body flow_steps ++ each (stitch_runs f) f.stitches) (over (knot f) f.body (s19 ∷ [])) (own-passed h)

    pub stitches_passed : None ≡ found_runs (kept_story c file) (each (stitch_runs (kept_flow file kept v)) (kept_flow file kept v).stitches)
        → {t : Option BreachAt} → t ≡ passes_found file kept c (knot_view v) GATHERS → t ≡ found_runs (kept_story c file) (later_runs (kept_flow file kept v))
    stitches_passed h l =
        let f = kept_flow file kept v in
        let gathered = flow-gathers file kept c v ready l in
        runs-passed (kept_story c file) (over (knot f) f.body flow_steps ++ each (stitch_runs f) f.stitches) (over (knot f) f.body (s19 ∷ [])) (own-passed h) gathered

  -- where the body is clear of its own steps, what is left is what the stitches have
  pub stitches_left : true ≡ passes_clear file kept c (knot_view v) WHOLE_FLOW → {r : Option BreachAt} → r ≡ found_runs (kept_story c file) (each (stitch_runs (kept_flow file kept v)) (kept_flow file kept v).stitches)
      → r ≡ found_runs (kept_story c file) (later_runs (kept_flow file kept v))
  stitches_left e g =
      let f = kept_flow file kept v in
      let clear : None ≡ found_runs (kept_story c file) (over (knot f) f.body flow_steps ++ over (knot f) f.body (s19 ∷ []))
      = clear_passes (known_in c file) (here_at file kept (knot_view v)) v.name WHOLE_FLOW f.body e ∙ rw (← knot-here file kept c v ready) (body-passes (kept_story c file) (knot f) f.body) in
      runs-between (kept_story c file) (over (knot f) f.body flow_steps) (each (stitch_runs f) f.stitches) (over (knot f) f.body (s19 ∷ [])) clear g

pub stitch-runs : (f : Flow) (t : Stitch) → stitch_runs f t ≡ over (stitch f t) (stitch_items t) (s12 ∷ []) ++ over (stitch f t) t.body stitch_steps
unfolding stitch_runs
stitch-runs f t = refl

-- the verdict on the story is what the steps of the kept story find
pub story-runs : (c : Sections) (file : List ℕ)
    → found_of (verdict (story_in c file))
    ≡ found_runs (kept_story c file) (over root (kept_story c file).root root_steps ++ each flow_runs (kept_story c file).flows ++ over root (kept_story c file).root (s20 ∷ []))
unfolding runs
story-runs c file = rw (← verdict-plain (story_in c file) (story-unlabelled c file)) (verdict-found (kept_story c file))

-- the verdict, by what the root's steps find, then the flows, then the root's gathers
module _ {file : List ℕ} {c : Sections} {kept : List ℕ} (k : Kept file c kept) where
  pub root_found : {b : BreachAt} → Some b ≡ passes_found file kept c (root_view c (length file)) ROOT → Some b ≡ found_of (verdict (story_in c file))
  root_found e = rw (story-runs c file) (runs-found _ _ _ (runs-found _ _ _ (root-run k e)))

  module _ (e : None ≡ passes_found file kept c (root_view c (length file)) ROOT) where
    pub flows_found : {b : BreachAt} → Some b ≡ found_runs (kept_story c file) (each flow_runs (kept_story c file).flows) → Some b ≡ found_of (verdict (story_in c file))
    flows_found h = rw (story-runs c file) (runs-found _ _ _ (runs-passed _ _ _ (root-run k e) h))

    pub flows_passed : None ≡ found_runs (kept_story c file) (each flow_runs (kept_story c file).flows)
        → {r : Option BreachAt} → r ≡ passes_found file kept c (root_view c (length file)) GATHERS → r ≡ found_of (verdict (story_in c file))
    flows_passed h g = rw (story-runs c file) (runs-passed _ _ _ (runs-passed _ _ _ (root-run k e) h) (root-gathers k g))
