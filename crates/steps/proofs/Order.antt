-- The runs of a stitch, of a flow and of a story, part after part. Assumes nothing.
use mathlib.Core.Path.{◌≡◌}
use mathlib.Core.List.{[], ◌∷◌, ◌++◌}
use Rattle.names.specs.Words.{each}
use Rattle.story.specs.Story.{Stitch, Flow, Story}
use Rattle.rules.specs.Rules.{root, knot, stitch}
use Rattle.rules.specs.Steps.{s5, s6, s12, s19, s20, root_steps, flow_steps, stitch_steps, over, param_items, stitch_items, purity_items, stitch_runs, flow_runs, runs}
use Rattle.steps.specs.Heard.{Heard, hear_runs}
use Rattle.steps.proofs.Runs.{runs_append}

-- a stitch: its name, then the steps along its body
pub stitch-heard : (s : Story) (f : Flow) (t : Stitch) (h : Heard) {g k : Heard}
    → g ≡ hear_runs s h (over (stitch f t) (stitch_items t) (s12 ∷ []))
    → k ≡ hear_runs s g (over (stitch f t) t.body stitch_steps)
    → k ≡ hear_runs s h (stitch_runs f t)
unfolding stitch_runs
stitch-heard s f t h p q =
    rw (runs_append s h (over (stitch f t) (stitch_items t) (s12 ∷ [])) (over (stitch f t) t.body stitch_steps), ← p) q

-- a flow: purity, parameters, the steps along its own list, its stitches, its gathers
pub flow-heard : (s : Story) (f : Flow) (h₀ : Heard) {h₁ h₂ h₃ h₄ h₅ : Heard}
    → h₁ ≡ hear_runs s h₀ (over (knot f) (purity_items f.function f) (s5 ∷ []))
    → h₂ ≡ hear_runs s h₁ (over (knot f) (param_items f.params) (s6 ∷ []))
    → h₃ ≡ hear_runs s h₂ (over (knot f) f.body flow_steps)
    → h₄ ≡ hear_runs s h₃ (each (stitch_runs f) f.stitches)
    → h₅ ≡ hear_runs s h₄ (over (knot f) f.body (s19 ∷ []))
    → h₅ ≡ hear_runs s h₀ (flow_runs f)
unfolding flow_runs
flow-heard s f h₀ a b c d e =
    let purity = over (knot f) (purity_items f.function f) (s5 ∷ []) in
    let params = over (knot f) (param_items f.params) (s6 ∷ []) in
    let own = over (knot f) f.body flow_steps in
    let stitches = each (stitch_runs f) f.stitches in
    let gathers = over (knot f) f.body (s19 ∷ []) in
    rw (
      runs_append s h₀ (((purity ++ params) ++ own) ++ stitches) gathers,
      runs_append s h₀ ((purity ++ params) ++ own) stitches,
      runs_append s h₀ (purity ++ params) own,
      runs_append s h₀ purity params,
      ← a,
      ← b,
      ← c,
      ← d,
    ) e

-- a story: the root's first steps, the flows, the root's gathers
pub story-heard : (s : Story) (h₀ : Heard) {h₁ h₂ h₃ : Heard}
    → h₁ ≡ hear_runs s h₀ (over root s.root root_steps)
    → h₂ ≡ hear_runs s h₁ (each flow_runs s.flows)
    → h₃ ≡ hear_runs s h₂ (over root s.root (s20 ∷ []))
    → h₃ ≡ hear_runs s h₀ (runs s)
unfolding runs
story-heard s h₀ a b c =
    rw (
      runs_append s h₀ (over root s.root root_steps ++ each flow_runs s.flows) (over root s.root (s20 ∷ [])),
      runs_append s h₀ (over root s.root root_steps) (each flow_runs s.flows),
      ← a,
      ← b,
    ) c
