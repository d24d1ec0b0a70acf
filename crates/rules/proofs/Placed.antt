-- The places that a step visits rise, from what the reader supplies. Assumes nothing.
use mathlib.Core.Path.{◌≡◌, refl, subst}
use mathlib.Core.List.Memᴰ
use mathlib.Core.List.{List, [], ◌∷◌, ◌++◌}
use Prim.Native.Nat.{ℕ, ◌<◌}
use Rattle.names.specs.Words.{◌∈◌, Sorted}
use Rattle.records.specs.declared.sorts.Sort.TheVariants.{Parameter as parameter}
use Rattle.records.specs.Items.{Item}
use Rattle.story.specs.Story.{Name, Stitch, Flow, Story}
use Rattle.rules.specs.Steps.{Run, name_item, param_items}
use Rattle.rules.specs.Meaning.{RanInStitch, ran_name, ran_stitch_body, RanInFlow, ran_purity, ran_no_purity, ran_params, ran_flow_body, ran_stitch, ran_flow_gathers, Ran, ran_root, ran_flow, ran_root_gathers}
use Rattle.rules.specs.Placed.{Rising, PlacedFlow, Placed}

-- what stands between the two parts of a list is in it
pub in_split : {A : Type 0} {l : List A} (before : List A) (x : A) (after : List A) → l ≡ before ++ (x ∷ after) → x ∈ l
in_split before x after e = rw e (Memᴰ.append_right before (Memᴰ.head refl))

params-rise : (l : List Name) → Sorted (λ (m n : Name). m.at < n.at) l → Rising (param_items l)
params-rise [] q = tt
params-rise (n ∷ ns) q = (
  λ i m. let r = Memᴰ.of_map (λ (x : Name). name_item parameter x.at x) ns m in
      subst (λ (j : Item). n.at < j.place) r.2 (q.0 r.0 r.1),
  params-rise ns q.1,
)

stitch-rises : (f : Flow) (t : Stitch) → Rising t.body → {begin n : ℕ} {u : Run} → RanInStitch f t begin n u → Rising u.items
stitch-rises f t p ran_name = (λ k n. absurd (Memᴰ.not-nil n), tt)
stitch-rises f t p (ran_stitch_body m) = p

flow-rises : (f : Flow) → PlacedFlow f → {begin n : ℕ} {u : Run} → RanInFlow f begin n u → Rising u.items
flow-rises f p (ran_purity t) = (p.begins, p.body)
flow-rises f p (ran_no_purity t) = tt
flow-rises f p ran_params = params-rise f.params p.params
flow-rises f p (ran_flow_body m) = p.body
flow-rises f p (ran_stitch before t after e r) = stitch-rises f t (p.stitches t (in_split before t after e)) r
flow-rises f p ran_flow_gathers = p.body

step-rises : (s : Story) → Placed s → {n : ℕ} {u : Run} → Ran s n u → Rising u.items
step-rises s p (ran_root m) = p.root
step-rises s p (ran_flow before f after e r) = flow-rises f (p.flows f (in_split before f after e)) r
step-rises s p ran_root_gathers = p.root

-- in each step as run the visited places rise
abbrev pub Ordered : Story → Type 0
Ordered s = (n : ℕ) (u : Run) → Ran s n u → Rising u.items

pub ordered : (s : Story) → Placed s → Ordered s
ordered s p n u r = step-rises s p r
