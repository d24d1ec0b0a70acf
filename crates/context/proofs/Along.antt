-- Along the items of a step: one after the other, and where what stands before an item does not matter. Assumes nothing.
use Rattle.std.specs.Prelude.{Option, Some, None}
use mathlib.Core.Path.{◌≡◌, refl, ap}
use mathlib.Core.List.{List, [], ◌∷◌, ◌++◌}
use Prim.Native.Nat.{ℕ}
use Rattle.fields.specs.Bytes.{pick}
use Rattle.records.specs.declared.sorts.Sort.TheVariants.{FlowStart as flow_start}
use Rattle.records.specs.Items.{What, Item}
use Rattle.story.specs.Story.{Story, Name}
use Rattle.rules.specs.declared.Rule.{Rule}
use Rattle.rules.specs.declared.Rule.TheVariants.{FunctionWithStitches}
use Rattle.rules.specs.Rules.{Known, Here, known, here, Scope, root, stitched}
use Rattle.rules.specs.Steps.{bracket, s1, s5, s6, temps, name_item, names_of, flow_named}
use Rattle.checks.specs.Judged.{judged_by}
use Rattle.checks.proofs.Cases.{root-temps, purity-free, params-free, start_judged}
use Rattle.context.specs.Found.{breach_at, or_else, found_at, found_along, found_in}

-- 1. The item at the front: nothing is broken there, or a rule is

module _ (k : Known) (h : Here) (flow : ℕ) (rules : List Rule) (before : List What) (i : Item) (is : List Item) {j : Option Rule} (e : j ≡ judged_by k h rules before i.what) where
  pub along-passed : j ≡ None → found_along k h flow rules before (i ∷ is) ≡ found_along k h flow rules (before ++ (i.what ∷ [])) is
  unfolding found_along found_at or_else
  along-passed f = rw (← e, f)

  pub along-found : {r : Rule} → j ≡ Some r → Some (breach_at r i.place (names_of r flow i.named)) ≡ found_along k h flow rules before (i ∷ is)
  unfolding found_along found_at or_else
  along-found f = rw (← e, f)

pub along-none : (k : Known) (h : Here) (flow : ℕ) (rules : List Rule) (before : List What) → None ≡ found_along k h flow rules before []
unfolding found_along
along-none k h flow rules before = refl

-- 2. Rules that judge alike find alike

module _ (k : Known) (h : Here) (flow : ℕ) (rules others : List Rule) (alike : (b c : List What) (w : What) → judged_by k h rules b w ≡ judged_by k h others c w) where
  pub along-alike : (b c : List What) (is : List Item) → found_along k h flow rules b is ≡ found_along k h flow others c is
  unfolding found_along
  along-alike b c [] = refl
  along-alike b c (i ∷ is) = rw (alike b c i.what, along-alike (b ++ (i.what ∷ [])) (c ++ (i.what ∷ [])) is)

-- 3. The root's temps, the parameters, and a function's flow before its body

pub root-along : (s : Story) (is : List Item) → found_in s root temps is ≡ found_in s root (bracket s1) is
unfolding found_in
root-along s is = along-alike (known s) (here s root) (flow_named root) temps (bracket s1) (root-temps (known s) s) [] [] is

pub params-along : (k : Known) (h : Here) (flow : ℕ) (b c : List What) (is : List Item) → found_along k h flow (bracket s6) b is ≡ found_along k h flow (bracket s6) c is
params-along k h flow b c is = along-alike k h flow (bracket s6) (bracket s6) (params-free k h) b c is

pub purity-along : (s : Story) (scope : Scope) (place : ℕ) (n : Name) (is : List Item)
    → found_in s scope (bracket s5) (name_item flow_start place n ∷ is)
    ≡ or_else (found_at (pick (stitched scope) (Some FunctionWithStitches) None) (flow_named scope) (name_item flow_start place n)) (found_in s scope (bracket s5) is)
unfolding found_in found_along here
purity-along s scope place n is =
    rw (start_judged (known s) (here s scope) [] place n) (ap (or_else _) (along-alike (known s) (here s scope) (flow_named scope) (bracket s5) (bracket s5) (purity-free (known s) (here s scope)) ((name_item flow_start place n).what ∷ []) [] is))
