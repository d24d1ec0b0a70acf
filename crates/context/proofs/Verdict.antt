-- What the check finds is the verdict: step after step, item after item, rule after rule. Assumes nothing.
use Rattle.std.specs.Prelude.{Option, Some, None}
use mathlib.Core.Path.{◌≡◌, refl, sym, ◌∙◌}
use mathlib.Core.Bool.{Bool, true, false}
use mathlib.Core.List.{List, [], ◌∷◌, ◌++◌}
use Prim.Native.Nat.{ℕ, suc}
use native.Mathlib.Omega.{arith}
use Rattle.fields.specs.Bytes.{pick}
use Rattle.names.specs.Words.{only, each}
use Rattle.records.specs.Items.{What, Item}
use Rattle.story.specs.Story.{Story}
use Rattle.rules.specs.declared.Rule.{Rule}
use Rattle.rules.specs.Rules.{known, here, Scope}
use Rattle.rules.specs.Steps.{Step, bracket, Run, over, runs, Numbered, numbered, Breach, breach, Visit, visits, breaks, in_visit, in_run, breaches, verdict, first, flow_named}
use Rattle.checks.specs.Judged.{first_broken, judged_by}
use Rattle.context.specs.declared.BreachAt.{BreachAt}
use Rattle.context.specs.Found.{found_of, or_else, found_at, found_along, found_in, found_runs}

-- 1. The one or else the other

pub or-clear : (f : Option BreachAt) → or_else f None ≡ f
unfolding or_else
or-clear None = refl
or-clear (Some b) = refl

pub or_assoc : (f g h : Option BreachAt) → or_else (or_else f g) h ≡ or_else f (or_else g h)
unfolding or_else
or_assoc None g h = refl
or_assoc (Some b) g h = refl

pub never-clear : {b : BreachAt} → Some b ≡ None → ⊥
never-clear e = let z : ◌≡◌ {A = ℕ} 0 1 = cc in omega arith

pub both-clear : (f g : Option BreachAt) → None ≡ or_else f g → (f ≡ None) × (g ≡ None)
unfolding or_else
both-clear None g e = (refl, sym e)
both-clear (Some b) g e = absurd (never-clear (sym e))

-- 2. The first of joined lists

found-append : (xs ys : List Breach) → found_of (first (xs ++ ys)) ≡ or_else (found_of (first xs)) (found_of (first ys))
unfolding found_of or_else
found-append [] ys = refl
found-append (x ∷ xs) ys = refl

-- 3. At an item, along the items, in the steps

at_item : (s : Story) (u : Numbered Run) (v : Visit) (rs : List Rule)
    → found_of (first (each (λ (r : Rule). only (breaks s u.it v r) (breach u v r)) rs))
    ≡ found_at (first_broken (breaks s u.it v) rs) (flow_named u.it.scope) v.item
unfolding found_of first_broken found_at
at_item s u v [] = refl
at_item s u v (r ∷ rs) =
    by-test (each (λ (q : Rule). only (breaks s u.it v q) (breach u v q)) rs) (first_broken (breaks s u.it v) rs) (breaks s u.it v r)
    (at_item s u v rs)
  where
    by-test : (xs : List Breach) (j : Option Rule) (b : Bool)
        → found_of (first xs) ≡ found_at j (flow_named u.it.scope) v.item
        → found_of (first (only b (breach u v r) ++ xs)) ≡ found_at (pick b (Some r) j) (flow_named u.it.scope) v.item
    by-test xs j true e = refl
    by-test xs j false e = e

along : (s : Story) (u : Numbered Run) (before : List What) (is : List Item)
    → found_of (first (each (in_visit s u) (visits before is)))
    ≡ found_along (known s) (here s u.it.scope) (flow_named u.it.scope) (bracket u.it.step) before is
unfolding found_of found_along judged_by
along s u before [] = refl
along s u before (i ∷ is) =
    let v : Visit = record { item = i; before = before } in
    found-append (in_visit s u v) (each (in_visit s u) (visits (before ++ (i.what ∷ [])) is))
    ∙ rw (at_item s u v (bracket u.it.step), along s u (before ++ (i.what ∷ [])) is)

in-steps : (s : Story) (n : ℕ) (us : List Run) → found_of (first (each (in_run s) (numbered n us))) ≡ found_runs s us
unfolding found_of found_runs found_in
in-steps s n [] = refl
in-steps s n (u ∷ us) =
    let v : Numbered Run = record { no = n; it = u } in
    found-append (in_run s v) (each (in_run s) (numbered (suc n) us)) ∙ rw (along s v [] u.items, in-steps s (suc n) us)

-- THE VERDICT is what the steps find
pub verdict-found : (s : Story) → found_of (verdict s) ≡ found_runs s (runs s)
unfolding verdict breaches
verdict-found s = in-steps s 0 (runs s)

-- 4. Steps one after the other

pub runs_append : (s : Story) (us vs : List Run) → found_runs s (us ++ vs) ≡ or_else (found_runs s us) (found_runs s vs)
unfolding found_runs or_else
runs_append s [] vs = refl
runs_append s (u ∷ us) vs = rw (runs_append s us vs) (sym (or_assoc (found_in s u.scope (bracket u.step) u.items) (found_runs s us) (found_runs s vs)))

pub runs-one : (s : Story) (scope : Scope) (items : List Item) (step : Step)
    → found_runs s (over scope items (step ∷ [])) ≡ found_in s scope (bracket step) items
unfolding found_runs over
runs-one s scope items step = or-clear (found_in s scope (bracket step) items)
