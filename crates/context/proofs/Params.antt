-- Parameters one after the other, and a stitch's name. Assumes nothing.
use Rattle.std.specs.Prelude.{Option, Some, None}
use mathlib.Core.Path.{◌≡◌, sym, ◌∙◌}
use mathlib.Core.List.{List, [], ◌∷◌}
use Prim.Native.Nat.{ℕ}
use Rattle.names.specs.Words.{Bytes}
use Rattle.names.specs.Counted.{name_at}
use Rattle.story.specs.declared.Sections.{Sections}
use Rattle.records.specs.declared.sorts.Sort.TheVariants.{Parameter as parameter, StitchName as stitch_name}
use Rattle.story.specs.Story.{Name}
use Rattle.rules.specs.declared.Rule.{Rule}
use Rattle.rules.specs.Rules.{Here}
use Rattle.rules.specs.Steps.{s6, s12, bracket, name_item, names_of}
use Rattle.checks.specs.Judged.{param_judged, stitch_judged}
use Rattle.checks.specs.Context.{known_in}
use Rattle.checks.proofs.Cases.{params_judged, stitch_name_judged}
use Rattle.context.specs.declared.BreachAt.{BreachAt}
use Rattle.context.specs.Found.{breach_at}
use Rattle.context.specs.Scopes.{params_found, stitch_name_found}
use Rattle.context.proofs.Along.{along-passed, along-found, along-none, params-along}

-- 1. Names in the file, one after the other

-- the name at the place
abbrev named : List ℕ → ℕ → Name
named file at = record { at = at; bytes = name_at file at }

-- 2. Step 6

module _ (file : List ℕ) (c : Sections) (flow : ℕ) (h : Here) where
  -- no names are left
  pub params-none : {ns : List Name} → ns ≡ [] → None ≡ params_found file c h flow ns
  params-none e = rw e (along-none (known_in c file) h flow (bracket s6) [])

  -- the name at the front is judged by rules 4 and 5
  module _ {n : Name} {ns rest : List Name} (e : ns ≡ n ∷ rest) {j : Option Rule} (f : j ≡ param_judged (known_in c file) n.bytes) where
    pub params-found : {r : Rule} → j ≡ Some r → {b : BreachAt} → b ≡ breach_at r n.at (names_of r flow n.at) → Some b ≡ params_found file c h flow ns
    params-found g k =
        rw (e, k) (along-found (known_in c file) h flow (bracket s6) [] (name_item parameter n.at n) _ (f ∙ sym (params_judged (known_in c file) h [] n.at n)) g)

    pub params-passed : j ≡ None → params_found file c h flow ns ≡ params_found file c h flow rest
    params-passed g =
        rw e
        (along-passed (known_in c file) h flow (bracket s6) [] (name_item parameter n.at n) _ (f ∙ sym (params_judged (known_in c file) h [] n.at n)) g
        ∙ params-along (known_in c file) h flow _ [] _)

-- 3. Step 12

module _ (file : List ℕ) (c : Sections) (flow at : ℕ) {n : Bytes} (e : n ≡ name_at file at) {j : Option Rule} (f : j ≡ stitch_judged (known_in c file) n) (h : Here) where
  pub name_passed : j ≡ None → None ≡ stitch_name_found file c h flow at
  name_passed g =
      sym (along-passed (known_in c file) h flow (bracket s12) [] (name_item stitch_name at (named file at)) [] (rw e at f ∙ sym (stitch_name_judged (known_in c file) h [] at (named file at))) g
      ∙ sym (along-none (known_in c file) h flow (bracket s12) _))

  pub name_found : {r : Rule} → j ≡ Some r → {b : BreachAt} → b ≡ breach_at r at (names_of r flow at) → Some b ≡ stitch_name_found file c h flow at
  name_found g k =
      rw k (along-found (known_in c file) h flow (bracket s12) [] (name_item stitch_name at (named file at)) [] (rw e at f ∙ sym (stitch_name_judged (known_in c file) h [] at (named file at))) g)
