-- What the check finds: the first breach along a step, a flow or the story, without the number of the step. Assumes nothing.
use Rattle.std.specs.Prelude.{ℕ, Bool, true, false, ◌&&◌, List, [], ◌∷◌, ◌++◌, Option, Some, None}
use Rattle.std.proofs.Math.Option.{Option as Maybe, none, some}
use Rattle.records.specs.Items.{What, Item}
use Rattle.story.specs.Story.{Story}
use Rattle.rules.specs.declared.Rule.{Rule}
use Rattle.rules.specs.Rules.{Known, Here, known, here, Scope}
use Rattle.rules.specs.Steps.{s5, s17, bracket, targets, calls, choices, temps, variable_diverts, gathers, Run, Breach, names_of, flow_named}
use Rattle.checks.specs.Judged.{judged_by}
use Rattle.context.specs.declared.BreachAt.{BreachAt}
use Rattle.context.specs.declared.Pass.{Pass}
use Rattle.context.specs.declared.Pass.TheVariants as pass

-- a breach as the check names it
abbrev pub breach_at : Rule → ℕ → ℕ × ℕ → BreachAt
breach_at r place names = record { rule = r; place = place; first = names.0; second = names.1 }

-- a verdict as the check answers it
unfoldable pub found_of : Maybe Breach → Option BreachAt
found_of none = None
found_of (some b) = Some (breach_at b.rule b.place b.names)

-- the one, or else the other
unfoldable pub or_else : Option BreachAt → Option BreachAt → Option BreachAt
or_else None g = g
or_else (Some b) g = Some b

-- at an item, in the flow whose name stands at the place
unfoldable pub found_at : Option Rule → ℕ → Item → Option BreachAt
found_at None flow i = None
found_at (Some r) flow i = Some (breach_at r i.place (names_of r flow i.named))

-- along the items, `before` those earlier in the same body
unfoldable pub found_along : Known → Here → ℕ → List Rule → List What → List Item → Option BreachAt
found_along k h flow rules before [] = None
found_along k h flow rules before (i ∷ is) =
    or_else (found_at (judged_by k h rules before i.what) flow i) (found_along k h flow rules (before ++ (i.what ∷ [])) is)

-- in a step as run for the root, a flow or a stitch, with these rules
unfoldable pub found_in : Story → Scope → List Rule → List Item → Option BreachAt
found_in s scope rules items = found_along (known s) (here s scope) (flow_named scope) rules [] items

-- in the steps as run, one after the other
unfoldable pub found_runs : Story → List Run → Option BreachAt
found_runs s [] = None
found_runs s (u ∷ us) = or_else (found_in s u.scope (bracket u.step) u.items) (found_runs s us)

-- the rules that a pass along a body tests
unfoldable pub rules_of : Pass → List Rule
rules_of pass.Temps = temps
rules_of pass.Targets = targets
rules_of pass.Calls = calls
rules_of pass.Choices = choices
rules_of pass.VariableDiverts = variable_diverts
rules_of pass.Variables = bracket s17
rules_of pass.Gathers = gathers
rules_of pass.Purity = bracket s5

-- in passes along the same items, one after the other
unfoldable pub found_passes : Known → Here → ℕ → List Pass → List Item → Option BreachAt
found_passes k h flow [] items = None
found_passes k h flow (p ∷ ps) items = or_else (found_along k h flow (rules_of p) [] items) (found_passes k h flow ps items)

-- no rule is broken
abbrev pub is_fine : Option Rule → Bool
is_fine None = true
is_fine (Some r) = false

-- no rule of the passes is broken at w, where `before` are the items earlier in the same body
unfoldable pub clear_at : Known → Here → List Pass → List What → What → Bool
clear_at k h [] before w = true
clear_at k h (p ∷ ps) before w = is_fine (judged_by k h (rules_of p) before w) && clear_at k h ps before w

-- nor at any of the items
unfoldable pub clear_along : Known → Here → List Pass → List What → List Item → Bool
clear_along k h ps before [] = true
clear_along k h ps before (i ∷ is) = clear_at k h ps before i.what && clear_along k h ps (before ++ (i.what ∷ [])) is
