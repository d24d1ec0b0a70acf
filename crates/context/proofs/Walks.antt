-- One pass along a body, item after item, and passes one after the other. Assumes nothing.
use Rattle.std.specs.Prelude.{Option, Some, None}
use mathlib.Core.Path.{◌≡◌, refl, sym, ap, ◌∙◌}
use mathlib.Core.List.{List, [], ◌∷◌, ◌++◌, nil≢cons}
use Prim.Native.Nat.{ℕ, zero, suc, ◌+◌, ◌≤◌, ◌<◌}
use native.Mathlib.Numerals.{add-one}
use native.Mathlib.Omega.{arith}
use lib.ListN.{length, get_or, take, drop, drop_of_length-le}
use lib.Seq.{drop-cons}
use Rattle.records.specs.Items.{What, Item}
use Rattle.story.specs.Story.{whats}
use Rattle.records.specs.Numbers.{item_in, between}
use Rattle.items.specs.Bodies.{kept_in}
use Rattle.items.proofs.Numbered.{items-length, item-there}
use Rattle.rules.specs.declared.Rule.{Rule}
use Rattle.rules.specs.Rules.{Known, Here}
use Rattle.rules.specs.Steps.{names_of}
use Rattle.checks.specs.Judged.{judged_by}
use Rattle.context.specs.declared.BreachAt.{BreachAt}
use Rattle.context.specs.declared.Pass.{Pass}
use Rattle.context.specs.Found.{breach_at, or_else, found_along, rules_of, found_passes}
use Rattle.context.proofs.Along.{along-passed, along-found, along-none}

-- 1. Items

-- what stands before the item after this one
pub taken : (body : List Item) (i : ℕ) {x : Item} {ys : List Item} → drop i body ≡ x ∷ ys → take (suc i) (whats body) ≡ take i (whats body) ++ (x.what ∷ [])
taken [] zero e = absurd (nil≢cons e)
taken [] (suc i) e = absurd (nil≢cons e)
taken (y ∷ body) zero e = cc
taken (y ∷ body) (suc i) e = ap (λ (l : List What). y.what ∷ l) (taken body i e)

-- the items of the run of a body's numbers
module _ (file kept : List ℕ) (from to : ℕ) {items : List ℕ} (e : items ≡ between from to kept) (i : ℕ) where
  pub run-item : i < length items → drop i (kept_in file kept from to) ≡ item_in file (get_or items i 0) ∷ drop (i + 1) (kept_in file kept from to)
  run-item h = rw (← e) (item-there file items h)

  pub run_end : length items ≤ i → length (kept_in file kept from to) ≤ i
  run_end h = rw (← e) (omega (arith, items-length file items))

-- nothing is found before item number i
pub record Clean (k : Known) (h : Here) (flow : ℕ) (rules : List Rule) (body : List Item) (i : ℕ) : Type 0 where
  pub rest : found_along k h flow rules [] body ≡ found_along k h flow rules (take i (whats body)) (drop i body)

pub clean_start : (k : Known) (h : Here) (flow : ℕ) (rules : List Rule) (body : List Item) → Clean k h flow rules body 0
clean_start k h flow rules body = record { rest = refl }

module _ {k : Known} {h : Here} {flow : ℕ} {rules : List Rule} {body : List Item} {i : ℕ} (clean : Clean k h flow rules body i) where
  pub clean_end : length body ≤ i → None ≡ found_along k h flow rules [] body
  clean_end l = sym (clean.rest ∙ rw (drop_of_length-le body l) (sym (along-none k h flow rules (take i (whats body)))))

  module _ {x : Item} (there : drop i body ≡ x ∷ drop (i + 1) body) {j : Option Rule} (e : j ≡ judged_by k h rules (take i (whats body)) x.what) where
    pub clean_next : j ≡ None → Clean k h flow rules body (i + 1)
    clean_next f = record {
      rest = clean.rest ∙ rw (there, add-one i, taken body i there) (along-passed k h flow rules (take i (whats body)) x (drop (suc i) body) e f);
    }

    pub clean_found : {r : Rule} → j ≡ Some r → {place own : ℕ} → place ≡ x.place → own ≡ x.named → {b : BreachAt} → b ≡ breach_at r place (names_of r flow own)
        → Some b ≡ found_along k h flow rules [] body
    clean_found {r} f {place} {own} p g {b} l =
        sym (clean.rest
        ∙ rw there
        (sym (along-found k h flow rules (take i (whats body)) x (drop (i + 1) body) e f)
        ∙ rw (← p, ← g, ← l)))

-- 2. Passes

-- nothing is found before pass number i
pub record Quiet (k : Known) (h : Here) (flow : ℕ) (body : List Item) (ps : List Pass) (i : ℕ) : Type 0 where
  pub rest : found_passes k h flow ps body ≡ found_passes k h flow (drop i ps) body

pub quiet_start : (k : Known) (h : Here) (flow : ℕ) (body : List Item) (ps : List Pass) → Quiet k h flow body ps 0
quiet_start k h flow body ps = record { rest = refl }

module _ {k : Known} {h : Here} {flow : ℕ} {body : List Item} {ps : List Pass} {i : ℕ} (quiet : Quiet k h flow body ps i) where
  pub quiet_end : length ps ≤ i → None ≡ found_passes k h flow ps body
  unfolding found_passes
  quiet_end l = sym (quiet.rest ∙ rw (drop_of_length-le ps l))

  module _ (l : i < length ps) (d : Pass) {r : Option BreachAt} (e : r ≡ found_along k h flow (rules_of (get_or ps i d)) [] body) where
    pub quiet_found : {b : BreachAt} → r ≡ Some b → Some b ≡ found_passes k h flow ps body
    unfolding found_passes or_else
    quiet_found f = sym (quiet.rest ∙ rw (drop-cons ps i d l, ← e, f))

    pub quiet_next : r ≡ None → Quiet k h flow body ps (i + 1)
    unfolding found_passes or_else
    quiet_next f = record { rest = quiet.rest ∙ rw (drop-cons ps i d l, ← e, f, add-one i) }
