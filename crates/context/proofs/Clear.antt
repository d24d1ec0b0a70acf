-- Items at which no rule of some passes is broken: one after the other, and what the passes then find. Assumes nothing.
use Rattle.rules.specs.declared.Rule.{Rule}
use Rattle.std.specs.Prelude.{Option, Some, None, MatchBool}
use Rattle.std.specs.List.{AllWithin, HoldsAt}
use mathlib.Core.Path.{◌≡◌, refl, sym, ◌∙◌}
use mathlib.Core.Bool.{Bool, true, false, ◌&&◌, and-false, true≢false}
use mathlib.Core.List.{List, [], ◌∷◌, ◌++◌}
use Prim.Native.Nat.{ℕ, zero, suc, ◌+◌, ◌≤◌, ◌<◌}
use native.Mathlib.Numerals.{add-one}
use native.Mathlib.Omega.{arith}
use lib.ListN.{length, take, drop, drop_of_length-le}
use Rattle.records.specs.Items.{What, Item}
use Rattle.story.specs.Story.{whats}
use Rattle.rules.specs.Rules.{Known, Here}
use Rattle.checks.specs.Judged.{judged_by}
use Rattle.context.specs.declared.Pass.{Pass}
use Rattle.context.specs.Found.{or_else, found_at, found_along, found_passes, rules_of, is_fine, clear_at, clear_along}
use Rattle.context.proofs.Walks.{taken}

-- 1. Passes one after the other at an item

module _ (k : Known) (h : Here) (before : List What) (w : What) where
  -- no rule of the pass is broken, or some is
  abbrev pub Passes : Bool → Pass → Type 0
  Passes b p = is_fine (judged_by k h (rules_of p) before w) ≡ b

  all-clear : (ps : List Pass) → AllWithin (Passes true) ps 0 (length ps) → true ≡ clear_at k h ps before w
  unfolding clear_at
  all-clear [] e = refl
  all-clear (p ∷ ps) e = rw (e 0 p (omega arith) (omega arith)) (all-clear ps (λ i d a b. e (suc i) d (omega arith) (omega arith)))

  some-broken : (ps : List Pass) (i : ℕ) → i < length ps → HoldsAt (Passes false) ps i → false ≡ clear_at k h ps before w
  unfolding clear_at
  some-broken [] i l e = absurd (omega arith)
  some-broken (p ∷ ps) zero l e = rw (e p)
  some-broken (p ∷ ps) (suc i) l e = rw (← some-broken ps i (omega arith) e, and-false (is_fine (judged_by k h (rules_of p) before w)))

  -- what is asked of each pass, as far as one that is broken
  pub each-pass : (ps : List Pass) (r : Bool) → MatchBool r (AllWithin (Passes true) ps 0 (length ps)) ((i : ℕ) × (i < length ps) × HoldsAt (Passes false) ps i) → r ≡ clear_at k h ps before w
  each-pass ps true e = all-clear ps e
  each-pass ps false e = some-broken ps e.0 e.1 e.2

-- 2. Items one after the other

-- nothing is broken before item number i
pub record Unbroken (k : Known) (h : Here) (ps : List Pass) (body : List Item) (i : ℕ) : Type 0 where
  pub rest : clear_along k h ps [] body ≡ clear_along k h ps (take i (whats body)) (drop i body)

pub unbroken_start : (k : Known) (h : Here) (ps : List Pass) (body : List Item) → Unbroken k h ps body 0
unbroken_start k h ps body = record { rest = refl }

module _ {k : Known} {h : Here} {ps : List Pass} {body : List Item} {i : ℕ} (unbroken : Unbroken k h ps body i) where
  pub unbroken_end : length body ≤ i → true ≡ clear_along k h ps [] body
  unfolding clear_along
  unbroken_end l = sym (unbroken.rest ∙ rw (drop_of_length-le body l))

  module _ {x : Item} (there : drop i body ≡ x ∷ drop (i + 1) body) {b : Bool} (e : b ≡ clear_at k h ps (take i (whats body)) x.what) where
    pub unbroken_next : b ≡ true → Unbroken k h ps body (i + 1)
    unfolding clear_along
    unbroken_next f = record { rest = unbroken.rest ∙ rw (there, add-one i, taken body i there, ← e, f) }

    pub unbroken_broken : b ≡ false → false ≡ clear_along k h ps [] body
    unfolding clear_along
    unbroken_broken f = sym (unbroken.rest ∙ rw (there, ← e, f))

-- 3. Where nothing is broken, the passes find nothing

and_split : (a b : Bool) → true ≡ (a && b) → (true ≡ a) × (true ≡ b)
and_split true b e = (refl, e)
and_split false b e = absurd (true≢false e)

fine : (j : Option Rule) → true ≡ is_fine j → j ≡ None
fine None e = refl
fine (Some r) e = let z : ◌≡◌ {A = Bool} true false = e in cc

module _ (k : Known) (h : Here) (flow : ℕ) where
  -- one of the passes finds nothing, and the others are clear
  apart : (p : Pass) (ps : List Pass) (before : List What) (items : List Item) → true ≡ clear_along k h (p ∷ ps) before items
      → (found_along k h flow (rules_of p) before items ≡ None) × (true ≡ clear_along k h ps before items)
  unfolding clear_along clear_at found_along found_at or_else
  apart p ps before [] e = (refl, refl)
  apart p ps before (i ∷ is) e =
      let here = and_split (clear_at k h (p ∷ ps) before i.what) (clear_along k h (p ∷ ps) (before ++ (i.what ∷ [])) is) e in
      let own = and_split (is_fine (judged_by k h (rules_of p) before i.what)) (clear_at k h ps before i.what) here.0 in
      let later = apart p ps (before ++ (i.what ∷ [])) is here.1 in
      (rw (fine (judged_by k h (rules_of p) before i.what) own.0) later.0, rw (← own.1) later.1)

  pub clear_passes : (ps : List Pass) (items : List Item) → true ≡ clear_along k h ps [] items → None ≡ found_passes k h flow ps items
  unfolding found_passes or_else
  clear_passes [] items e = refl
  clear_passes (p ∷ ps) items e = rw (apart p ps [] items e).0 (clear_passes ps items (apart p ps [] items e).1)
