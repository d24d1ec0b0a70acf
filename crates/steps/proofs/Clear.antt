-- Items at which no rule of a list is broken: one after the other, and the runs that then find nothing. Assumes nothing.
use mathlib.Core.Path.{◌≡◌, refl, sym, ap, ◌∙◌, subst}
use mathlib.Core.Bool.{Bool, true, false, not, ◌&&◌, true≢false}
use mathlib.Core.List.Memᴰ
use mathlib.Core.List.{List, [], ◌∷◌, ◌++◌, map}
use mathlib.Core.Logic.{⊎_elim}
use Prim.Native.Nat.{ℕ, ◌+◌, ◌≤◌}
use native.Mathlib.Numerals.{add-one}
use lib.Dec.{T, eqb, eqb→eq}
use lib.ListN.{length, length-map, take, drop, drop_of_length-le}
use borrow.Author.Tests.{not-true}
use Rattle.names.specs.Words.{any, only, each, ◌∈◌}
use Rattle.names.proofs.Any.{any_of}
use Rattle.names.proofs.Lists.{Every, in-each}
use Rattle.records.specs.Items.{What, Item}
use Rattle.story.specs.Story.{Story, whats}
use Rattle.rules.specs.declared.Rule.{Rule}
use Rattle.rules.specs.Rules.{number, Known, Here, broken, known, here, Scope}
use Rattle.rules.specs.Steps.{Step, bracket, Run, run, over, Numbered, breach, Visit, visits, breaks, in_visit, in_run}
use Rattle.rules.proofs.Table.{one-rule}
use Rattle.steps.specs.Heard.{Heard, pass, hear_runs}
use Rattle.steps.specs.Clear.{clear_of, clear_along, among}
use Rattle.steps.proofs.Runs.{FindsNothing, runs-clear}
use Rattle.steps.proofs.Visiting.{taken}

-- 1. Two tests that both pass

pub both : (a b : Bool) → (a && b) ≡ true → (a ≡ true) × (b ≡ true)
both true b e = (refl, e)
both false b e = absurd (true≢false (sym e))

-- 2. Rules of a list

-- a rule with the number of one of the list is of the list
by_number : (r : Rule) (others : List Rule) → any (λ (q : Rule). eqb (number r) (number q)) others ≡ true → r ∈ others
by_number r others e =
    let x = any_of (λ (q : Rule). eqb (number r) (number q)) others (subst T (sym e) tt) in
    Memᴰ.cast (one-rule r x.0 (eqb→eq (number r) (number x.0) x.2)) x.1

pub among_in : (rs others : List Rule) → among rs others ≡ true → Every (λ (r : Rule). r ∈ others) rs
unfolding among
among_in [] others e r m = absurd (Memᴰ.not-nil m)
among_in (q ∷ rs) others e r m =
    let b = both (any (λ (p : Rule). eqb (number q) (number p)) others) (among rs others) e in
    ⊎_elim (λ f. Memᴰ.cast f (by_number q others b.0)) (λ n. among_in rs others b.1 r n) (Memᴰ.cases_cons m)

module _ (k : Known) (h : Here) where
  -- no rule of the list is broken
  pub clear_kept : (rs : List Rule) (before : List What) (w : What) → clear_of k h rs before w ≡ true → Every (λ (r : Rule). broken k h before r w ≡ false) rs
  unfolding clear_of
  clear_kept [] before w e r m = absurd (Memᴰ.not-nil m)
  clear_kept (q ∷ rs) before w e r m =
      let b = both (not (broken k h before q w)) (clear_of k h rs before w) e in
      ⊎_elim (λ f. rw f (not-true (broken k h before q w) b.0)) (λ n. clear_kept rs before w b.1 r n) (Memᴰ.cases_cons m)

  -- the rules of two lists
  pub clear-append : (rs qs : List Rule) (before : List What) (w : What) → clear_of k h (rs ++ qs) before w ≡ (clear_of k h rs before w && clear_of k h qs before w)
  unfolding clear_of
  clear-append [] qs before w = refl
  clear-append (r ∷ rs) qs before w = rw (clear-append rs qs before w) (grouped (not (broken k h before r w)) (clear_of k h rs before w) (clear_of k h qs before w))
    where
      grouped : (a b c : Bool) → (a && (b && c)) ≡ ((a && b) && c)
      grouped true b c = refl
      grouped false b c = refl

-- 3. Items one after the other

-- nothing is broken before item number i
pub record Unbroken (k : Known) (h : Here) (rs : List Rule) (items : List Item) (i : ℕ) : Type 0 where
  pub rest : clear_along k h rs [] items ≡ clear_along k h rs (take i (whats items)) (drop i items)

pub unbroken-start : (k : Known) (h : Here) (rs : List Rule) (items : List Item) → Unbroken k h rs items 0
unbroken-start k h rs items = record { rest = refl }

module _ {k : Known} {h : Here} {rs : List Rule} {items : List Item} {i : ℕ} (unbroken : Unbroken k h rs items i) where
  pub unbroken-end : length items ≤ i → true ≡ clear_along k h rs [] items
  unfolding clear_along
  unbroken-end l = sym (unbroken.rest ∙ rw (drop_of_length-le items l))

  module _ {x : Item} (there : drop i items ≡ x ∷ drop (i + 1) items) {b : Bool} (e : b ≡ clear_of k h rs (take i (whats items)) x.what) where
    pub unbroken-next : b ≡ true → Unbroken k h rs items (i + 1)
    unfolding clear_along
    unbroken-next f = record { rest = unbroken.rest ∙ rw (there, add-one i, taken items i there, ← e, f) }

    pub unbroken-broken : b ≡ false → false ≡ clear_along k h rs [] items
    unfolding clear_along
    unbroken-broken f = sym (unbroken.rest ∙ rw (there, ← e, f))

-- 4. The runs then find nothing

module _ (s : Story) (u : Numbered Run) where
  -- at an item where no rule is broken
  rules-none : (v : Visit) (rs : List Rule) → Every (λ (r : Rule). breaks s u.it v r ≡ false) rs
      → each (λ (r : Rule). only (breaks s u.it v r) (breach u v r)) rs ≡ []
  rules-none v [] none = refl
  rules-none v (r ∷ rs) none = rw (none r (Memᴰ.head refl)) (rules-none v rs (λ q m. none q (Memᴰ.tail m)))

  module _ (rs : List Rule) (all : Every (λ (r : Rule). r ∈ rs) (bracket u.it.step)) where
    pub visit-clear : (v : Visit) → clear_of (known s) (here s u.it.scope) rs v.before v.item.what ≡ true → in_visit s u v ≡ []
    visit-clear v e =
        rules-none v (bracket u.it.step) (λ r m. clear_kept (known s) (here s u.it.scope) rs v.before v.item.what e r (all r m))

    items-clear : (before : List What) (items : List Item) → clear_along (known s) (here s u.it.scope) rs before items ≡ true → each (in_visit s u) (visits before items) ≡ []
    unfolding clear_along
    items-clear before [] e = refl
    items-clear before (i ∷ is) e =
        let b = both (clear_of (known s) (here s u.it.scope) rs before i.what) (clear_along (known s) (here s u.it.scope) rs (before ++ (i.what ∷ [])) is) e in
        rw (visit-clear (record { item = i; before = before }) b.0) (items-clear (before ++ (i.what ∷ [])) is b.1)

    pub run-clear : clear_along (known s) (here s u.it.scope) rs [] u.it.items ≡ true → in_run s u ≡ []
    run-clear e = items-clear [] u.it.items e

-- steps over the same items, whose rules are all of the list
pub over-clear : (s : Story) (scope : Scope) (items : List Item) (rs : List Rule) (steps : List Step) → among (each bracket steps) rs ≡ true
    → clear_along (known s) (here s scope) rs [] items ≡ true → (h : Heard) → hear_runs s h (over scope items steps) ≡ pass (length steps) h
unfolding over
over-clear s scope items rs steps a e h =
    runs-clear s h (map (run scope items) steps) clear ∙ ap (λ (n : ℕ). pass n h) (length-map steps (run scope items))
  where
    of_step : (step : Step) → step ∈ steps → FindsNothing s (run scope items step)
    of_step step m n = run-clear s (record { no = n; it = run scope items step }) rs (λ r i. among_in (each bracket steps) rs a r (in-each bracket m i)) e

    clear : Every (FindsNothing s) (map (run scope items) steps)
    clear u m = let x = Memᴰ.of_map (run scope items) steps m in subst (FindsNothing s) x.2 (of_step x.0 x.1)
