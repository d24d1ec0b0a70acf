-- The rules of a look: those of the steps that it stands for are among them, and at a thing only those of its sort can be broken. Assumes nothing.
use mathlib.Core.Path.{◌≡◌, refl, sym, ap, ◌∙◌}
use mathlib.Core.Bool.{Bool, true, false, not, ◌&&◌, ◌||◌, true≢false}
use mathlib.Core.List.{List, [], ◌∷◌, map}
use Prim.Native.Nat.{ℕ}
use lib.ListN.{get_or}
use Rattle.story.specs.declared.Sections.{Sections}
use Rattle.fields.specs.Bytes.{pick}
use Rattle.names.specs.Words.{each}
use Rattle.records.specs.declared.sorts.Sort.{Sort as Kind}
use Rattle.records.specs.declared.sorts.Sort.TheVariants.{Plain as plain, Temp as temp, Divert as divert, Tunnel as tunnel, Thread as thread, Call as call, Variable as variable, Argument as argument, Choice as choice, Gather as gather, Parameter as parameter, StitchName as stitch_name, FlowStart as flow_start}
use Rattle.records.specs.Items.{What, is}
use Rattle.rules.specs.declared.Rule.{Rule}
use Rattle.rules.specs.declared.Rule.TheVariants.{FunctionDivertedTo, TargetNotFound, FlowCalled, NameIsFunction, NameIsGlobal, TempIsParameter, TempIsLabel, ParameterUnmarked, ParameterAlreadyMarked, GatherRepeated, ChoiceUndiverted, FunctionWithStitches, FunctionWithChoice, FunctionWithDivert, VariableForbidden}
use Rattle.rules.specs.Rules.{Known, Here, broken}
use Rattle.rules.specs.Steps.{bracket, root_steps, flow_steps, stitch_steps, s19, s20}
use Rattle.broken.specs.declared.At.{At}
use Rattle.broken.specs.Things.{ThingIs}
use Rattle.broken.specs.Scopes.{known_in, here_in, before_at, broken_at}
use Rattle.steps.specs.Clear.{clear_of, among}
use Rattle.steps.specs.Looks.{look_rules, can_break, of_sort, look_table, ClearAt}

-- 1. The steps that a look stands for

-- the root: steps 1 to 4, and 20
pub root-looked : among (each bracket root_steps) (look_rules false false) ≡ true
unfolding among look_rules
root-looked = refl

pub root-gathers-looked : among (each bracket (s20 ∷ [])) (look_rules false false) ≡ true
unfolding among look_rules
root-gathers-looked = refl

-- a flow: steps 7 to 11, and 19
pub flow-looked : (function : Bool) → among (each bracket flow_steps) (look_rules false function) ≡ true
unfolding among look_rules
flow-looked true = refl
flow-looked false = refl

pub flow-gathers-looked : (function : Bool) → among (each bracket (s19 ∷ [])) (look_rules false function) ≡ true
unfolding among look_rules
flow-gathers-looked true = refl
flow-gathers-looked false = refl

-- the rules of step 5 on the items of a function
pub purity-looked : among (FunctionWithChoice ∷ FunctionWithDivert ∷ []) (look_rules false true) ≡ true
unfolding among look_rules
purity-looked = refl

-- a stitch: steps 13 to 18
pub stitch-looked : among (each bracket stitch_steps) (look_rules true false) ≡ true
unfolding among look_rules
stitch-looked = refl

-- 2. A rule is broken only at things of its sorts

-- of one, two and three sorts, none
one_none : (a : Bool) → a || false ≡ false → a ≡ false
one_none true e = e
one_none false e = refl

two_none : (a b : Bool) → a || (b || false) ≡ false → (a || b) ≡ false
two_none true b e = e
two_none false b e = one_none b e

three-none : (a b c : Bool) → a || (b || (c || false)) ≡ false → (a || b || c) ≡ false
three-none true b c e = e
three-none false b c e = two_none b c e

module _ (k : Known) (h : Here) (before : List What) where
  -- THE SORTS: a rule is not broken at a thing of another sort
  pub not-of-sort : (r : Rule) (w : What) → can_break w.kind r ≡ false → broken k h before r w ≡ false
  unfolding can_break broken
  not-of-sort FunctionDivertedTo w e = rw (three-none (is divert w) (is tunnel w) (is thread w) e)
  not-of-sort TargetNotFound w e = rw (three-none (is divert w) (is tunnel w) (is thread w) e)
  not-of-sort FlowCalled w e = rw (one_none (is call w) e)
  not-of-sort NameIsFunction w e = rw (two_none (is temp w) (is parameter w) e)
  not-of-sort NameIsGlobal w e = rw (two_none (is parameter w) (is stitch_name w) e)
  not-of-sort TempIsParameter w e = rw (one_none (is temp w) e)
  not-of-sort TempIsLabel w e = rw (one_none (is temp w) e)
  not-of-sort ParameterUnmarked w e = rw (three-none (is divert w) (is tunnel w) (is thread w) e)
  not-of-sort ParameterAlreadyMarked w e = rw (one_none (is argument w) e)
  not-of-sort GatherRepeated w e = rw (one_none (is gather w) e)
  not-of-sort ChoiceUndiverted w e = rw (one_none (is choice w) e)
  not-of-sort FunctionWithStitches w e = rw (one_none (is flow_start w) e)
  not-of-sort FunctionWithChoice w e = one_none (is choice w) e
  not-of-sort FunctionWithDivert w e = rw (one_none (is divert w) e)
  not-of-sort VariableForbidden w e = rw (one_none (is variable w) e)

  -- where it is broken, the thing is of one of its sorts
  pub sort-rules : (r : Rule) (w : What) → broken k h before r w ≡ true → can_break w.kind r ≡ true
  sort-rules r w e = by-test (can_break w.kind r) (not-of-sort r w)
    where
      by-test : (b : Bool) → (b ≡ false → broken k h before r w ≡ false) → b ≡ true
      by-test true n = refl
      by-test false n = absurd (true≢false (sym e ∙ n refl))

  -- the rules of the thing's sort are enough
  pub clear-sort : (rs : List Rule) (w : What) → clear_of k h rs before w ≡ clear_of k h (of_sort w.kind rs) before w
  unfolding clear_of of_sort
  clear-sort [] w = refl
  clear-sort (r ∷ rs) w = rw (clear-sort rs w) (by-test (can_break w.kind r) refl)
    where
      by-test : (b : Bool) → can_break w.kind r ≡ b
          → (not (broken k h before r w) && clear_of k h (of_sort w.kind rs) before w) ≡ clear_of k h (pick b (r ∷ of_sort w.kind rs) (of_sort w.kind rs)) before w
      by-test true e = refl
      by-test false e = rw (not-of-sort r w e)

-- 3. The rules of a look by sort

-- the sorts
abbrev all_sorts : List Kind
all_sorts = plain ∷ temp ∷ divert ∷ tunnel ∷ thread ∷ call ∷ variable ∷ argument ∷ choice ∷ gather ∷ parameter ∷ stitch_name ∷ flow_start ∷ []

-- all at once
all-looked : (inner function : Bool) → map (λ (k : Kind). of_sort k (look_rules inner function)) all_sorts ≡ map (look_table inner function) all_sorts
unfolding look_rules of_sort can_break
all-looked false false = refl
all-looked false true = refl
all-looked true false = refl
all-looked true true = refl

-- THE TABLE has at each sort the rules of a look that can be broken there
pub look-table : (inner function : Bool) (sort : Kind) → of_sort sort (look_rules inner function) ≡ look_table inner function sort
look-table inner function plain = ap (λ (l : List (List Rule)). get_or l 0 []) (all-looked inner function)
look-table inner function temp = ap (λ (l : List (List Rule)). get_or l 1 []) (all-looked inner function)
look-table inner function divert = ap (λ (l : List (List Rule)). get_or l 2 []) (all-looked inner function)
look-table inner function tunnel = ap (λ (l : List (List Rule)). get_or l 3 []) (all-looked inner function)
look-table inner function thread = ap (λ (l : List (List Rule)). get_or l 4 []) (all-looked inner function)
look-table inner function call = ap (λ (l : List (List Rule)). get_or l 5 []) (all-looked inner function)
look-table inner function variable = ap (λ (l : List (List Rule)). get_or l 6 []) (all-looked inner function)
look-table inner function argument = ap (λ (l : List (List Rule)). get_or l 7 []) (all-looked inner function)
look-table inner function choice = ap (λ (l : List (List Rule)). get_or l 8 []) (all-looked inner function)
look-table inner function gather = ap (λ (l : List (List Rule)). get_or l 9 []) (all-looked inner function)
look-table inner function parameter = ap (λ (l : List (List Rule)). get_or l 10 []) (all-looked inner function)
look-table inner function stitch_name = ap (λ (l : List (List Rule)). get_or l 11 []) (all-looked inner function)
look-table inner function flow_start = ap (λ (l : List (List Rule)). get_or l 12 []) (all-looked inner function)

-- 4. At a thing

module _ (sections : Sections) (file kept : List ℕ) (at : At) where
  -- what is answered for all rules is what is answered for those that are left
  pub record ClearLeft (rs left : List Rule) : Type 0 where
    pub says : (w : What) → ThingIs file at.thing w
        → clear_of (known_in sections file) (here_in file kept at.site.scope) rs (before_at file kept at) w
        ≡ clear_of (known_in sections file) (here_in file kept at.site.scope) left (before_at file kept at) w

  -- before the first
  pub clear-start : (rs : List Rule) → ClearLeft rs rs
  clear-start rs = record { says = λ w i. refl }

  module _ {rs left : List Rule} (u : ClearLeft rs left) where
    -- none is left
    pub clear-end : left ≡ [] → ClearAt sections file kept at rs true
    unfolding clear_of
    clear-end e = record { says = λ w i. sym (u.says w i ∙ rw e) }

    module _ {r : Rule} {more : List Rule} (e : left ≡ r ∷ more) {b : Bool} (test : (w : What) → ThingIs file at.thing w → b ≡ broken_at sections file kept at r w) where
      -- the next is broken
      pub clear-stop : b ≡ true → ClearAt sections file kept at rs false
      unfolding clear_of
      clear-stop f = record { says = λ w i. sym (u.says w i ∙ rw (e, ← test w i, f)) }

      -- it is not
      pub clear-go : b ≡ false → ClearLeft rs more
      unfolding clear_of
      clear-go f = record { says = λ w i. u.says w i ∙ rw (e, ← test w i, f) }

  -- THE SORT of the thing decides which rules are tested
  pub clear-by-sort : (inner function : Bool) {rs : List Rule} {x : Bool} → rs ≡ look_table inner function at.thing.sort → ClearAt sections file kept at rs x
      → ClearAt sections file kept at (look_rules inner function) x
  clear-by-sort inner function {rs} {x} e c = record { says = says }
    where
      says : (w : What) → ThingIs file at.thing w
          → x ≡ clear_of (known_in sections file) (here_in file kept at.site.scope) (look_rules inner function) (before_at file kept at) w
      says w i =
          let k = known_in sections file in
          let h = here_in file kept at.site.scope in
          let before = before_at file kept at in
          let own : of_sort w.kind (look_rules inner function) ≡ rs = look-table inner function w.kind ∙ ap (look_table inner function) i.sort ∙ sym e in
          c.says w i ∙ sym (clear-sort k h before (look_rules inner function) w ∙ ap (λ (l : List Rule). clear_of k h l before w) own)
