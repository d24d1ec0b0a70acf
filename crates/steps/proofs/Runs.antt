-- Runs one after the other: what is heard along them. Assumes nothing.
use mathlib.Core.Path.{◌≡◌, refl, sym, ap, ◌∙◌}
use mathlib.Core.Bool.{Bool, true, false}
use mathlib.Core.List.Memᴰ
use mathlib.Core.List.{List, [], ◌∷◌, ◌++◌, map}
use Prim.Native.Nat.{ℕ, suc, ◌+◌, ◌≤◌}
use native.Mathlib.Omega.{arith}
use lib.ListN.{length}
use borrow.Author.Tests.{leb-false}
use Rattle.std.specs.Prelude.{IsSome}
use Rattle.fields.specs.Bytes.{pick}
use Rattle.names.specs.Words.{only, each}
use Rattle.names.proofs.Lists.{Every}
use Rattle.records.specs.Items.{Item}
use Rattle.story.specs.Story.{Story}
use Rattle.rules.specs.declared.Rule.{Rule}
use Rattle.rules.specs.Rules.{Scope}
use Rattle.rules.specs.Steps.{Step, Run, run, over, numbered, Visit, visits, Breach, breach, breaks, in_visit, in_run, bracket}
use Rattle.steps.specs.Heard.{onward, in_instance, breach_of, Heard, heard, full, added, hear, hear_all, pass, run_now, hear_runs}
use Rattle.steps.proofs.Hearing.{onward-before, passed-full, passed-room, passed_none, passed-more, hear-none, hear-room, hear-append, hear-full, all-instance}

-- 1. Some runs, then others; and where it is full

pub runs_append : (s : Story) (h : Heard) (us vs : List Run) → hear_runs s h (us ++ vs) ≡ hear_runs s (hear_runs s h us) vs
unfolding hear_runs
runs_append s h [] vs = refl
runs_append s h (u ∷ us) vs = runs_append s (pass 1 (hear_all h (in_run s (run_now h u)))) us vs

pub runs-full : (s : Story) (h : Heard) → full h ≡ true → (us : List Run) → hear_runs s h us ≡ h
unfolding hear_runs
runs-full s h e [] = refl
runs-full s h e (u ∷ us) = rw (hear-full h e (in_run s (run_now h u)), passed-full h.tally e 1) (runs-full s h e us)

pub runs-one : (s : Story) (h : Heard) (u : Run) → hear_runs s h (u ∷ []) ≡ pass 1 (hear_all h (in_run s (run_now h u)))
unfolding hear_runs
runs-one s h u = refl

-- steps over the same items, the first and then the others
pub over-next : (s : Story) (h : Heard) (scope : Scope) (items : List Item) (step : Step) (steps : List Step)
    → hear_runs s h (over scope items (step ∷ steps)) ≡ hear_runs s (pass 1 (hear_all h (in_run s (run_now h (run scope items step))))) (over scope items steps)
unfolding hear_runs over
over-next s h scope items step steps = refl

-- the runs of one thing after the other: what is to be heard from `start` on is what is to be heard of the things that are left
pub record Through {A : Type 0} (s : Story) (f : A → List Run) (all : List A) (start h : Heard) (rest : List A) : Type 0 where
  pub to-come : hear_runs s start (each f all) ≡ hear_runs s h (each f rest)

pub through-start : {A : Type 0} (s : Story) (f : A → List Run) (all : List A) (h : Heard) → Through s f all h h all
through-start s f all h = record { to-come = refl }

module _ {A : Type 0} {s : Story} {f : A → List Run} {all : List A} {start h : Heard} {rest : List A} (through : Through s f all start h rest) where
  pub through-next : {x : A} {more : List A} {g : Heard} → rest ≡ x ∷ more → g ≡ hear_runs s h (f x) → Through s f all start g more
  through-next {x} {more} e p = record { to-come = through.to-come ∙ rw (e, runs_append s h (f x) (each f more), p) }

  pub through-end : rest ≡ [] → h ≡ hear_runs s start (each f all)
  unfolding hear_runs
  through-end e = sym (through.to-come ∙ rw e)

  pub through-full : full h ≡ true → h ≡ hear_runs s start (each f all)
  through-full e = sym (through.to-come ∙ runs-full s h e (each f rest))

-- 2. Runs that find nothing

-- whatever its number, the run finds nothing
abbrev pub FindsNothing : Story → Run → Type 0
FindsNothing s u = (n : ℕ) → in_run s (record { no = n; it = u }) ≡ []

pub runs-clear : (s : Story) (h : Heard) (us : List Run) → Every (FindsNothing s) us → hear_runs s h us ≡ pass (length us) h
unfolding hear_runs hear_all
runs-clear s h [] none = ap (λ t. heard t h.list) (sym (passed_none h.tally))
runs-clear s h (u ∷ us) none =
    let one : 1 + length us ≡ suc (length us) = omega arith in
    rw (none u (Memᴰ.head refl) h.tally.instance)
    (runs-clear s (pass 1 h) us (λ v m. none v (Memᴰ.tail m)) ∙ rw (passed-more 1 (length us) h.tally, one))

-- 3. The number of a run is only in the breaches' numbers

-- the breach in the run of another number
abbrev pub renumber : ℕ → Breach → Breach
renumber n b = breach_of n b.rule b.place b.names

map-append : {A B : Type 0} (f : A → B) (xs ys : List A) → map f (xs ++ ys) ≡ map f xs ++ map f ys
map-append f [] ys = refl
map-append f (x ∷ xs) ys = ap (λ l. f x ∷ l) (map-append f xs ys)

module _ (s : Story) (u : Run) (m n : ℕ) where
  rules-renumbered : (v : Visit) (rs : List Rule)
      → each (λ (r : Rule). only (breaks s u v r) (breach (record { no = n; it = u }) v r)) rs
      ≡ map (renumber n) (each (λ (r : Rule). only (breaks s u v r) (breach (record { no = m; it = u }) v r)) rs)
  rules-renumbered v [] = refl
  rules-renumbered v (r ∷ rs) = by-test (breaks s u v r) _ (rules-renumbered v rs)
    where
      by-test : (b : Bool) {xs : List Breach} (ys : List Breach) → xs ≡ map (renumber n) ys
          → only b (breach (record { no = n; it = u }) v r) ++ xs ≡ map (renumber n) (only b (breach (record { no = m; it = u }) v r) ++ ys)
      by-test true ys e = ap (λ (l : List Breach). breach (record { no = n; it = u }) v r ∷ l) e
      by-test false ys e = e

  visits-renumbered : (vs : List Visit)
      → each (in_visit s (record { no = n; it = u })) vs ≡ map (renumber n) (each (in_visit s (record { no = m; it = u })) vs)
  visits-renumbered [] = refl
  visits-renumbered (v ∷ vs) =
      rw (map-append (renumber n) (in_visit s (record { no = m; it = u }) v) (each (in_visit s (record { no = m; it = u })) vs), rules-renumbered v (bracket u.step), visits-renumbered vs)

  pub run-renumbered : in_run s (record { no = n; it = u }) ≡ map (renumber n) (in_run s (record { no = m; it = u }))
  run-renumbered = visits-renumbered (visits [] u.items)

-- a run that finds nothing under one number finds nothing
pub nothing-anyway : (s : Story) (u : Run) (m : ℕ) → in_run s (record { no = m; it = u }) ≡ [] → FindsNothing s u
nothing-anyway s u m e n = run-renumbered s u m n ∙ ap (map (renumber n)) e

-- 4. All that is heard, but for the number of the run at hand

-- before the first run
abbrev pub unnumbered : Heard → Heard
unnumbered h = heard (in_instance 0 h.tally) h.list

hear-unnumbered : (h : Heard) (b : Breach) → unnumbered (hear h b) ≡ hear (unnumbered h) b
unfolding hear
hear-unnumbered h b = by-test (full h)
  where
    by-test : (f : Bool)
        → unnumbered (pick f h (added h b))
        ≡ pick f (unnumbered h) (added (unnumbered h) b)
    by-test true = refl
    by-test false = refl

pub all-unnumbered : (h : Heard) (bs : List Breach) → unnumbered (hear_all h bs) ≡ hear_all (unnumbered h) bs
unfolding hear_all
all-unnumbered h [] = refl
all-unnumbered h (b ∷ bs) = all-unnumbered (hear h b) bs ∙ rw (hear-unnumbered h b)

-- after a run, where so many numbers are left for the runs to come
runs_after : (s : Story) (us : List Run) (i : ℕ) → suc i + length us ≤ 4294967295
    → ((g : Heard) → g.tally.instance + length us ≤ 4294967295 → unnumbered (hear_runs s g us) ≡ unnumbered (hear_all g (each (in_run s) (numbered g.tally.instance us))))
    → (g : Heard) → g.tally.instance ≡ i → unnumbered (hear_runs s (pass 1 g) us) ≡ unnumbered (hear_all g (each (in_run s) (numbered (suc i) us)))
runs_after s us i fits rest g at = by-test (full g) refl
  where
    by-test : (b : Bool) → full g ≡ b → unnumbered (hear_runs s (pass 1 g) us) ≡ unnumbered (hear_all g (each (in_run s) (numbered (suc i) us)))
    by-test true e = rw (passed-full g.tally e 1, runs-full s g e us, hear-full g e (each (in_run s) (numbered (suc i) us)))
    by-test false e =
        let next = heard (in_instance (suc i) g.tally) g.list in
        let bs = each (in_run s) (numbered (suc i) us) in
        let on : onward g.tally.instance 1 ≡ suc i = onward-before g.tally.instance 1 (omega arith) ∙ omega arith in
        rw (passed-room g.tally e 1, on) (rest next fits ∙ all-unnumbered next bs ∙ sym (all-unnumbered g bs))

-- ALL that runs in order find is heard, numbered from the run at hand on
pub runs-all : (s : Story) (h : Heard) (us : List Run) → h.tally.instance + length us ≤ 4294967295
    → unnumbered (hear_runs s h us) ≡ unnumbered (hear_all h (each (in_run s) (numbered h.tally.instance us)))
unfolding hear_runs hear_all
runs-all s h [] fits = refl
runs-all s h (u ∷ us) fits =
    let bs = in_run s (run_now h u) in
    rw (hear-append h bs (each (in_run s) (numbered (suc h.tally.instance) us)))
    (runs_after s us h.tally.instance (omega arith) (λ g f. runs-all s g us f) (hear_all h bs) (all-instance h bs))

-- 5. The limit

-- at most so many breaches may be heard, and no more were
pub record Within (limit : ℕ) (h : Heard) : Type 0 where
  pub limit_is : h.tally.limit ≡ limit
  pub below : h.tally.count ≤ limit

module _ {limit : ℕ} where
  hear-within : (h : Heard) → Within limit h → (b : Breach) → Within limit (hear h b)
  hear-within h w b = by-test (full h) refl
    where
      by-test : (f : Bool) → full h ≡ f → Within limit (hear h b)
      by-test true e = rw (hear-none h e b) w
      by-test false e = rw (hear-room h e b) (record { limit_is = w.limit_is; below = omega (arith, w.limit_is, leb-false h.tally.limit h.tally.count e) })

  all-within : (h : Heard) → Within limit h → (bs : List Breach) → Within limit (hear_all h bs)
  unfolding hear_all
  all-within h w [] = w
  all-within h w (b ∷ bs) = all-within (hear h b) (hear-within h w b) bs

  pass-within : (n : ℕ) (h : Heard) → Within limit h → Within limit (pass n h)
  pass-within n h w = by-test (full h) refl
    where
      by-test : (f : Bool) → full h ≡ f → Within limit (pass n h)
      by-test true e = rw (passed-full h.tally e n) w
      by-test false e = rw (passed-room h.tally e n) (record { limit_is = w.limit_is; below = w.below })

  pub runs-within : (s : Story) (h : Heard) → Within limit h → (us : List Run) → Within limit (hear_runs s h us)
  unfolding hear_runs
  runs-within s h w [] = w
  runs-within s h w (u ∷ us) =
      let bs = in_run s (run_now h u) in
      runs-within s (pass 1 (hear_all h bs)) (pass-within 1 (hear_all h bs) (all-within h w bs)) us

-- 6. The last breach

-- the tally has the last breach where one was heard
pub record HasLast (h : Heard) : Type 0 where
  pub last : (h.tally.count ≡ 0 → ⊥) → IsSome h.tally.last

-- what is heard keeps it
hear-last : (h : Heard) → HasLast h → (b : Breach) → HasLast (hear h b)
hear-last h l b = by-test (full h) refl
  where
    by-test : (f : Bool) → full h ≡ f → HasLast (hear h b)
    by-test true e = rw (hear-none h e b) l
    by-test false e = rw (hear-room h e b) (record { last = λ z. refl })

-- so do breaches one after the other,
all-last : (h : Heard) → HasLast h → (bs : List Breach) → HasLast (hear_all h bs)
unfolding hear_all
all-last h l [] = l
all-last h l (b ∷ bs) = all-last (hear h b) (hear-last h l b) bs

-- runs that find nothing,
pass-last : (n : ℕ) (h : Heard) → HasLast h → HasLast (pass n h)
pass-last n h l = by-test (full h) refl
  where
    by-test : (f : Bool) → full h ≡ f → HasLast (pass n h)
    by-test true e = rw (passed-full h.tally e n) l
    by-test false e = rw (passed-room h.tally e n) (record { last = l.last })

-- and runs one after the other
pub runs-last : (s : Story) (h : Heard) → HasLast h → (us : List Run) → HasLast (hear_runs s h us)
unfolding hear_runs
runs-last s h l [] = l
runs-last s h l (u ∷ us) =
    let bs = in_run s (run_now h u) in
    runs-last s (pass 1 (hear_all h bs)) (pass-last 1 (hear_all h bs) (all-last h l bs)) us
