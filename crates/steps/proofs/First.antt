-- What a check tells: at a limit of one breach it is the verdict. Assumes nothing.
use mathlib.Core.Path.{◌≡◌, refl, sym, ap, ◌∙◌, subst}
use mathlib.Core.Bool.{Bool, true, false}
use mathlib.Core.List.{List, [], ◌∷◌, ◌++◌, map}
use mathlib.Core.Option.{Option, none, some, some-injective, none-ne-some, some-ne-none}
use Prim.Native.Nat.{ℕ, zero, suc, ◌+◌, ◌≤◌}
use native.Mathlib.Omega.{arith}
use lib.Dec.{eqb}
use borrow.Author.Tests.{eqb-true, eqb-false, lt-leb, le-leb, eq-eqb, ne_eqb}
use Rattle.names.specs.Words.{each}
use Rattle.story.specs.Story.{Story}
use Rattle.rules.specs.Steps.{Run, numbered, runs, Breach, in_run, breaches, verdict, first}
use Rattle.std.specs.Prelude as core
use Rattle.std.specs.Prelude.{None, Some}
use Rattle.steps.specs.declared.Tally.{Tally}
use Rattle.steps.specs.declared.Last.{Last}
use Rattle.steps.specs.Heard.{fresh, Heard, heard, full, hear, hear_all, pass, run_now, hear_runs, Told, told_of, last_of, last_told, told, told_verdict}
use Rattle.steps.proofs.Hearing.{passed-full, passed-room, hear-room, hear-full}
use Rattle.steps.proofs.Runs.{runs-full, renumber, run-renumbered, runs-within}

-- 1. Before the first breach, at a limit of one

-- nothing heard yet, and one may be
pub record Waiting (h : Heard) : Type 0 where
  pub limit : h.tally.limit ≡ 1
  pub count : h.tally.count ≡ 0

module _ {h : Heard} (w : Waiting h) where
  open-yet : full h ≡ false
  open-yet = lt-leb h.tally.limit h.tally.count (omega (arith, w.limit, w.count))

  -- a run that finds nothing
  pub waiting-on : (n : ℕ) → Waiting (pass n h)
  waiting-on n = let e = passed-room h.tally open-yet n in record {
    limit = ap (λ (t : Tally). t.limit) e ∙ w.limit;
    count = ap (λ (t : Tally). t.count) e ∙ w.count;
  }

  told_none : told h.tally ≡ none
  unfolding told
  told_none = rw (eq-eqb h.tally.count 0 w.count)

  -- the first breach is the last that is heard
  module _ (b : Breach) (bs : List Breach) where
    one : full (hear h b) ≡ true
    one = rw (hear-room h open-yet b) (le-leb h.tally.limit (h.tally.count + 1) (omega (arith, w.limit, w.count)))

    all_one : hear_all h (b ∷ bs) ≡ hear h b
    unfolding hear_all
    all_one = hear-full (hear h b) one bs

    told-one : told (hear h b).tally ≡ some (some (told_of b))
    unfolding told
    told-one = rw (hear-room h open-yet b, ne_eqb (h.tally.count + 1) 0 (λ e. omega arith))

    then-full : (s : Story) (us : List Run) → hear_runs s (pass 1 (hear_all h (b ∷ bs))) us ≡ hear h b
    then-full s us = rw (all_one, passed-full (hear h b).tally one 1) (runs-full s (hear h b) one us)

-- 2. Along the runs, whatever their numbers

along : (s : Story) (h : Heard) → Waiting h → (us : List Run) (n : ℕ)
    → told (hear_runs s h us).tally ≡ told_verdict (first (each (in_run s) (numbered n us)))
unfolding hear_runs hear_all told_verdict
along s h w [] n = told_none w
along s h w (u ∷ us) n = by-run (in_run s (run_now h u)) (run-renumbered s u h.tally.instance n) (λ g v. along s g v us (suc n))
  where
    by-run : (bs : List Breach) → in_run s (record { no = n; it = u }) ≡ map (renumber n) bs
        → ((g : Heard) → Waiting g → told (hear_runs s g us).tally ≡ told_verdict (first (each (in_run s) (numbered (suc n) us))))
        → told (hear_runs s (pass 1 (hear_all h bs)) us).tally ≡ told_verdict (first (in_run s (record { no = n; it = u }) ++ each (in_run s) (numbered (suc n) us)))
    by-run [] e rest = rw e (rest (pass 1 h) (waiting-on w 1))
    by-run (b ∷ bs) e rest = rw (e, then-full w b bs s us) (told-one w b bs)

-- 3. THE VERDICT

-- from a fresh tally at a limit of one, the runs of the story tell its verdict
pub heard-first : (s : Story) (list : List ℕ) → told (hear_runs s (heard (fresh 1) list) (runs s)).tally ≡ told_verdict (verdict s)
unfolding verdict breaches
heard-first s list = along s (heard (fresh 1) list) (record { limit = refl; count = refl }) (runs s) 0

-- 4. A verdict by what a tally tells

-- the last breach that a tally heard is this one, but for the number of its run
pub record LastHeard (t : Tally) (b : Breach) : Type 0 where
  pub last : t.last ≡ Some (last_of b)

-- accepted where nothing was heard, and else the last breach heard is the first of the story
pub record Tells (t : Tally) (v : Option Breach) : Type 0 where
  pub nothing : t.count ≡ 0 → v ≡ none
  pub accepted : v ≡ none → t.count ≡ 0
  pub something : (t.count ≡ 0 → ⊥) → (b : Breach) × (v ≡ some b)
  pub broken : (b : Breach) → v ≡ some b → (t.count ≡ 0 → ⊥) × LastHeard t b

-- what is told of a last breach, is what it is
told_back : (o : core.Option Last) (b : Breach) → last_told o ≡ some (told_of b) → o ≡ Some (last_of b)
told_back None b e = absurd (none-ne-some (told_of b) e)
told_back (Some l) b e = ap (λ (x : Told). Some (record { rule = x.rule; place = x.place; names = record { first = x.first; second = x.second } })) (some-injective _ _ e)

module _ (t : Tally) where
  nothing-told : t.count ≡ 0 → told t ≡ none
  unfolding told
  nothing-told e = rw (eq-eqb t.count 0 e)

  is_told : (t.count ≡ 0 → ⊥) → told t ≡ some (last_told t.last)
  unfolding told
  is_told e = rw (ne_eqb t.count 0 e)

  -- a tally has heard something, or nothing
  none-heard : told t ≡ none → t.count ≡ 0
  none-heard e = by-test (eqb t.count 0) refl
    where
      by-test : (b : Bool) → eqb t.count 0 ≡ b → t.count ≡ 0
      by-test true f = eqb-true t.count 0 f
      by-test false f = absurd (some-ne-none _ (sym (is_told (eqb-false t.count 0 f)) ∙ e))

  one-heard : (b : Breach) → told t ≡ some (some (told_of b)) → (t.count ≡ 0 → ⊥) × LastHeard t b
  one-heard b e =
      let n : t.count ≡ 0 → ⊥ = λ z. none-ne-some (some (told_of b)) (sym (nothing-told z) ∙ e) in
      (n, record { last = told_back t.last b (some-injective _ _ (sym (is_told n) ∙ e)) })

pub tells : (t : Tally) (v : Option Breach) → told t ≡ told_verdict v → Tells t v
unfolding told_verdict
tells t none e = record {
  nothing = λ z. refl;
  accepted = λ z. none-heard t e;
  something = λ n. absurd (n (none-heard t e));
  broken = λ b z. absurd (none-ne-some b z);
}
tells t (some b) e = record {
  nothing = λ z. absurd ((one-heard t b e).0 z);
  accepted = λ z. absurd (some-ne-none b z);
  something = λ n. (b, refl);
  broken = λ c z. let same = some-injective b c z in subst (λ (d : Breach). (t.count ≡ 0 → ⊥) × LastHeard t d) same (one-heard t b e);
}

-- THE CHECK: what the runs of a story tell at a limit of one
pub heard-tells : (s : Story) (list : List ℕ) → Tells (hear_runs s (heard (fresh 1) list) (runs s)).tally (verdict s)
heard-tells s list = tells (hear_runs s (heard (fresh 1) list) (runs s)).tally (verdict s) (heard-first s list)

-- it has heard one breach where the story has one
pub heard-one : (s : Story) (list : List ℕ) (b : Breach) → verdict s ≡ some b → (hear_runs s (heard (fresh 1) list) (runs s)).tally.count ≡ 1
heard-one s list b e =
    let w = runs-within s (heard (fresh 1) list) (record { limit_is = refl; below = omega arith }) (runs s) in
    one-of-one _ w.below ((heard-tells s list).broken b e).0
  where
    one-of-one : (n : ℕ) → n ≤ 1 → (n ≡ 0 → ⊥) → n ≡ 1
    one-of-one zero l z = absurd (z refl)
    one-of-one (suc n) l z = omega arith
