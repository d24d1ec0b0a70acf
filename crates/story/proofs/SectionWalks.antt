-- The sections of a file as the reading goes through them. Assumes nothing.
use Rattle.std.specs.Prelude.{Result, Ok, Err}
use mathlib.Core.Path.{◌≡◌, refl, sym, ◌∙◌}
use mathlib.Core.List.{List}
use Prim.Native.Nat.{ℕ, ◌-◌}
use native.Mathlib.Nat.{zero-add}
use native.Mathlib.Omega.{arith}
use lib.ListN.{take, drop}
use Rattle.fields.specs.declared.Refusal.{Refusal}
use Rattle.records.specs.Trace.{Trace, refuse, and_then, shift, Ending, well, refused, ends}
use Rattle.records.specs.Grammar.{nodes}
use Rattle.story.specs.Flows.{names, part}
use Rattle.story.specs.Endings.{ended_of}
use Rattle.records.specs.Work.{St, st, Visitor, run, Told}
use Rattle.records.proofs.Traces.{run-shift}
use Rattle.records.proofs.Walking.{told-refused, then-on, then-else}
use Rattle.story.proofs.Titled.{quiet, names-quiet}

module _ (v : Visitor St) (s₀ : St) where
  -- names, then what follows them
  module _ (s : List ℕ) (u : Trace) {w : Result Unit Refusal} (told : w ≡ ended_of (ends (names s))) where
    pub names-on : w ≡ (Ok tt) → run v 0 s₀ (and_then (names s) u) ≡ run v 0 s₀ u
    unfolding quiet and_then ended_of
    names-on q = rw (names-quiet s) (by_end (ends (names s)) (sym told ∙ q))
      where
        by_end : (e : Ending) → ended_of e ≡ (Ok tt) → run v 0 s₀ (and_then (quiet e) u) ≡ run v 0 s₀ u
        by_end well p = refl
        by_end (refused x) p = let z : ◌≡◌ {A = ℕ} 0 1 = cc in absurd (omega arith)

    pub names-refused : {x : Refusal} → w ≡ Err x → Told (run v 0 s₀ (and_then (names s) u)) (Err x) s₀.out
    unfolding quiet and_then ended_of
    names-refused {x} q = rw (names-quiet s) (by_end (ends (names s)) (sym told ∙ q))
      where
        by_end : (e : Ending) → ended_of e ≡ Err x → Told (run v 0 s₀ (and_then (quiet e) u)) (Err x) s₀.out
        by_end well p = let z : ◌≡◌ {A = ℕ} 0 1 = cc in absurd (omega arith)
        by_end (refused y) p = told-refused v 0 s₀ (refuse y) x (let z : y ≡ x = cc in rw z)

  -- the root, then the flows
  module _ (a e : ℕ) (s : List ℕ) (u : Trace) {w : Result ℕ Refusal} {o : List ℕ} (g : Told (run v a s₀ (nodes (take (e - a) (drop a s)))) w o) where
    inside : Told (run v 0 s₀ (shift a (nodes (part a e s)))) w o
    unfolding part
    inside = rw (run-shift v 0 a s₀ (nodes (take (e - a) (drop a s))), zero-add a) g

    pub root-on : (m : ℕ) → w ≡ Ok m → run v 0 s₀ (and_then (shift a (nodes (part a e s))) (shift e u)) ≡ run v e (st o m) u
    root-on m z = then-on v 0 s₀ (shift a (nodes (part a e s))) u e m inside z ∙ rw (zero-add e)

    pub root-else : {x : Refusal} → w ≡ Err x → Told (run v 0 s₀ (and_then (shift a (nodes (part a e s))) (shift e u))) w o
    root-else z = then-else v 0 s₀ (shift a (nodes (part a e s))) (shift e u) inside z
