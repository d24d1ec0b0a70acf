-- Laws of traces and of runs over them. Assumes nothing.
use Rattle.std.proofs.Common.{◌≡◌, ℕ, ◌+◌, refl, ap, add_assoc}
use Rattle.fields.specs.declared.Refusal.{Refusal}
use Rattle.records.specs.Trace.{Trace, done, refuse, emit, and_then, shift}
use Rattle.records.specs.Work.{Visitor, bind, run}

-- 1. Traces

pub shift-then : (k : ℕ) (t u : Trace) → shift k (and_then t u) ≡ and_then (shift k t) (shift k u)
unfolding shift and_then
shift-then k done u = refl
shift-then k (refuse r) u = refl
shift-then k (emit role kind p bs t) u = ap (emit role kind (k + p) bs) (shift-then k t u)

pub shift-shift : (a b : ℕ) (t : Trace) → shift a (shift b t) ≡ shift (a + b) t
unfolding shift
shift-shift a b done = refl
shift-shift a b (refuse r) = refl
shift-shift a b (emit role kind p bs t) = rw (add_assoc a b p) (ap (emit role kind (a + (b + p)) bs) (shift-shift a b t))

pub then-done : (t : Trace) → and_then t done ≡ t
unfolding and_then
then-done done = refl
then-done (refuse r) = refl
then-done (emit role kind p bs t) = ap (emit role kind p bs) (then-done t)

pub then-assoc : (t u w : Trace) → and_then (and_then t u) w ≡ and_then t (and_then u w)
unfolding and_then
then-assoc done u w = refl
then-assoc (refuse r) u w = refl
then-assoc (emit role kind p bs t) u w = rw (then-assoc t u w)

pub done-then : (u : Trace) → and_then done u ≡ u
unfolding and_then
done-then u = refl

pub refuse-then : (r : Refusal) (u : Trace) → and_then (refuse r) u ≡ refuse r
unfolding and_then
refuse-then r u = refl

pub shift-done : (k : ℕ) → shift k done ≡ done
unfolding shift
shift-done k = refl

-- 2. Runs

module _ {S : Type 0} (v : Visitor S) (b : ℕ) where
  -- t then u: the run of t, and where it ended well the run of u from there
  pub run-then : (s : S) (t u : Trace) → run v b s (and_then t u) ≡ bind (run v b s t) (λ s'. run v b s' u)
  unfolding run and_then bind
  run-then s done u = refl
  run-then s (refuse r) u = refl
  run-then s (emit role kind p bs t) u = run-then (v s role kind (b + p) bs) t u

  -- places k further are the same places from k further
  pub run-shift : (k : ℕ) (s : S) (t : Trace) → run v b s (shift k t) ≡ run v (b + k) s t
  unfolding run shift
  run-shift k s done = refl
  run-shift k s (refuse r) = refl
  run-shift k s (emit role kind p bs t) = rw (add_assoc b k p) (run-shift k (v s role kind (b + (k + p)) bs) t)
