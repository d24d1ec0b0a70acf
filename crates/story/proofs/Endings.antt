-- How a reading made of two ends. Assumes nothing.
use mathlib.Core.Path.{◌≡◌, refl, sym, ◌∙◌}
use Prim.Native.Nat.{ℕ}
use native.Mathlib.Omega.{arith}
use Rattle.records.specs.Trace.{Trace, done, refuse, emit, and_then, shift, Ending, well, refused, ends}

-- the first ending, or the second where the first is good
unfoldable pub then_ends : Ending → Ending → Ending
then_ends well e = e
then_ends (refused r) e = refused r

pub ends-then : (t u : Trace) → ends (and_then t u) ≡ then_ends (ends t) (ends u)
unfolding ends and_then then_ends
ends-then done u = refl
ends-then (refuse r) u = refl
ends-then (emit role kind p bs t) u = ends-then t u

pub ends-shift : (k : ℕ) (t : Trace) → ends (shift k t) ≡ ends t
unfolding ends shift
ends-shift k done = refl
ends-shift k (refuse r) = refl
ends-shift k (emit role kind p bs t) = ends-shift k t

-- both end well where the two together do
pub first-well : (a b : Ending) → then_ends a b ≡ well → a ≡ well
unfolding then_ends
first-well well b e = refl
first-well (refused r) b e = let z : ◌≡◌ {A = ℕ} 0 1 = cc in absurd (omega arith)

pub second-well : (a b : Ending) → then_ends a b ≡ well → b ≡ well
unfolding then_ends
second-well well b e = e
second-well (refused r) b e = let z : ◌≡◌ {A = ℕ} 0 1 = cc in absurd (omega arith)

-- both parts of a trace that ends well
pub both-well : (t u : Trace) → ends (and_then t u) ≡ well → (ends t ≡ well) × (ends u ≡ well)
both-well t u h = let e = sym (ends-then t u) ∙ h in (first-well (ends t) (ends u) e, second-well (ends t) (ends u) e)

pub shift-well : (a : ℕ) (t : Trace) → ends (shift a t) ≡ well → ends t ≡ well
shift-well a t h = sym (ends-shift a t) ∙ h
