-- A Negate, and those that it holds.
use Rattle.std.proofs.Common.{◌≡◌, ℕ, ◌-◌, ◌*◌, ◌<◌, zero, suc, ◌∷◌, ◌++◌, ap, arith}
use Rattle.builder.specs.Building.{number, negations}
use Rattle.builder.proofs.Putting.{puts_then}
use Rattle.builder.proofs.Builder.+negations.Goals as goal

negations-step : (n : ℕ) → 0 < n → negations n ≡ 3 ∷ number (5 * n) ++ negations (n - 1)
unfolding negations
negations-step zero h = absurd (omega arith)
negations-step (suc n) h =
    let held : n ≡ suc n - 1 = omega arith in
    ap (λ k. 3 ∷ number (5 * suc n) ++ negations k) held

pub returns-else-many-eq0 : goal.returns-else-many-eq0
returns-else-many-eq0 t c = rw (negations-step c.args.many (omega arith)) (puts_then _ _ _ _ _ c.head-else-many-eq0.ensures c.negations.ensures)
