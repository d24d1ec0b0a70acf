-- Each refusal has a file of which it is stated: every row of 01's examples is one. Assumes nothing.
use mathlib.Core.Path.{◌≡◌, ◌∙◌, ap}
use Prim.Native.Nat.{ℕ}
use Rattle.names.specs.Words.{◌∈◌}
use Rattle.validator.specs.Results.{refused}
use Rattle.validator.specs.Check.{Report}
use Rattle.validator.proofs.Examples.{Row, reported, refusals, examples, row-reports}
use Rattle.demands.specs.Refusals.{Unchecked}
use Rattle.demands.proofs.Demand1.{unchecked-so}

-- a row of the table of refusals that has the number n states refusal n of its file and buffers
pub refusals-met : (row : Row) → row ∈ refusals → (n : ℕ) → row.report.result ≡ refused n → Unchecked row.file row.index row.message n
unfolding reported
refusals-met row m n e =
    unchecked-so row.file row.index row.message n (ap (λ (p : Report). p.result) (row-reports refusals examples.each-refusal row m) ∙ e)
