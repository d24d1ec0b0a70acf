-- `steps::headings::validate_function_purity` meets its contract. Assumes nothing.
use mathlib.Core.Path.{refl}
use Rattle.steps.proofs.Naming.{purity-function, purity-none}
use Rattle.steps.proofs.headings.validate_function_purity.Goals as goal

pub returns-then-h : goal.returns-then-h
returns-then-h c = record { list_after = λ s f k same. purity-function s f k same c.if-h.true c.visit_name-after.ensures (c.validate_nodes.ensures.list_after s k); body_unchanged = c.validate_nodes.ensures.body_unchanged refl }

pub returns : goal.returns
returns c = record { list_after = λ s f k same. purity-none s f k same c.if-h.false c.next_run.ensures; body_unchanged = refl }
