-- `check_gather_label`: the tests pick rule 10. Assumes nothing.
use mathlib.Core.Path.{refl}
use Rattle.checks.proofs.Cases.{picked, passed, gathers_judged}
use Rattle.filters.proofs.gathers.check_gather_label.Goals as goal

pub returns-then-has_gather_in : goal.returns-then-has_gather_in
returns-then-has_gather_in c k h =
    rw (gathers_judged k h _ _) (picked _ (c.is_sort.ensures _) c.if-is_sort.true (picked _ (rw c.item_name-name.ensures at c.has_gather_in.ensures) c.if-has_gather_in.true refl))

pub returns-else-has_gather_in : goal.returns-else-has_gather_in
returns-else-has_gather_in c k h =
    rw (gathers_judged k h _ _) (picked _ (c.is_sort.ensures _) c.if-is_sort.true (passed _ (rw c.item_name-name.ensures at c.has_gather_in.ensures) c.if-has_gather_in.false refl))
