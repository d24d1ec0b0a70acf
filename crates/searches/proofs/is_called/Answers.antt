-- `searches::is_called`: the flag and the name of a flow, as `flow_in` has them. Assumes nothing.
use Rattle.std.proofs.Common.{sym, ◌∙◌}
use Rattle.searches.proofs.Called.{called-flow, called-function, called-other}
use Rattle.searches.proofs.is_called.Goals as goal
use Rattle.searches.proofs.is_called.Goals.{then-not-function, else-not-function}

pub returns-then-is_flagged : goal.returns-then-is_flagged
returns-then-is_flagged c =
    elim c.if-not-function.branch [
      | then-not-function w ↦ called-flow _ _ w.if-not-function.true c.same_at.ensures
      | else-not-function w ↦ called-function _ _ w.if-not-function.false (sym w.is_flagged.ensures ∙ sym w.value-is ∙ c.if-is_flagged.true) c.same_at.ensures
    ]

pub returns-else-is_flagged : goal.returns-else-is_flagged
returns-else-is_flagged c =
    elim c.if-not-function.branch [
      | then-not-function w ↦ cc
      | else-not-function w ↦ rw c.if-is_flagged.false (called-other _ _ w.if-not-function.false (sym w.is_flagged.ensures ∙ sym w.value-is ∙ c.if-is_flagged.false))
    ]
