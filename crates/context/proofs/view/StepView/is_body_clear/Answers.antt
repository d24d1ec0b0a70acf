-- `is_body_clear`. The loop's invariant: nothing is broken before item i, and the filter has the gathers before it. Assumes nothing.
use native.Mathlib.Omega.{arith}
use Rattle.filters.proofs.Bodies.{gathered-start, gathered_next}
use Rattle.context.proofs.Walks.{run-item, run_end}
use Rattle.context.proofs.Clear.{unbroken_start, unbroken_end, unbroken_next, unbroken_broken}
use Rattle.context.proofs.view.StepView.is_body_clear.Goals as goal

pub loop-i-init : goal.loop-i-init
loop-i-init c = record { unbroken = unbroken_start _ _ _ _; gathered = gathered-start _ _ _ _ _ }

pub returns-then-not-is_item_clear : goal.returns-then-not-is_item_clear
returns-then-not-is_item_clear c =
    let there = run-item _ _ _ _ c.body_items-items.ensures c.loop-i.i (omega arith) in
    unbroken_broken c.loop-i.invariant.unbroken there c.is_item_clear.ensures c.if-not-is_item_clear.true

pub loop-i-preserved : goal.loop-i-preserved
loop-i-preserved c =
    let run = c.body_items-items.ensures in
    let there = run-item _ _ _ _ run c.loop-i.i (omega arith) in
    record {
      unbroken = unbroken_next c.loop-i.invariant.unbroken there c.is_item_clear.ensures c.if-not-is_item_clear.false;
      gathered = gathered_next c.loop-i.invariant.gathered run (omega arith) c.pass_item.ensures;
    }

pub returns : goal.returns
returns c = unbroken_end c.loop-i.invariant.unbroken (run_end _ _ _ _ c.body_items-items.ensures _ (omega arith))
