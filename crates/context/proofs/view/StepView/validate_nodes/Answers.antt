-- `validate_nodes`. The loop's invariant: nothing is found before item i. Assumes nothing.
use mathlib.Core.Path.{refl}
use native.Mathlib.Omega.{arith}
use Rattle.filters.proofs.Bodies.{gathered_none}
use Rattle.context.proofs.Walks.{run-item, run_end, clean_start, clean_end, clean_next, clean_found}
use Rattle.context.proofs.view.StepView.validate_nodes.Goals as goal

pub loop-i-init : goal.loop-i-init
loop-i-init c = clean_start _ _ _ _ _

pub judge-requires : goal.judge-requires
judge-requires c = gathered_none _ refl

pub returns-in-Some : goal.returns-in-Some
returns-in-Some c =
    let there = run-item _ _ _ _ c.body_items-items.ensures c.loop-i.i (omega arith) in
    clean_found c.loop-i.invariant there c.judge.ensures c.in-Some.is (c.place_in.ensures.1 _) (c.named_at.ensures.0 _) c.breach_at.ensures

pub loop-i-preserved : goal.loop-i-preserved
loop-i-preserved c =
    let there = run-item _ _ _ _ c.body_items-items.ensures c.loop-i.i (omega arith) in
    clean_next c.loop-i.invariant there c.judge.ensures c.in_default.is

pub returns : goal.returns
returns c = clean_end c.loop-i.invariant (run_end _ _ _ _ c.body_items-items.ensures _ (omega arith))
