-- `searches::views::flow_view`: what stands after the length and the flag. Assumes nothing.
use native.Mathlib.Omega.{arith}
use Prim.Native.Nat.{◌+◌}
use Rattle.searches.specs.Views.{flagged_view}
use Rattle.searches.proofs.Viewed.{piece-within, flow-view-at, flow-view-none, title-none}
use Rattle.searches.proofs.views.flow_view.Goals as goal

pub returns-in_err-e : goal.returns-in_err-e
returns-in_err-e c = rw c.from_residual.ensures (flow-view-none _ _ _ c.read_list.ensures c.ok.ensures.value c.in_err-e.was)

pub returns-then-e-eq4 : goal.returns-then-e-eq4
unfolding flagged_view
returns-then-e-eq4 c =
    let a = c.args in
    rw (
      flow-view-at a.file.now a.at a.end c.read_list.ensures c.ok.ensures.value c.in_ok-e.e c.in_ok-e.was,
      ← title-none a.file.now (a.at + 5) (a.at + c.in_ok-e.e) (omega (arith, c.if-e-eq4.true)),
    )

pub overflow_add-at-2 : goal.overflow_add-at-2
overflow_add-at-2 c = omega (arith, piece-within c.args.file.now c.args.at c.args.end c.read_list.ensures c.ok.ensures.value c.in_ok-e.e c.in_ok-e.was)

pub title_view-requires : goal.title_view-requires
title_view-requires c = omega (arith, piece-within c.args.file.now c.args.at c.args.end c.read_list.ensures c.ok.ensures.value c.in_ok-e.e c.in_ok-e.was, c.if-e-eq4.false)

pub returns-in_err-own : goal.returns-in_err-own
unfolding flagged_view
returns-in_err-own c =
    rw (
      c.from_residual-in_err-own.ensures,
      flow-view-at _ _ _ c.read_list.ensures c.ok.ensures.value c.in_ok-e.e c.in_ok-e.was,
      ← c.title_view.ensures,
      c.in_err-own.was,
    )

pub bounds-file-at : goal.bounds-file-at
bounds-file-at c = omega (arith, piece-within c.args.file.now c.args.at c.args.end c.read_list.ensures c.ok.ensures.value c.in_ok-e.e c.in_ok-e.was, c.if-e-eq4.false)

pub returns : goal.returns
unfolding flagged_view
returns c = rw (flow-view-at _ _ _ c.read_list.ensures c.ok.ensures.value c.in_ok-e.e c.in_ok-e.was, ← c.title_view.ensures, c.in_ok-own.was)
