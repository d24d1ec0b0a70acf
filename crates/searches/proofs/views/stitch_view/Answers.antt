-- `searches::views::stitch_view`: what stands after the length. Assumes nothing.
use native.Mathlib.Omega.{arith}
use Rattle.searches.proofs.Viewed.{piece-within, stitch-view-at, stitch-view-none}
use Rattle.searches.proofs.views.stitch_view.Goals as goal

pub returns-in_err-e : goal.returns-in_err-e
returns-in_err-e c = rw c.from_residual.ensures (stitch-view-none _ _ _ c.read_list.ensures c.ok.ensures.value c.in_err-e.was)

pub overflow_add-at-2 : goal.overflow_add-at-2
overflow_add-at-2 c = omega (arith, piece-within c.args.file.now c.args.at c.args.end c.read_list.ensures c.ok.ensures.value c.in_ok-e.e c.in_ok-e.was)

pub title_view-requires : goal.title_view-requires
title_view-requires c = omega (arith, piece-within c.args.file.now c.args.at c.args.end c.read_list.ensures c.ok.ensures.value c.in_ok-e.e c.in_ok-e.was)

pub returns : goal.returns
returns c = rw (stitch-view-at _ _ _ c.read_list.ensures c.ok.ensures.value c.in_ok-e.e c.in_ok-e.was) c.title_view.ensures
