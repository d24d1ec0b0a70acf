-- `searches::views::title_view`: the heading's offsets, from the name's place on. Assumes nothing.
use native.Mathlib.Omega.{arith}
use Rattle.searches.proofs.Viewed.{places-order, title-view-at, title-view-none}
use Rattle.searches.proofs.views.title_view.Goals as goal

pub returns-in_err-h : goal.returns-in_err-h
returns-in_err-h c = rw c.from_residual.ensures (title-view-none _ _ _ c.read_heading.ensures c.ok.ensures.value c.in_err-h.was)

pub overflow_add-result : goal.overflow_add-result
overflow_add-result c = let o = places-order c.args.file.now c.args.name c.args.end c.read_heading.ensures c.ok.ensures.value c.in_ok-h.h c.in_ok-h.was in omega arith

pub overflow_add-result-2 : goal.overflow_add-result-2
overflow_add-result-2 c = let o = places-order c.args.file.now c.args.name c.args.end c.read_heading.ensures c.ok.ensures.value c.in_ok-h.h c.in_ok-h.was in omega arith

pub overflow_add-result-3 : goal.overflow_add-result-3
overflow_add-result-3 c = let o = places-order c.args.file.now c.args.name c.args.end c.read_heading.ensures c.ok.ensures.value c.in_ok-h.h c.in_ok-h.was in omega arith

pub overflow_add-result-4 : goal.overflow_add-result-4
overflow_add-result-4 c = let o = places-order c.args.file.now c.args.name c.args.end c.read_heading.ensures c.ok.ensures.value c.in_ok-h.h c.in_ok-h.was in omega arith

pub returns : goal.returns
returns c = title-view-at _ _ _ c.read_heading.ensures c.ok.ensures.value c.in_ok-h.h c.in_ok-h.was
