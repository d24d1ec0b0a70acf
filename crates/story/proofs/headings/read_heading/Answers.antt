-- `read_heading`: name, parameters, divert parameters, list. Assumes nothing.
use Rattle.std.proofs.Common.{arith, length-take, length-drop, ℕ, drop}
use Rattle.fields.specs.Bytes.{name_of, list_of}
use Rattle.fields.proofs.Laws.{handed_on, list-within, to_end}
use Rattle.story.specs.Headings.{heading_of, params_at, marks_at}
use Rattle.story.proofs.Reaches.{name-then, name-then-refused, counted-fits, list-at, list-at-refused}
use Rattle.story.proofs.headings.read_heading.Goals as goal

pub returns-in_err-params : goal.returns-in_err-params
unfolding heading_of
returns-in_err-params c =
    let s = c.args.s.now in
    rw (handed_on c.from_residual.result c.from_residual.ensures.1) (name-then-refused (name_of s) s c.in_err-params.field-0.0 c.read_name.ensures c.in_err-params.was)

pub returns-in_err-marks : goal.returns-in_err-marks
unfolding heading_of params_at
returns-in_err-marks c =
    let s = c.args.s.now in
    rw (handed_on c.from_residual-in_err-marks.result c.from_residual-in_err-marks.ensures.1, name-then (name_of s) s c.in_ok-params.params c.read_name.ensures c.in_ok-params.was, ← c.counted_reach.ensures, c.in_err-marks.was)

pub returns-in_err-list : goal.returns-in_err-list
unfolding heading_of params_at marks_at
returns-in_err-list c =
    let s = c.args.s.now in
    rw (handed_on c.from_residual-in_err-list.result c.from_residual-in_err-list.ensures.1, name-then (name_of s) s c.in_ok-params.params c.read_name.ensures c.in_ok-params.was, ← c.counted_reach.ensures, c.in_ok-marks.was, ← c.counted_reach-2.ensures, c.in_err-list.was)

pub slice_bounds-read_list-count : goal.slice_bounds-read_list-count
slice_bounds-read_list-count c = (counted-fits _ _ c.counted_reach-2.ensures c.in_ok-list.was).1

pub slice_bounds-read_list-start : goal.slice_bounds-read_list-start
slice_bounds-read_list-start c = omega (arith, counted-fits _ _ c.counted_reach-2.ensures c.in_ok-list.was)

pub overflow_add-result : goal.overflow_add-result
overflow_add-result c = omega (arith, counted-fits _ _ c.counted_reach-2.ensures c.in_ok-list.was)

pub overflow_add-result-2 : goal.overflow_add-result-2
overflow_add-result-2 c = omega (arith, counted-fits _ _ c.counted_reach-2.ensures c.in_ok-list.was, list-within _ c.in_ok-e.e c.read_list.ensures c.in_ok-e.was, length-take {A = ℕ}, length-drop {A = ℕ})

pub returns-in_err-e : goal.returns-in_err-e
unfolding heading_of params_at marks_at
returns-in_err-e c =
    let s = c.args.s.now in
    rw (handed_on c.from_residual-in_err-e.result c.from_residual-in_err-e.ensures.1, name-then (name_of s) s c.in_ok-params.params c.read_name.ensures c.in_ok-params.was, ← c.counted_reach.ensures, c.in_ok-marks.was, ← c.counted_reach-2.ensures, c.in_ok-list.was)
    (list-at-refused (list_of (drop c.in_ok-list.list s)) c.in_ok-params.params c.in_ok-marks.marks c.in_ok-list.list c.in_err-e.field-0.0 (rw (to_end c.in_ok-list.list s) at c.read_list.ensures) c.in_err-e.was)

pub returns : goal.returns
unfolding heading_of params_at marks_at
returns c =
    let s = c.args.s.now in
    rw (name-then (name_of s) s c.in_ok-params.params c.read_name.ensures c.in_ok-params.was, ← c.counted_reach.ensures, c.in_ok-marks.was, ← c.counted_reach-2.ensures, c.in_ok-list.was)
    (list-at (list_of (drop c.in_ok-list.list s)) c.in_ok-params.params c.in_ok-marks.marks c.in_ok-list.list c.in_ok-e.e (rw (to_end c.in_ok-list.list s) at c.read_list.ensures) c.in_ok-e.was)
