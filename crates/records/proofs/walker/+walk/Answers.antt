-- The walk: each function reads what its part of the grammar says. Assumes nothing.
use Rattle.std.specs.Prelude.{Ok}
use Rattle.std.proofs.Common.{ℕ, length, arith, length-take, length-drop, ◌+◌, ◌-◌, take, drop, ◌≡◌, refl, ap, sym, ◌∙◌, Ok, Some, None}
use Rattle.fields.specs.declared.Refusal.TheVariants.{Unknown}
use Rattle.fields.specs.declared.Role.TheVariants.{Branch, Visited, Node, Cond}
use Rattle.fields.proofs.Laws.{handed_on, list-within, head-within}
use Rattle.records.specs.Grammar.{record_of, arms, or_else, records, named, exact, body_of, repeat, branch, last, ending, front, nothing, listed, options}
use Rattle.records.specs.Work.{piece_of, st, keeping, is_choice, payload_leaves, put_leaves, over, head_end, list_end, nodes_of}
use Rattle.records.proofs.Walking.{sized-refused, sized-else, sized_on, moded-short, moded-on, moded-no, told-done, named-refused, named_none, named-on, flagged-refused, flagged-off, flagged-on, told-end, front-refused, front-else, front-on, pieces_none, pieces-refused, pieces-else, pieces-on, record-none, record-deep}
use Rattle.records.proofs.PiecesRead.{branch-test-refused, branch-list-refused, branch-answers, branch_fits, branch-on, branch-else, first_fits, first_on, first_else, piece-refused, first-answers, list-answers, test-off-answers, test-on-answers, test-on-refused, test-flag-refused}
use Rattle.records.proofs.Readings.{repeat-none, repeat-step, branch-local, exact-step, exact-end, front-local}
use Rattle.records.proofs.Choices.{choice-refused, choice-told, put_refused, put_done, end_refused, end_left, end_well, nodes-refused, nodes-ended, nodes-answers, second-there, record-noted}
use Rattle.fields.specs.Bytes.{list_of}
use Rattle.records.specs.Items.{end_with_divert, spanned, second_list}
use Rattle.records.proofs.Bare.{bare-answers, bare-on}
use Rattle.records.proofs.Leaving.{left-start, left-next, left_end}
use Rattle.records.proofs.walker.+walk.Goals as goal

pub arms-returns-in_err-m : goal.arms-returns-in_err-m
unfolding arms
arms-returns-in_err-m t c =
    let a = c.args in
    rw (handed_on c.from_residual-in_err-m.result c.from_residual-in_err-m.ensures.1) ((rw c.in_err-m.was at (sized-else keeping a.p.base (st a.out.now a.n) (records (record_of a.left Branch)) (or_else (record_of a.left)) a.p.bytes.now c.in_ok-e.e c.read_list.ensures c.in_ok-e.was (rw (c.between.ensures.base, c.between.ensures.bytes) at c.list.ensures) c.in_err-m.was)))

pub arms-returns-in_err-e : goal.arms-returns-in_err-e
unfolding arms
arms-returns-in_err-e t c =
    let a = c.args in
    rw (handed_on c.from_residual.result c.from_residual.ensures.1) (sized-refused keeping a.p.base (st a.out.now a.n) (records (record_of a.left Branch)) (or_else (record_of a.left)) a.p.bytes.now c.in_err-e.field-0.0 c.read_list.ensures c.in_err-e.was)

pub arms-returns : goal.arms-returns
unfolding arms
arms-returns t c =
    let a = c.args in
    rw (sized_on keeping a.p.base (st a.out.now a.n) (records (record_of a.left Branch)) (or_else (record_of a.left)) a.p.bytes.now c.in_ok-e.e c.in_ok-m.m c.read_list.ensures c.in_ok-e.was (rw (c.between.ensures.base, c.between.ensures.bytes) at c.list.ensures) c.in_ok-m.was) (rw (c.after.ensures.base, c.after.ensures.bytes) at c.else_arm.ensures)

pub assign-returns-then-p-lt1 : goal.assign-returns-then-p-lt1
assign-returns-then-p-lt1 t c =
    let a = c.args in
    moded-short keeping a.p.base (st a.out.now a.n) (named (exact 1 (record_of a.left Visited))) a.p.bytes.now (omega (arith, c.if-p-lt1.true))

pub assign-returns-in-0-to-3 : goal.assign-returns-in-0-to-3
assign-returns-in-0-to-3 t c =
    let a = c.args in
    let if1 = c.if-p-lt1 in
    rw (moded-on keeping a.p.base (st a.out.now a.n) (named (exact 1 (record_of a.left Visited))) a.p.bytes.now (omega (arith, if1.false)) (omega arith)) (rw (c.after.ensures.base, c.after.ensures.bytes) at c.set.ensures)

pub assign-returns-in-4-to-255 : goal.assign-returns-in-4-to-255
assign-returns-in-4-to-255 t c =
    let a = c.args in
    moded-no keeping a.p.base (st a.out.now a.n) (named (exact 1 (record_of a.left Visited))) a.p.bytes.now (omega (arith, c.if-p-lt1.false)) (omega arith)

pub body-returns-in-Exprs : goal.body-returns-in-Exprs
unfolding body_of put_leaves payload_leaves is_choice
body-returns-in-Exprs t c = rw c.in-Exprs.is c.exact.ensures

pub body-returns-in-Single : goal.body-returns-in-Single
unfolding body_of put_leaves payload_leaves is_choice
body-returns-in-Single t c = rw c.in-Single.is c.single.ensures

pub body-returns-in-Call : goal.body-returns-in-Call
unfolding body_of put_leaves payload_leaves is_choice
body-returns-in-Call t c = rw c.in-Call.is c.call.ensures

pub body-returns-in-Conditional : goal.body-returns-in-Conditional
unfolding body_of put_leaves payload_leaves is_choice
body-returns-in-Conditional t c = rw c.in-Conditional.is c.conditional.ensures

pub body-returns-in-Sequence : goal.body-returns-in-Sequence
unfolding body_of put_leaves payload_leaves is_choice
body-returns-in-Sequence t c = rw c.in-Sequence.is c.lists.ensures

pub body-returns-in-Switch : goal.body-returns-in-Switch
unfolding body_of put_leaves payload_leaves is_choice
body-returns-in-Switch t c = rw c.in-Switch.is c.switch.ensures

pub body-returns-in-Assign : goal.body-returns-in-Assign
unfolding body_of put_leaves payload_leaves is_choice
body-returns-in-Assign t c = rw c.in-Assign.is c.assign.ensures

pub body-returns-in-Choice : goal.body-returns-in-Choice
unfolding body_of payload_leaves is_choice
body-returns-in-Choice t c = rw c.in-Choice.is c.choice.ensures

pub branch-returns-in_err-e : goal.branch-returns-in_err-e
branch-returns-in_err-e t c = let a = c.args in rw (handed_on c.from_residual.result c.from_residual.ensures.1) (rw c.in_err-e.was at (branch-test-refused keeping a.p.base (st a.out.now a.n) (record_of a.left) a.p.bytes.now c.test.ensures c.in_err-e.field-0.0 c.in_err-e.was))

pub branch-returns-in_err-d : goal.branch-returns-in_err-d
branch-returns-in_err-d t c =
    let a = c.args in
    rw (handed_on c.from_residual-in_err-d.result c.from_residual-in_err-d.ensures.1) ((rw c.in_err-d.was at (branch-list-refused keeping a.p.base (st a.out.now a.n) (record_of a.left) a.p.bytes.now c.test.ensures c.in_ok-e.e c.in_ok-e.m c.in_ok-e.was (rw (c.after.ensures.base, c.after.ensures.bytes) at c.front_list.ensures) c.in_err-d.field-0.0 c.in_err-d.was)))

pub branch-returns : goal.branch-returns
branch-returns t c =
    let a = c.args in
    branch-answers keeping a.p.base (st a.out.now a.n) (record_of a.left) a.p.bytes.now c.test.ensures c.in_ok-e.e c.in_ok-e.m c.in_ok-e.was (rw (c.after.ensures.base, c.after.ensures.bytes) at c.front_list.ensures) c.in_ok-d.d c.in_ok-d.q c.in_ok-d.was

pub branches-returns-in_err-e : goal.branches-returns-in_err-e
branches-returns-in_err-e t c =
    let a = c.args in
    let l = c.loop-t in
    let piece = c.branch-t in
    rw (handed_on c.from_residual.result c.from_residual.ensures.1) (rw (l.invariant.1, repeat-step (branch (record_of a.left)) (branch-local (record_of a.left)) l.t.bytes.now c.loop-t-test.true) (branch-else keeping l.t.base (st l.out l.count) (record_of a.left) l.t.bytes.now piece.ensures (repeat (branch (record_of a.left))) c.in_err-e.field-0.0 c.in_err-e.was))

pub branches-loop-t-preserved : goal.branches-loop-t-preserved
branches-loop-t-preserved t c =
    let a = c.args in
    let l = c.loop-t in
    let piece = c.branch-t in rw (c.after-t.ensures.base, c.after-t.ensures.bytes) (
      omega (
        arith,
        (branch_fits keeping c.loop-t.t.base (st c.loop-t.out c.loop-t.count) (record_of c.args.left) c.loop-t.t.bytes.now c.branch-t.ensures c.in_ok-e.e c.in_ok-e.m c.in_ok-e.was),
        length-take {A = ℕ},
        length-drop {A = ℕ},
        l.invariant.0,
        piece.auto,
      ),
      l.invariant.1 ∙ rw (repeat-step (branch (record_of a.left)) (branch-local (record_of a.left)) l.t.bytes.now c.loop-t-test.true) (branch-on keeping l.t.base (st l.out l.count) (record_of a.left) l.t.bytes.now piece.ensures (repeat (branch (record_of a.left))) c.in_ok-e.e c.in_ok-e.m c.in_ok-e.was),
    )

pub branches-returns : goal.branches-returns
branches-returns t c =
    let a = c.args in
    let l = c.loop-t in
    rw l.invariant.1 (told-done keeping l.t.base (st l.out l.count) (repeat (branch (record_of a.left)) l.t.bytes.now) (repeat-none (branch (record_of a.left)) l.t.bytes.now c.loop-t-test.false))

pub call-returns-then-e-p : goal.call-returns-then-e-p
call-returns-then-e-p t c =
    let a = c.args in
    named_none keeping a.p.base (st a.out.now a.n) (record_of a.left a.role) a.p.bytes.now c.in_ok-e.e c.read_name.ensures c.in_ok-e.was c.if-e-p.true

pub call-returns-in_err-e : goal.call-returns-in_err-e
call-returns-in_err-e t c =
    let a = c.args in
    rw (handed_on c.from_residual.result c.from_residual.ensures.1) (named-refused keeping a.p.base (st a.out.now a.n) (records (record_of a.left a.role)) a.p.bytes.now c.in_err-e.field-0.0 c.read_name.ensures c.in_err-e.was)

pub call-returns : goal.call-returns
call-returns t c =
    let a = c.args in
    rw (named-on keeping a.p.base (st a.out.now a.n) (records (record_of a.left a.role)) a.p.bytes.now c.in_ok-e.e c.read_name.ensures c.in_ok-e.was) (rw (c.after.ensures.base, c.after.ensures.bytes) at c.list.ensures)

pub conditional-returns-in_err-e : goal.conditional-returns-in_err-e
conditional-returns-in_err-e t c =
    let a = c.args in
    rw (handed_on c.from_residual.result c.from_residual.ensures.1) (first_else keeping a.p.base (st a.out.now a.n) (record_of a.left Cond) a.p.bytes.now c.first.ensures (arms (record_of a.left)) c.in_err-e.field-0.0 c.in_err-e.was)

pub conditional-returns : goal.conditional-returns
conditional-returns t c =
    let a = c.args in
    rw (first_on keeping a.p.base (st a.out.now a.n) (record_of a.left Cond) a.p.bytes.now c.first.ensures (arms (record_of a.left)) c.in_ok-e.e c.in_ok-e.m c.in_ok-e.was) (rw (c.after.ensures.base, c.after.ensures.bytes) at c.arms.ensures)

pub last-returns-in_err-m : goal.last-returns-in_err-m
unfolding last
last-returns-in_err-m t c =
    let a = c.args in
    rw (handed_on c.from_residual-in_err-m.result c.from_residual-in_err-m.ensures.1) ((rw c.in_err-m.was at (sized-else keeping a.p.base (st a.out.now a.n) (records (record_of a.left Branch)) ending a.p.bytes.now c.in_ok-e.e c.read_list.ensures c.in_ok-e.was (rw (c.between.ensures.base, c.between.ensures.bytes) at c.list.ensures) c.in_err-m.was)))

pub last-returns-in_err-e : goal.last-returns-in_err-e
unfolding last
last-returns-in_err-e t c =
    let a = c.args in
    rw (handed_on c.from_residual.result c.from_residual.ensures.1) (sized-refused keeping a.p.base (st a.out.now a.n) (records (record_of a.left Branch)) ending a.p.bytes.now c.in_err-e.field-0.0 c.read_list.ensures c.in_err-e.was)

pub last-returns : goal.last-returns
unfolding last
last-returns t c =
    let a = c.args in
    rw (sized_on keeping a.p.base (st a.out.now a.n) (records (record_of a.left Branch)) ending a.p.bytes.now c.in_ok-e.e c.in_ok-m.m c.read_list.ensures c.in_ok-e.was (rw (c.between.ensures.base, c.between.ensures.bytes) at c.list.ensures) c.in_ok-m.was) (told-end _ _ _ _ c.at_end.ensures)

pub last_leaves-loop-t-init : goal.last_leaves-loop-t-init
last_leaves-loop-t-init t c = (omega arith, left-start c.args.p.bytes.now, refl)

pub last_leaves-returns-in_err-kind : goal.last_leaves-returns-in_err-kind
last_leaves-returns-in_err-kind t c =
    let a = c.args in
    let l = c.loop-t in
    rw (handed_on c.from_residual.result c.from_residual.ensures.1) (nodes-refused (over a.p (st a.out.now a.n) (repeat (front (record_of a.left Node)))) (end_with_divert a.p.bytes.now)
    (rw (l.invariant.2, repeat-step (front (record_of a.left Node)) (front-local (record_of a.left Node)) l.t.bytes.now c.loop-t-test.true)
    (front-refused keeping l.t.base (st l.out l.count) (record_of a.left Node) (repeat (front (record_of a.left Node))) l.t.bytes.now c.in_err-kind.field-0.0 c.read_head.ensures c.in_err-kind.was)))

pub last_leaves-loop-t-preserved-then-is_bare : goal.last_leaves-loop-t-preserved-then-is_bare
last_leaves-loop-t-preserved-then-is_bare t c =
    let a = c.args in
    let l = c.loop-t in
    let bare = c.is_bare.ensures c.if-is_bare.true in rw (c.after-t.ensures.base, c.after-t.ensures.bytes) (
      omega (arith, (head-within c.loop-t.t.bytes.now c.in_ok-kind.kind c.in_ok-kind.e c.read_head.ensures c.in_ok-kind.was), length-take {A = ℕ}, length-drop {A = ℕ}, l.invariant.0),
      left-next l.invariant.1 c.read_head.ensures c.in_ok-kind.kind c.in_ok-kind.e c.in_ok-kind.was c.leaves_after-leaves.ensures,
      l.invariant.2 ∙ rw (repeat-step (front (record_of a.left Node)) (front-local (record_of a.left Node)) l.t.bytes.now c.loop-t-test.true)
          (bare-on l.t.base l.out l.count refl a.left Node (repeat (front (record_of a.left Node))) l.t.bytes.now c.in_ok-kind.kind c.in_ok-kind.e bare c.read_head.ensures c.in_ok-kind.was),
    )

pub last_leaves-returns-in_err-m : goal.last_leaves-returns-in_err-m
last_leaves-returns-in_err-m t c =
    let a = c.args in
    let l = c.loop-t in
    rw (handed_on c.from_residual-in_err-m.result c.from_residual-in_err-m.ensures.1) (nodes-refused (over a.p (st a.out.now a.n) (repeat (front (record_of a.left Node)))) (end_with_divert a.p.bytes.now)
    (rw (l.invariant.2, repeat-step (front (record_of a.left Node)) (front-local (record_of a.left Node)) l.t.bytes.now c.loop-t-test.true)
    (rw c.in_err-m.was at (front-else keeping l.t.base (st l.out l.count) (record_of a.left Node) (repeat (front (record_of a.left Node))) l.t.bytes.now c.in_ok-kind.kind c.in_ok-kind.e c.read_head.ensures c.in_ok-kind.was c.record.ensures c.in_err-m.was))))

pub last_leaves-loop-t-preserved : goal.last_leaves-loop-t-preserved
last_leaves-loop-t-preserved t c =
    let a = c.args in
    let l = c.loop-t in
    let piece = c.record in rw (c.after-t-in-loop-t.ensures.base, c.after-t-in-loop-t.ensures.bytes) (
      omega (arith, (head-within c.loop-t.t.bytes.now c.in_ok-kind.kind c.in_ok-kind.e c.read_head.ensures c.in_ok-kind.was), length-take {A = ℕ}, length-drop {A = ℕ}, l.invariant.0, piece.auto),
      left-next l.invariant.1 c.read_head.ensures c.in_ok-kind.kind c.in_ok-kind.e c.in_ok-kind.was c.leaves_after-leaves.ensures,
      l.invariant.2 ∙ rw (repeat-step (front (record_of a.left Node)) (front-local (record_of a.left Node)) l.t.bytes.now c.loop-t-test.true)
          (front-on keeping l.t.base (st l.out l.count) (record_of a.left Node) (repeat (front (record_of a.left Node))) l.t.bytes.now c.in_ok-kind.kind c.in_ok-kind.e c.in_ok-m.m c.read_head.ensures c.in_ok-kind.was piece.ensures c.in_ok-m.was),
    )

pub last_leaves-returns : goal.last_leaves-returns
unfolding nodes_of
last_leaves-returns t c =
    let a = c.args in
    let l = c.loop-t in
    rw (left_end l.invariant.1 c.loop-t-test.false)
    (nodes-answers (over a.p (st a.out.now a.n) (repeat (front (record_of a.left Node)))) (end_with_divert a.p.bytes.now) {w = Ok l.count}
    (rw l.invariant.2 (told-done keeping l.t.base (st l.out l.count) (repeat (front (record_of a.left Node)) l.t.bytes.now) (repeat-none (front (record_of a.left Node)) l.t.bytes.now c.loop-t-test.false))) refl)

pub list-returns-in_err-kind : goal.list-returns-in_err-kind
list-returns-in_err-kind t c =
    let a = c.args in
    let l = c.loop-t in
    rw (handed_on c.from_residual.result c.from_residual.ensures.1) (rw (l.invariant.1, repeat-step (front (record_of a.left a.role)) (front-local (record_of a.left a.role)) l.t.bytes.now c.loop-t-test.true) (front-refused keeping l.t.base (st l.out l.count) (record_of a.left a.role) (repeat (front (record_of a.left a.role))) l.t.bytes.now c.in_err-kind.field-0.0 c.read_head.ensures c.in_err-kind.was))

pub list-loop-t-preserved-then-is_bare : goal.list-loop-t-preserved-then-is_bare
list-loop-t-preserved-then-is_bare t c =
    let a = c.args in
    let l = c.loop-t in
    let bare = c.is_bare.ensures c.if-is_bare.true in rw (c.after-t.ensures.base, c.after-t.ensures.bytes) (
      omega (arith, (head-within c.loop-t.t.bytes.now c.in_ok-kind.kind c.in_ok-kind.e c.read_head.ensures c.in_ok-kind.was), length-take {A = ℕ}, length-drop {A = ℕ}, l.invariant.0),
      l.invariant.1 ∙ rw (repeat-step (front (record_of a.left a.role)) (front-local (record_of a.left a.role)) l.t.bytes.now c.loop-t-test.true)
          (bare-on l.t.base l.out l.count refl a.left a.role (repeat (front (record_of a.left a.role))) l.t.bytes.now c.in_ok-kind.kind c.in_ok-kind.e bare c.read_head.ensures c.in_ok-kind.was),
    )

pub list-returns-in_err-m : goal.list-returns-in_err-m
list-returns-in_err-m t c =
    let a = c.args in
    let l = c.loop-t in
    let piece = c.record in
    rw (handed_on c.from_residual-in_err-m.result c.from_residual-in_err-m.ensures.1) (rw (l.invariant.1, repeat-step (front (record_of a.left a.role)) (front-local (record_of a.left a.role)) l.t.bytes.now c.loop-t-test.true)
    ((rw c.in_err-m.was at (front-else keeping l.t.base (st l.out l.count) (record_of a.left a.role) (repeat (front (record_of a.left a.role))) l.t.bytes.now c.in_ok-kind.kind c.in_ok-kind.e c.read_head.ensures c.in_ok-kind.was piece.ensures c.in_err-m.was))))

pub list-loop-t-preserved : goal.list-loop-t-preserved
list-loop-t-preserved t c =
    let a = c.args in
    let l = c.loop-t in
    let piece = c.record in rw (c.after-t-in-loop-t.ensures.base, c.after-t-in-loop-t.ensures.bytes) (
      omega (arith, (head-within c.loop-t.t.bytes.now c.in_ok-kind.kind c.in_ok-kind.e c.read_head.ensures c.in_ok-kind.was), length-take {A = ℕ}, length-drop {A = ℕ}, l.invariant.0, piece.auto),
      l.invariant.1 ∙ rw (repeat-step (front (record_of a.left a.role)) (front-local (record_of a.left a.role)) l.t.bytes.now c.loop-t-test.true)
          (front-on keeping l.t.base (st l.out l.count) (record_of a.left a.role) (repeat (front (record_of a.left a.role))) l.t.bytes.now c.in_ok-kind.kind c.in_ok-kind.e c.in_ok-m.m c.read_head.ensures c.in_ok-kind.was piece.ensures c.in_ok-m.was),
    )

pub list-returns : goal.list-returns
list-returns t c =
    let a = c.args in
    let l = c.loop-t in
    rw l.invariant.1 (told-done keeping l.t.base (st l.out l.count) (repeat (front (record_of a.left a.role)) l.t.bytes.now) (repeat-none (front (record_of a.left a.role)) l.t.bytes.now c.loop-t-test.false))

pub lists-returns-in_err-e : goal.lists-returns-in_err-e
lists-returns-in_err-e t c =
    let a = c.args in
    let l = c.loop-t in
    rw (handed_on c.from_residual.result c.from_residual.ensures.1) (rw l.invariant.1 (pieces-refused keeping l.t.base (st l.out l.count) (records (record_of a.left Node)) l.t.bytes.now c.loop-t-test.true c.read_list.ensures c.in_err-e.field-0.0 c.in_err-e.was))

pub lists-returns-in_err-m : goal.lists-returns-in_err-m
lists-returns-in_err-m t c =
    let a = c.args in
    let l = c.loop-t in
    rw (handed_on c.from_residual-in_err-m.result c.from_residual-in_err-m.ensures.1) (rw l.invariant.1 ((rw c.in_err-m.was at (pieces-else keeping l.t.base (st l.out l.count) (records (record_of a.left Node)) l.t.bytes.now c.loop-t-test.true c.read_list.ensures c.in_ok-e.e c.in_ok-e.was (rw (c.between.ensures.base, c.between.ensures.bytes) at c.list.ensures) c.in_err-m.was))))

pub lists-loop-t-preserved : goal.lists-loop-t-preserved
lists-loop-t-preserved t c =
    let a = c.args in
    let l = c.loop-t in
    let list = c.list in rw (c.after-t.ensures.base, c.after-t.ensures.bytes) (
      omega (arith, (list-within c.loop-t.t.bytes.now c.in_ok-e.e c.read_list.ensures c.in_ok-e.was), length-take {A = ℕ}, length-drop {A = ℕ}, l.invariant.0, list.auto),
      l.invariant.1 ∙ pieces-on keeping l.t.base (st l.out l.count) (records (record_of a.left Node)) l.t.bytes.now c.loop-t-test.true c.read_list.ensures c.in_ok-e.e c.in_ok-e.was (rw (c.between.ensures.base, c.between.ensures.bytes) at list.ensures) c.in_ok-m.m c.in_ok-m.was,
    )

pub lists-returns : goal.lists-returns
lists-returns t c =
    let a = c.args in
    let l = c.loop-t in
    rw l.invariant.1 (pieces_none keeping l.t.base (st l.out l.count) (records (record_of a.left Node)) l.t.bytes.now c.loop-t-test.false)

pub options-returns-in_err-e : goal.options-returns-in_err-e
unfolding options
options-returns-in_err-e t c =
    let a = c.args in
    let s₀ = st a.out.now a.n in
    rw (handed_on c.from_residual.result c.from_residual.ensures.1) (nodes-refused (over a.p s₀ (options (record_of a.left))) (end_with_divert (second_list a.p.bytes.now))
    (sized-refused keeping a.p.base s₀ (records (record_of a.left Cond)) (last Node (record_of a.left)) a.p.bytes.now c.in_err-e.field-0.0 c.read_list.ensures c.in_err-e.was))

pub options-returns-in_err-m : goal.options-returns-in_err-m
unfolding options
options-returns-in_err-m t c =
    let a = c.args in
    let s₀ = st a.out.now a.n in
    rw (handed_on c.from_residual-in_err-m.result c.from_residual-in_err-m.ensures.1) (nodes-refused (over a.p s₀ (options (record_of a.left))) (end_with_divert (second_list a.p.bytes.now))
    (rw c.in_err-m.was at (sized-else keeping a.p.base s₀ (records (record_of a.left Cond)) (last Node (record_of a.left)) a.p.bytes.now c.in_ok-e.e c.read_list.ensures c.in_ok-e.was (rw (c.between.ensures.base, c.between.ensures.bytes) at c.list.ensures) c.in_err-m.was)))

pub options-returns : goal.options-returns
unfolding options
options-returns t c =
    let a = c.args in
    rw (second-there a.p.bytes.now c.in_ok-e.e c.read_list.ensures c.in_ok-e.was, sized_on keeping a.p.base (st a.out.now a.n) (records (record_of a.left Cond)) (last Node (record_of a.left)) a.p.bytes.now c.in_ok-e.e c.in_ok-m.m c.read_list.ensures c.in_ok-e.was (rw (c.between.ensures.base, c.between.ensures.bytes) at c.list.ensures) c.in_ok-m.was)
    (rw (c.after.ensures.base, c.after.ensures.bytes) at c.choice_nodes.ensures)

pub set-returns-in_err-e : goal.set-returns-in_err-e
set-returns-in_err-e t c =
    let a = c.args in
    rw (handed_on c.from_residual.result c.from_residual.ensures.1) (named-refused keeping a.p.base (st a.out.now a.n) (exact 1 (record_of a.left Visited)) a.p.bytes.now c.in_err-e.field-0.0 c.read_name.ensures c.in_err-e.was)

pub set-returns : goal.set-returns
set-returns t c =
    let a = c.args in
    rw (named-on keeping a.p.base (st a.out.now a.n) (exact 1 (record_of a.left Visited)) a.p.bytes.now c.in_ok-e.e c.read_name.ensures c.in_ok-e.was) (rw (c.after.ensures.base, c.after.ensures.bytes) at c.exact.ensures)

pub switch-returns-in_err-e : goal.switch-returns-in_err-e
switch-returns-in_err-e t c =
    let a = c.args in
    rw (handed_on c.from_residual.result c.from_residual.ensures.1) (first_else keeping a.p.base (st a.out.now a.n) (record_of a.left Visited) a.p.bytes.now c.first.ensures (repeat (branch (record_of a.left))) c.in_err-e.field-0.0 c.in_err-e.was)

pub switch-returns : goal.switch-returns
switch-returns t c =
    let a = c.args in
    rw (first_on keeping a.p.base (st a.out.now a.n) (record_of a.left Visited) a.p.bytes.now c.first.ensures (repeat (branch (record_of a.left))) c.in_ok-e.e c.in_ok-e.m c.in_ok-e.was) (rw (c.after.ensures.base, c.after.ensures.bytes) at c.branches.ensures)

pub record-returns-in_err-shape : goal.record-returns-in_err-shape
record-returns-in_err-shape t c =
    let a = c.args in
    let s = take (a.e - 5) (drop 5 a.p.bytes.now) in
    let none : c.read_kind.result ≡ None = grind arith in
    let unknown : c.in_err-shape.field-0.0 ≡ Unknown = grind arith in
    rw (handed_on c.from_residual.result c.from_residual.ensures.1, unknown) (record-none keeping a.p.base (st a.out.now a.n) a.left a.role a.kind s c.read_kind.ensures none)

pub record-returns-then-left-eq0 : goal.record-returns-then-left-eq0
record-returns-then-left-eq0 t c =
    let a = c.args in
    let s = take (a.e - 5) (drop 5 a.p.bytes.now) in
    let some : c.read_kind.result ≡ Some c.in_ok-shape.shape = grind arith in
    record-deep keeping a.p.base (st a.out.now a.n) a.left a.role a.kind s c.in_ok-shape.shape c.read_kind.ensures some c.if-left-eq0.true

pub record-returns : goal.record-returns
record-returns t c =
    let a = c.args in
    let s = take (a.e - 5) (drop 5 a.p.bytes.now) in
    let some : c.read_kind.result ≡ Some c.in_ok-shape.shape = grind arith in
    rw (record-noted a.p.base a.out.now a.n a.left a.role a.kind s c.in_ok-shape.shape c.read_kind.ensures some c.if-left-eq0.false _ _ (rw c.between-payload.ensures.bytes at c.note-m.ensures))
    (rw (c.between-payload.ensures.base, c.between-payload.ensures.bytes) at c.body.ensures)

pub exact-returns-in_err-e : goal.exact-returns-in_err-e
exact-returns-in_err-e t c =
    let a = c.args in
    let l = c.loop in
    let left = a.many - l.counter in
    rw (handed_on c.from_residual.result c.from_residual.ensures.1, l.invariant.1, exact-step left (record_of a.left a.role) l.t.bytes.now (λ e. omega arith))
    (first_else keeping l.t.base (st l.out l.count) (record_of a.left a.role) l.t.bytes.now c.first.ensures (exact (left - 1) (record_of a.left a.role)) c.in_err-e.field-0.0 c.in_err-e.was)

pub exact-loop-preserved : goal.exact-loop-preserved
exact-loop-preserved t c =
    let a = c.args in
    let l = c.loop in
    let left = a.many - l.counter in
    let fewer : left - 1 ≡ a.many - (l.counter + 1) = omega arith in
    let within = first_fits keeping l.t.base (st l.out l.count) (record_of a.left a.role) l.t.bytes.now c.first.ensures c.in_ok-e.e c.in_ok-e.m c.in_ok-e.was in rw (c.after-t.ensures.base, c.after-t.ensures.bytes) (
      omega (arith, within, length-take {A = ℕ}, length-drop {A = ℕ}, l.invariant.0, c.first.auto),
      rw (← fewer) (l.invariant.1 ∙ rw (exact-step left (record_of a.left a.role) l.t.bytes.now (λ e. omega arith)) (first_on keeping l.t.base (st l.out l.count) (record_of a.left a.role) l.t.bytes.now c.first.ensures (exact (left - 1) (record_of a.left a.role)) c.in_ok-e.e c.in_ok-e.m c.in_ok-e.was)),
    )

pub exact-returns : goal.exact-returns
exact-returns t c =
    let a = c.args in
    let l = c.loop in
    let none : a.many - l.counter ≡ 0 = omega arith in
    rw (l.invariant.1, exact-end (a.many - l.counter) (record_of a.left a.role) l.t.bytes.now none) (told-end keeping l.t.base (st l.out l.count) l.t.bytes.now c.at_end.ensures)

pub else_arm-returns-in_err-read_flag : goal.else_arm-returns-in_err-read_flag
unfolding or_else
else_arm-returns-in_err-read_flag t c =
    let a = c.args in
    rw (handed_on c.from_residual.result c.from_residual.ensures.1) (flagged-refused keeping a.p.base (st a.out.now a.n) ending (last Branch (record_of a.left)) a.p.bytes.now c.in_err-read_flag.field-0.0 c.read_flag.ensures c.in_err-read_flag.was)

pub else_arm-returns-then-branch : goal.else_arm-returns-then-branch
unfolding or_else
else_arm-returns-then-branch t c =
    let a = c.args in
    rw (flagged-on keeping a.p.base (st a.out.now a.n) ending (last Branch (record_of a.left)) a.p.bytes.now c.read_flag.ensures (c.in_ok-read_flag.was ∙ ap Ok c.if-branch.true)) (rw (c.after.ensures.base, c.after.ensures.bytes) at c.last.ensures)

pub else_arm-returns : goal.else_arm-returns
unfolding or_else
else_arm-returns t c =
    let a = c.args in
    rw (flagged-off keeping a.p.base (st a.out.now a.n) ending (last Branch (record_of a.left)) a.p.bytes.now c.read_flag.ensures (c.in_ok-read_flag.was ∙ ap Ok c.if-branch.false)) (told-end _ _ _ _ c.at_end.ensures)

pub choice-returns-in_err-e : goal.choice-returns-in_err-e
choice-returns-in_err-e t c =
    let a = c.args in
    rw (handed_on c.from_residual.result c.from_residual.ensures.1) (choice-refused a.p.base a.n a.left a.p.bytes.now a.out.now c.read_label.ensures c.in_err-e.field-0.0 c.in_err-e.was)

pub choice-returns-in_err-m : goal.choice-returns-in_err-m
choice-returns-in_err-m t c =
    let a = c.args in
    let put = put_refused a.n c.options.new.out c.options.result c.in_err-m.was in
    rw (handed_on c.from_residual-in_err-m.result c.from_residual-in_err-m.ensures.1) (choice-told a.p.base a.n a.left a.p.bytes.now a.out.now c.read_label.ensures (omega arith) c.in_ok-e.e c.in_ok-e.was (rw (c.after.ensures.base, c.after.ensures.bytes) at c.options.ensures) put.0 put.1)

pub choice-returns : goal.choice-returns
choice-returns t c =
    let a = c.args in
    let put = put_done a.n c.options.new.out c.options.result c.in_ok-m.was in
    choice-told a.p.base a.n a.left a.p.bytes.now a.out.now c.read_label.ensures (omega arith) c.in_ok-e.e c.in_ok-e.was (rw (c.after.ensures.base, c.after.ensures.bytes) at c.options.ensures) put.0 (c.put_leaves.ensures ∙ put.1)

pub choice_nodes-returns-in_err-e : goal.choice_nodes-returns-in_err-e
unfolding last
choice_nodes-returns-in_err-e t c =
    let a = c.args in
    let s₀ = st a.out.now a.n in
    rw (handed_on c.from_residual.result c.from_residual.ensures.1) (nodes-refused (over a.p s₀ (last Node (record_of a.left))) (end_with_divert (spanned (list_of a.p.bytes.now) a.p.bytes.now))
    (sized-refused keeping a.p.base s₀ (records (record_of a.left Node)) ending a.p.bytes.now c.in_err-e.field-0.0 c.read_list.ensures c.in_err-e.was))

pub choice_nodes-returns-in_err-m : goal.choice_nodes-returns-in_err-m
choice_nodes-returns-in_err-m t c =
    let a = c.args in
    rw (handed_on c.from_residual-in_err-m.result c.from_residual-in_err-m.ensures.1) (nodes-ended keeping a.p.base (st a.out.now a.n) (record_of a.left) a.p.bytes.now c.in_ok-e.e c.read_list.ensures c.in_ok-e.was (rw (c.between.ensures.base, c.between.ensures.bytes) at c.last_leaves.ensures) (sym c.in_err-m.was ∙ end_refused c.last_leaves.result (take (length a.p.bytes.now - c.in_ok-e.e) (drop c.in_ok-e.e a.p.bytes.now)) c.in_err-m.was))

pub choice_nodes-returns-in_err-m-2 : goal.choice_nodes-returns-in_err-m-2
choice_nodes-returns-in_err-m-2 t c =
    let a = c.args in
    rw (handed_on c.from_residual-in_err-m-2.result c.from_residual-in_err-m-2.ensures.1) (nodes-ended keeping a.p.base (st a.out.now a.n) (record_of a.left) a.p.bytes.now c.in_ok-e.e c.read_list.ensures c.in_ok-e.was (rw (c.between.ensures.base, c.between.ensures.bytes) at c.last_leaves.ensures) (end_left c.last_leaves.result (take (length a.p.bytes.now - c.in_ok-e.e) (drop c.in_ok-e.e a.p.bytes.now)) c.in_ok-m.was c.at_end.ensures c.in_err-m-2.was))

pub choice_nodes-returns : goal.choice_nodes-returns
choice_nodes-returns t c =
    let a = c.args in
    nodes-ended keeping a.p.base (st a.out.now a.n) (record_of a.left) a.p.bytes.now c.in_ok-e.e c.read_list.ensures c.in_ok-e.was (rw (c.between.ensures.base, c.between.ensures.bytes) at c.last_leaves.ensures) (end_well c.last_leaves.result (take (length a.p.bytes.now - c.in_ok-e.e) (drop c.in_ok-e.e a.p.bytes.now)) c.in_ok-m.was c.at_end.ensures c.in_ok-m-2.was)

pub test-returns-in_err-read_flag : goal.test-returns-in_err-read_flag
test-returns-in_err-read_flag t c =
    let a = c.args in
    rw (handed_on c.from_residual.result c.from_residual.ensures.1) (test-flag-refused keeping a.p.base (st a.out.now a.n) (record_of a.left) a.p.bytes.now c.read_flag.ensures c.in_err-read_flag.field-0.0 c.in_err-read_flag.was)

pub test-returns-in_err-e : goal.test-returns-in_err-e
test-returns-in_err-e t c =
    let a = c.args in
    rw (handed_on c.from_residual-in_err-e.result c.from_residual-in_err-e.ensures.1) (rw c.in_err-e.was at (test-on-refused keeping a.p.base (st a.out.now a.n) (record_of a.left) a.p.bytes.now c.read_flag.ensures (c.in_ok-read_flag.was ∙ ap Ok c.if-branch.true) (rw (c.after.ensures.base, c.after.ensures.bytes) at c.first.ensures) c.in_err-e.field-0.0 c.in_err-e.was))

pub test-returns-then-branch : goal.test-returns-then-branch
test-returns-then-branch t c =
    let a = c.args in
    test-on-answers keeping a.p.base (st a.out.now a.n) (record_of a.left) a.p.bytes.now c.read_flag.ensures (c.in_ok-read_flag.was ∙ ap Ok c.if-branch.true) (rw (c.after.ensures.base, c.after.ensures.bytes) at c.first.ensures) c.in_ok-e.e c.in_ok-e.m c.in_ok-e.was

pub test-returns : goal.test-returns
test-returns t c = let a = c.args in test-off-answers keeping a.p.base (st a.out.now a.n) (record_of a.left) a.p.bytes.now c.read_flag.ensures (c.in_ok-read_flag.was ∙ ap Ok c.if-branch.false)

pub front_list-returns-in_err-e : goal.front_list-returns-in_err-e
front_list-returns-in_err-e t c =
    let a = c.args in
    rw (handed_on c.from_residual.result c.from_residual.ensures.1) (piece-refused (over a.p (st a.out.now a.n) (listed (record_of a.left a.role) nothing)) (list_end a.p.bytes.now)
    (sized-refused keeping a.p.base (st a.out.now a.n) (records (record_of a.left a.role)) nothing a.p.bytes.now c.in_err-e.field-0.0 c.read_list.ensures c.in_err-e.was) refl)

pub front_list-returns-in_err-m : goal.front_list-returns-in_err-m
unfolding piece_of
front_list-returns-in_err-m t c =
    let a = c.args in
    rw (handed_on c.from_residual-in_err-m.result c.from_residual-in_err-m.ensures.1) (list-answers keeping a.p.base (st a.out.now a.n) (record_of a.left a.role) a.p.bytes.now c.in_ok-e.e c.read_list.ensures c.in_ok-e.was (rw (c.between.ensures.base, c.between.ensures.bytes) at c.list.ensures) (rw c.in_err-m.was))

pub front_list-returns : goal.front_list-returns
unfolding piece_of
front_list-returns t c =
    let a = c.args in
    list-answers keeping a.p.base (st a.out.now a.n) (record_of a.left a.role) a.p.bytes.now c.in_ok-e.e c.read_list.ensures c.in_ok-e.was (rw (c.between.ensures.base, c.between.ensures.bytes) at c.list.ensures) (rw c.in_ok-m.was)

pub first-returns-in_err-kind : goal.first-returns-in_err-kind
first-returns-in_err-kind t c =
    let a = c.args in
    rw (handed_on c.from_residual.result c.from_residual.ensures.1) (piece-refused (over a.p (st a.out.now a.n) (front (record_of a.left a.role) nothing)) (head_end a.p.bytes.now)
    (front-refused keeping a.p.base (st a.out.now a.n) (record_of a.left a.role) nothing a.p.bytes.now c.in_err-kind.field-0.0 c.read_head.ensures c.in_err-kind.was) refl)

pub first-returns-then-is_bare : goal.first-returns-then-is_bare
first-returns-then-is_bare t c =
    let a = c.args in
    bare-answers a.p.base a.out.now a.n refl a.left a.role a.p.bytes.now c.in_ok-kind.kind c.in_ok-kind.e (c.is_bare.ensures c.if-is_bare.true) c.read_head.ensures c.in_ok-kind.was

pub first-returns-in_err-m : goal.first-returns-in_err-m
unfolding piece_of
first-returns-in_err-m t c =
    let a = c.args in
    rw (handed_on c.from_residual-in_err-m.result c.from_residual-in_err-m.ensures.1) (first-answers keeping a.p.base (st a.out.now a.n) (record_of a.left a.role) a.p.bytes.now c.in_ok-kind.kind c.in_ok-kind.e c.read_head.ensures c.in_ok-kind.was c.record.ensures (rw c.in_err-m.was))

pub first-returns : goal.first-returns
unfolding piece_of
first-returns t c =
    let a = c.args in
    first-answers keeping a.p.base (st a.out.now a.n) (record_of a.left a.role) a.p.bytes.now c.in_ok-kind.kind c.in_ok-kind.e c.read_head.ensures c.in_ok-kind.was c.record.ensures (rw c.in_ok-m.was)
