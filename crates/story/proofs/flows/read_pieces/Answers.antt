-- `read_pieces`: what is left, by a loop over it. Assumes nothing.
use Rattle.std.proofs.Common.{◌∙◌, arith, length-take, length-drop, ℕ}
use Rattle.fields.proofs.Laws.{handed_on, list-within}
use Rattle.records.specs.Work.{st, keeping}
use Rattle.records.proofs.Walking.{pieces-refused, pieces-on, pieces-else, pieces_none}
use Rattle.story.proofs.flows.read_pieces.Goals as goal

pub returns-in_err-e : goal.returns-in_err-e
returns-in_err-e g c =
    let l = c.loop-t in
    rw (handed_on c.from_residual.result c.from_residual.ensures.1) (rw l.invariant.1 (pieces-refused keeping l.t.base (st l.out l.count) g.P.Piece.reading l.t.bytes.now c.loop-t-test.true c.read_list.ensures c.in_err-e.field-0.0 c.in_err-e.was))

pub returns-in_err-m : goal.returns-in_err-m
returns-in_err-m g c =
    let l = c.loop-t in
    rw (handed_on c.from_residual-in_err-m.result c.from_residual-in_err-m.ensures.1) (rw l.invariant.1
    (rw c.in_err-m.was at (pieces-else keeping l.t.base (st l.out l.count) g.P.Piece.reading l.t.bytes.now c.loop-t-test.true c.read_list.ensures c.in_ok-e.e c.in_ok-e.was (rw (c.between.ensures.base, c.between.ensures.bytes) at c.read.ensures) c.in_err-m.was)))

pub loop-t-preserved : goal.loop-t-preserved
loop-t-preserved g c =
    let l = c.loop-t in rw (c.after-t.ensures.base, c.after-t.ensures.bytes) (
      omega (arith, (list-within l.t.bytes.now c.in_ok-e.e c.read_list.ensures c.in_ok-e.was), length-take {A = ℕ}, length-drop {A = ℕ}, l.invariant.0, c.read.auto),
      l.invariant.1 ∙ pieces-on keeping l.t.base (st l.out l.count) g.P.Piece.reading l.t.bytes.now c.loop-t-test.true c.read_list.ensures c.in_ok-e.e c.in_ok-e.was (rw (c.between.ensures.base, c.between.ensures.bytes) at c.read.ensures) c.in_ok-m.m c.in_ok-m.was,
    )

pub returns : goal.returns
returns g c =
    let l = c.loop-t in
    rw l.invariant.1 (pieces_none keeping l.t.base (st l.out l.count) g.P.Piece.reading l.t.bytes.now c.loop-t-test.false)
