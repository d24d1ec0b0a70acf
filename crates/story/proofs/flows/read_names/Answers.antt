-- `read_names`: the names that are left, by a loop over them. Assumes nothing.
use Rattle.std.proofs.Common.{refl, ◌∙◌, arith, length-take, length-drop, ℕ}
use Rattle.fields.specs.Bytes.{name_of}
use Rattle.fields.proofs.Laws.{handed_on, name-within, span-refused, to_end}
use Rattle.story.specs.Endings.{ended_of}
use Rattle.story.proofs.Pieces.{names-none, names-to, names-refused}
use Rattle.story.proofs.flows.read_names.Goals as goal

pub returns-in_err-e : goal.returns-in_err-e
unfolding ended_of
returns-in_err-e c =
    let l = c.loop-t in
    rw (handed_on c.from_residual.result c.from_residual.ensures.1) (rw (l.invariant.1, names-refused l.t.now c.loop-t-test.true refl (span-refused 1 (name_of l.t.now) c.read_name.ensures c.in_err-e.field-0.0 c.in_err-e.was)))

pub loop-t-preserved : goal.loop-t-preserved
loop-t-preserved c =
    let l = c.loop-t in (
      omega (arith, (name-within l.t.now c.in_ok-e.e c.read_name.ensures c.in_ok-e.was), length-take {A = ℕ}, length-drop {A = ℕ}, l.invariant.0),
      l.invariant.1 ∙ rw (to_end c.in_ok-e.e l.t.now) (names-to l.t.now c.in_ok-e.e c.loop-t-test.true c.read_name.ensures c.in_ok-e.was),
    )

pub returns : goal.returns
unfolding ended_of
returns c = rw (c.loop-t.invariant.1, names-none c.loop-t.t.now c.loop-t-test.false)
