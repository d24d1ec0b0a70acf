-- `names_reach`: what is left of the names, from the offset reached. Assumes nothing.
use Rattle.std.proofs.Common.{◌≡◌, ◌+◌, ◌-◌, refl, ◌∙◌, arith, length-take, length-drop, ℕ}
use Rattle.fields.proofs.Laws.{handed_on, name-within}
use Rattle.story.proofs.Reaches.{reach-on, reach-refused, reach-end}
use Rattle.story.proofs.headings.names_reach.Goals as goal

pub loop-init : goal.loop-init
loop-init c = let all : c.args.many - 0 ≡ c.args.many = omega arith in (omega arith, rw all refl)

pub returns-in_err-e : goal.returns-in_err-e
returns-in_err-e c =
    let l = c.loop in
    rw (handed_on c.from_residual.result c.from_residual.ensures.1) (rw l.invariant.1 (rw c.in_err-e.was at (reach-refused c.args.s.now (c.args.many - l.counter) l.e c.in_err-e.field-0.0 (omega arith) c.read_name.ensures c.in_err-e.was)))

pub overflow_add-e : goal.overflow_add-e
overflow_add-e c = omega (arith, name-within _ c.in_ok-e.field-0 c.read_name.ensures c.in_ok-e.was, length-take {A = ℕ}, length-drop {A = ℕ}, c.loop.invariant.0)

pub loop-preserved : goal.loop-preserved
loop-preserved c =
    let l = c.loop in
    let left = c.args.many - l.counter in
    let fewer : left - 1 ≡ c.args.many - (l.counter + 1) = omega arith in
    (omega (arith, name-within _ c.in_ok-e.field-0 c.read_name.ensures c.in_ok-e.was, length-take {A = ℕ}, length-drop {A = ℕ}, l.invariant.0), rw (← fewer) (l.invariant.1 ∙ reach-on c.args.s.now left l.e c.in_ok-e.field-0 (omega arith) c.read_name.ensures c.in_ok-e.was))

pub returns : goal.returns
returns c = rw c.loop.invariant.1 (reach-end c.args.s.now (c.args.many - c.loop.counter) c.loop.e (omega arith))
