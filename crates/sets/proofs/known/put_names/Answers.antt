-- `sets::known::put_names` meets its contract. The loop's invariant: the set holds the names before `at` in the class. Assumes nothing.
use mathlib.Core.Path.{refl}
use native.Mathlib.Omega.{arith}
use Rattle.sets.proofs.Sections.{names-start, names-next, names-full}
use Rattle.sets.proofs.known.put_names.Goals as goal

pub loop-at-init : goal.loop-at-init
loop-at-init c = (refl, names-start c.requires.without c.requires.from_le_to.0)

pub returns-then-to-next : goal.returns-then-to-next
returns-then-to-next c = c.loop-at.invariant.1

pub returns-then-is_err : goal.returns-then-is_err
returns-then-is_err c = names-full c.loop-at.invariant.1 c.put.ensures c.is_err.ensures.value c.if-is_err.true

pub loop-at-preserved : goal.loop-at-preserved
loop-at-preserved c = (omega (arith, c.loop-at.invariant.0), names-next c.loop-at.invariant.1 c.put.ensures c.is_err.ensures.value (omega arith) c.requires.from_le_to.1 (omega arith) c.if-is_err.false)

pub returns : goal.returns
returns c = c.loop-at.invariant.1
