-- `names::same_name` meets its contract. Assumes nothing.
use mathlib.Core.Path.{sym}
use Rattle.names.proofs.Words.{agree-start, same-lengths}
use Rattle.names.proofs.same_name.Goals as goal

pub returns-then-a-b : goal.returns-then-a-b
returns-then-a-b c = sym (same-lengths c.args.a.now c.args.b.now c.if-a-b.true)

pub loop-i-init : goal.loop-i-init
loop-i-init c = agree-start _ _
