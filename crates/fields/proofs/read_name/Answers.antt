-- `read_name`: the count byte and its bytes fit, or they do not. Assumes nothing.
use mathlib.Core.Path.{sym, ap}
use native.Mathlib.Omega.{arith}
use Rattle.fields.specs.Bytes.{span_reach}
use Rattle.fields.proofs.Laws.{name-short, name-whole}
use Rattle.fields.proofs.read_name.Goals as goal

pub returns-then-s-lt1 : goal.returns-then-s-lt1
unfolding span_reach
returns-then-s-lt1 c = sym (ap (span_reach 1) (name-short c.args.s.now (omega (arith, c.if-s-lt1.true))))

pub returns-then-s-n : goal.returns-then-s-n
unfolding span_reach
returns-then-s-n c = sym (ap (span_reach 1) (name-short c.args.s.now (omega (arith, c.from-n.ensures, c.if-s-n.true))))

pub returns : goal.returns
unfolding span_reach
returns c =
    rw c.from-n.ensures (sym (ap (span_reach 1) (name-whole c.args.s.now (omega (arith, c.from-n.ensures, c.if-s-lt1.false, c.if-s-n.false)))))
