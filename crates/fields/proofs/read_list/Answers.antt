-- `read_list`: the length and the records that it announces fit, or they do not. Assumes nothing.
use mathlib.Core.Path.{sym, ap}
use native.Mathlib.Omega.{arith}
use Rattle.fields.specs.Bytes.{span_reach}
use Rattle.fields.proofs.Laws.{list-short, list-whole}
use Rattle.fields.proofs.read_list.Goals as goal

pub returns-then-s-lt4 : goal.returns-then-s-lt4
unfolding span_reach
returns-then-s-lt4 c = sym (ap (span_reach 4) (list-short c.args.s.now (omega (arith, c.if-s-lt4.true))))

pub returns-then-s-n : goal.returns-then-s-n
unfolding span_reach
returns-then-s-n c = sym (ap (span_reach 4) (list-short c.args.s.now (omega (arith, c.word-n.ensures, c.if-s-n.true))))

pub returns : goal.returns
unfolding span_reach
returns c =
    rw c.word-n.ensures (sym (ap (span_reach 4) (list-whole c.args.s.now (omega (arith, c.word-n.ensures, c.if-s-lt4.false, c.if-s-n.false)))))
