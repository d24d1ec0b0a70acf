-- `read_head`: the head and the payload that it announces fit, or they do not. Assumes nothing.
use mathlib.Core.Path.{sym, ap}
use native.Mathlib.Omega.{arith}
use Rattle.fields.specs.Bytes.{read_of_head}
use Rattle.fields.proofs.Laws.{head-short, head-whole}
use Rattle.fields.proofs.read_head.Goals as goal

pub returns-then-s-lt5 : goal.returns-then-s-lt5
unfolding read_of_head
returns-then-s-lt5 c = sym (ap read_of_head (head-short c.args.s.now (omega (arith, c.if-s-lt5.true))))

pub returns-then-s-n : goal.returns-then-s-n
unfolding read_of_head
returns-then-s-n c = sym (ap read_of_head (head-short c.args.s.now (omega (arith, c.word-n.ensures, c.if-s-n.true))))

pub returns : goal.returns
unfolding read_of_head
returns c =
    let if1 = c.if-s-lt5 in
    let word = c.word-n in
    rw word.ensures (sym (ap read_of_head (head-whole c.args.s.now (omega (arith, word.ensures, if1.false, c.if-s-n.false)))))
