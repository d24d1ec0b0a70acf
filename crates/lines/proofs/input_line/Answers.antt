-- `input_line`: a long input is refused, and a short one is reported as its check reports it. Assumes nothing.
use mathlib.Core.Path.{◌≡◌, refl}
use native.Mathlib.Omega.{arith}
use lib.Dec.{lit≤}
use lib.ListN.{length}
use borrow.Author.Rules.{rules}
use Rattle.records.specs.Buffers.{overlay}
use Rattle.lines.specs.Lines.{result_line}
use Rattle.lines.proofs.Reported.{long-out, long-input, short-input, wrote-within}
use Rattle.lines.proofs.input_line.Goals as goal

pub returns-then-input-gt4096 : goal.returns-then-input-gt4096
unfolding result_line overlay
returns-then-input-gt4096 c =
    let if1 = c.if-input-gt4096 in
    let long = long-input c.args.input.now (omega (arith, if1.true)) in
    let wrote = c.refused_line.ensures in
    record { wrote = rw long wrote; index_is = rw long refl; message_is = rw long refl; within = wrote-within wrote }

pub returns : goal.returns
returns c =
    let short = short-input c.args.input.now (omega (arith, c.if-input-gt4096.false)) in
    let index : length c.args.index.now ≡ 12228 = search rules in
    let message : length c.args.message.now ≡ 640 = search rules in
    let out : length c.args.out.now ≡ 700 = search rules in
    let reported = rw (index, message) at c.check_line-checked.ensures.checked.reported in
    let wrote = rw (index, message, out, long-out c.args.input.now 12228 640 700 (lit≤ tt)) at c.check_line-checked.ensures.wrote in
    record { wrote = rw short wrote; index_is = rw short reported.index_is; message_is = rw short reported.message_is; within = c.check_line-checked.ensures.within }
