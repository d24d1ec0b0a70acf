-- `check_line`: the answer's text lies within the message buffer, and its line is the report's; none where the buffer is short. Assumes nothing.
use native.Mathlib.Omega.{arith}
use lib.ListN.{length}
use borrow.Author.Rules.{rules}
use Rattle.lines.proofs.Reported.{text-fits, answer-line, none_written, line-written, wrote-within}
use Rattle.lines.proofs.check_line.Goals as goal

pub returns-then-out-message : goal.returns-then-out-message
returns-then-out-message c =
    let check = c.check-answer in
    let a = c.args in
    let wrote = none_written a.file.now (length a.index.now) (length a.message.now) (length a.out.now) (omega (arith, c.if-out-message.true, check.auto.message)) a.out.now in
    record { checked = check.ensures; wrote = wrote; within = wrote-within wrote }

pub line-length-requires : goal.line-length-requires
line-length-requires c = let check = c.check-answer in record { answer_in_bounds = text-fits check.ensures; message_in_bounds = search rules }

pub returns : goal.returns
returns c =
    let line = c.line-length in
    let if1 = c.if-out-message in
    let check = c.check-answer in
    let a = c.args in
    let wrote = line-written a.file.now (length a.index.now) (length a.message.now) (length a.out.now) (omega (arith, if1.false, check.auto.message)) (rw (answer-line check.ensures) at line.ensures) in
    record { checked = check.ensures; wrote = wrote; within = wrote-within wrote }
