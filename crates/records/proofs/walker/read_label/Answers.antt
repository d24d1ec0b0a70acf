-- `read_label`: the flag, and the name where it is on. Assumes nothing.
use Rattle.std.proofs.Common.{ap, ◌∙◌, Ok}
use Rattle.fields.proofs.Laws.{handed_on}
use Rattle.records.proofs.Choices.{label-flag-refused, label-none, label-name-refused, label-name}
use Rattle.records.proofs.walker.read_label.Goals as goal

pub returns-in_err-read_flag : goal.returns-in_err-read_flag
returns-in_err-read_flag c = rw (handed_on c.from_residual.result c.from_residual.ensures.1) (label-flag-refused c.args.s.now c.read_flag.ensures c.in_err-read_flag.was)

pub returns-in_err-e : goal.returns-in_err-e
returns-in_err-e c = rw (handed_on c.from_residual-in_err-e.result c.from_residual-in_err-e.ensures.1) (rw c.in_err-e.was at (label-name-refused c.args.s.now c.read_flag.ensures (c.in_ok-read_flag.was ∙ ap Ok c.if-branch.true) c.read_name.ensures c.in_err-e.was))

pub returns-then-branch : goal.returns-then-branch
returns-then-branch c = label-name c.args.s.now c.read_flag.ensures (c.in_ok-read_flag.was ∙ ap Ok c.if-branch.true) c.read_name.ensures c.in_ok-e.was

pub returns : goal.returns
returns c = label-none c.args.s.now c.read_flag.ensures (c.in_ok-read_flag.was ∙ ap Ok c.if-branch.false)
