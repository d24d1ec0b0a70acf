-- `symbols::targets::fit_flow` meets its contract: without a flow the name is the spelling, else the target reaches before the name or not. Assumes nothing.
use Rattle.std.proofs.Common.{ap, is_some}
use Rattle.names.specs.Counted.{name_at}
use Rattle.symbols.proofs.Fits.{reach-fit, within-fit}
use Rattle.symbols.proofs.Rows.{dotted-none, dotted-some}
use Rattle.symbols.proofs.targets.fit_flow.Goals as goal

pub returns-then-flow-eq-ABSENT : goal.returns-then-flow-eq-ABSENT
returns-then-flow-eq-ABSENT c =
    rw (dotted-none c.args.file.now c.args.flow c.args.last.now c.if-flow-eq-ABSENT.true) c.fit_word.ensures

pub returns-in-Some : goal.returns-in-Some
returns-in-Some c =
    rw (dotted-some c.args.file.now c.args.flow c.args.last.now c.if-flow-eq-ABSENT.false, ← c.name_at.ensures)
    (reach-fit c.args.target.now c.args.last.now c.name_at.result.now _ (rw c.in-Some.is at c.before_dotted.ensures.before) c.fit_word-in-Some.ensures)

pub returns : goal.returns
returns c =
    rw (dotted-some c.args.file.now c.args.flow c.args.last.now c.if-flow-eq-ABSENT.false)
    (within-fit c.args.target.now c.args.last.now (name_at c.args.file.now c.args.flow) c.before_dotted.ensures.ends (ap is_some c.in_default.is) c.fit_end.ensures)
