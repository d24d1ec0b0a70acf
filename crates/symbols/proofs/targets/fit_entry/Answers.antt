-- `symbols::targets::fit_entry` meets its contract: by its own name, then by its stitch's, with its flow's before. Assumes nothing.
use Rattle.std.proofs.Common.{ap, is_some}
use Rattle.names.specs.Counted.{name_at}
use Rattle.symbols.specs.Rows.{dotted_in}
use Rattle.symbols.proofs.Fits.{reach-fit, within-fit}
use Rattle.symbols.proofs.Rows.{spelled-alone, spelled-within}
use Rattle.symbols.proofs.targets.fit_entry.Goals as goal

pub returns-then-p-eq-ABSENT : goal.returns-then-p-eq-ABSENT
returns-then-p-eq-ABSENT c =
    rw (spelled-alone c.args.file.now c.args.p c.if-p-eq-ABSENT.true, ← c.name_at-own.ensures) c.fit_flow.ensures

pub returns-in-Some : goal.returns-in-Some
returns-in-Some c =
    let own = c.name_at-own in
    let stitch = c.name_at in
    rw (spelled-within c.args.file.now c.args.p c.if-p-eq-ABSENT.false, ← own.ensures, ← stitch.ensures)
    (reach-fit c.args.target.now own.result.now (dotted_in c.args.file.now c.args.p.flow stitch.result.now) _ (rw c.in-Some.is at c.before_dotted.ensures.before) c.fit_flow-in-Some.ensures)

pub returns : goal.returns
returns c =
    let own = c.name_at-own in
    rw (spelled-within c.args.file.now c.args.p c.if-p-eq-ABSENT.false, ← own.ensures)
    (within-fit c.args.target.now own.result.now (dotted_in c.args.file.now c.args.p.flow (name_at c.args.file.now c.args.p.stitch)) c.before_dotted.ensures.ends (ap is_some c.in_default.is) c.fit_end.ensures)
