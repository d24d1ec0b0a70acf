-- `targets::entries::put_ends` meets its contract. Assumes nothing.
use Rattle.std.proofs.Common.{arith, ap}
use Rattle.std.specs.Prelude.{is_err}
use Rattle.targets.proofs.Gaining.{ends_next, ends-stop, ends-many, ends-end}
use Rattle.targets.proofs.entries.put_ends.Goals as goal

pub returns-then-d-eq16 : goal.returns-then-d-eq16
returns-then-d-eq16 c =
    ends-many c.args.file.now c.args.first c.args.second c.args.third c.name_at.ensures c.count_dots-dots.ensures c.loop-d.invariant.2

pub returns-in_err-put_end : goal.returns-in_err-put_end
returns-in_err-put_end c =
    rw c.from_residual.ensures.0
    (ends-stop c.args.file.now c.args.first c.args.second c.args.third c.name_at.ensures c.count_dots-dots.ensures c.loop-d.invariant.2 (omega arith) c.put_end.ensures (ap is_err c.in_err-put_end.was))

pub loop-d-preserved : goal.loop-d-preserved
loop-d-preserved c =
    (omega (arith, c.loop-d.invariant.0), omega arith, ends_next c.args.file.now c.args.first c.args.second c.args.third c.name_at.ensures c.count_dots-dots.ensures c.loop-d.invariant.2 (omega arith) c.put_end.ensures (ap is_err c.in_ok-put_end.was))

pub returns-in_ok-put_end : goal.returns-in_ok-put_end
returns-in_ok-put_end c =
    ends-end c.args.file.now c.args.first c.args.second c.args.third c.name_at.ensures c.count_dots-dots.ensures
    (ends_next c.args.file.now c.args.first c.args.second c.args.third c.name_at.ensures c.count_dots-dots.ensures c.loop-d.invariant.2 (omega arith) c.put_end.ensures (ap is_err c.in_ok-put_end.was))
    (omega arith)
