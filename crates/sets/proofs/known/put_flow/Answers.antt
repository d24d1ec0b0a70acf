-- `sets::known::put_flow` meets its contract. Assumes nothing.
use Rattle.std.proofs.Common.{refl, ap}
use Rattle.std.specs.Prelude.{is_err}
use Rattle.sets.proofs.Flows.{err-full, flow-full, flow-only, flow-function}
use Rattle.sets.proofs.known.put_flow.Goals as goal

pub returns-in_err-put : goal.returns-in_err-put
returns-in_err-put c = err-full _ c.from_residual.ensures.0 (flow-full c.args.file.now c.args.v c.put.ensures refl (ap is_err c.in_err-put.was))

pub returns-in_err-put-2 : goal.returns-in_err-put-2
returns-in_err-put-2 c =
    err-full _ c.from_residual-in_err-put-2.ensures.0
    (rw (← ap is_err c.in_err-put-2.was) (flow-function c.args.file.now c.args.v c.put.ensures refl (ap is_err c.in_ok-put.was) c.put-then-v.ensures refl c.if-v.true))

pub returns-in_ok-put-2 : goal.returns-in_ok-put-2
returns-in_ok-put-2 c =
    rw (← ap is_err c.in_ok-put-2.was) (flow-function c.args.file.now c.args.v c.put.ensures refl (ap is_err c.in_ok-put.was) c.put-then-v.ensures refl c.if-v.true)

pub returns-else-v : goal.returns-else-v
returns-else-v c = flow-only c.args.file.now c.args.v c.put.ensures refl (ap is_err c.in_ok-put.was) c.if-v.false
