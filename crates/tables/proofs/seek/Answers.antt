-- `tables::seek` meets its contract. Assumes nothing.
use Rattle.std.proofs.Common.{◌≡◌, ◌-◌, ◌+◌, arith}
use Rattle.tables.proofs.Ending.{ends-vacant, ends-found, ends-further, ends-exhausted}
use Rattle.tables.proofs.seek.Goals as goal

pub returns-then-number-eq0-clause-ends : goal.returns-then-number-eq0-clause-ends
returns-then-number-eq0-clause-ends g c =
    c.loop-tried.invariant.1 _ (ends-vacant _ c.args.table.now c.loop-tried.slot (8 - c.loop-tried._tried) (omega arith) c.if-number-eq0.true)

pub returns-then-is_met-clause-ends : goal.returns-then-is_met-clause-ends
returns-then-is_met-clause-ends g c =
    c.loop-tried.invariant.1 _ (ends-found _ c.args.table.now c.loop-tried.slot (8 - c.loop-tried._tried) (omega arith) c.if-number-eq0.false c.if-is_met.ensures)

pub loop-tried-preserved : goal.loop-tried-preserved
loop-tried-preserved g c =
    let k : 8 - (c.loop-tried._tried + 1) ≡ 8 - c.loop-tried._tried - 1 = omega arith in (
      c.next_slot-slot.ensures.1,
      λ r e. c.loop-tried.invariant.1 r
          (ends-further _ c.args.table.now c.loop-tried.slot (8 - c.loop-tried._tried) (omega arith) c.if-number-eq0.false c.if-is_met.ensures r
          (rw (k, c.next_slot-slot.ensures.0) at e)),
    )

pub returns-clause-ends : goal.returns-clause-ends
returns-clause-ends g c = c.loop-tried.invariant.1 _ (ends-exhausted _ c.args.table.now c.loop-tried.slot (8 - c.loop-tried._tried) (omega arith))
