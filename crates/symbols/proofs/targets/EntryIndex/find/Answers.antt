-- `symbols::targets::EntryIndex::find` meets its contract. Assumes nothing.
use native.Mathlib.Omega.{arith}
use Rattle.symbols.proofs.Searched.{left-start, left_end, left-found, left-next}
use Rattle.symbols.proofs.targets.EntryIndex.find.Goals as goal

pub loop-k-init : goal.loop-k-init
loop-k-init c = left-start

pub returns-then-is_wanted : goal.returns-then-is_wanted
returns-then-is_wanted c =
    left-found c.loop-k.invariant (omega arith) c.entry_at.ensures c.fit_entry.ensures c.is_wanted.ensures c.if-is_wanted.true

pub loop-k-preserved : goal.loop-k-preserved
loop-k-preserved c =
    left-next c.loop-k.invariant (omega arith) c.entry_at.ensures c.fit_entry.ensures c.is_wanted.ensures c.if-is_wanted.false

pub returns : goal.returns
returns c = left_end c.loop-k.invariant (omega arith)
