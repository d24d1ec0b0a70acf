-- `tables::seek` meets its contract. The loop's invariant: where the walk from this slot on ends, the whole walk ends. Assumes nothing.
use Rattle.std.proofs.Common.{◌-◌, ◌%◌, ◌<◌, length}
use Rattle.sets.specs.declared.Sought.{Sought}
use Rattle.tables.specs.Tables.{EndsAt}
use Rattle.tables.proofs.seek.Given as goal

abbrev pub invariant-loop-tried : goal.invariant-loop-tried
invariant-loop-tried g l =
    (l.slot < length l.table)
    × ((r : Sought) → EndsAt (goal.F-post g l.is_met) (8 - l._tried) l.table l.slot r → EndsAt (goal.F-post g l.is_met) 8 l.table (l.hash % length l.table) r)
