-- `items::runs::KeptNumbers::count_before` meets its contract. The invariant: the count is from low to high. Assumes nothing.
use Prim.Native.Nat.{◌-◌, ◌≤◌}
use lib.ListN.{length}
use Rattle.items.specs.Runs.{number_before}
use Rattle.items.proofs.runs.KeptNumbers.count_before.Given as goal

abbrev pub invariant-loop-low : goal.invariant-loop-low
invariant-loop-low l = (l.low ≤ number_before l.place l.self.numbers.now) × (number_before l.place l.self.numbers.now ≤ l.high) × (l.high ≤ length l.self.numbers.now)

abbrev pub decreases-loop-low : goal.decreases-loop-low
decreases-loop-low l = l.high - l.low
