-- What a builder does leaves its buffer as long as before.
use Rattle.std.proofs.Common.{◌+◌, ◌≤◌, length, arith}
use Rattle.builder.specs.Building.{Building}
use Rattle.lookup_runs.specs.Room.{SameRoom}

-- what was put stays within the buffer that was lent
pub stays_within : (old new : Building) → SameRoom old new → length new.bytes ≤ length old.bytes + old.room
stays_within old new same = omega arith
