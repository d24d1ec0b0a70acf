-- The buffer that a builder was lent.
use Rattle.std.specs.Prelude.{◌≡◌, ◌+◌, length}
use Rattle.builder.specs.Building.{Building}

-- the bytes put so far and the room that is left are together as many as before: what is put stays within the buffer that was lent
abbrev pub SameRoom : Building → Building → Type 0
SameRoom old new = length new.bytes + new.room ≡ length old.bytes + old.room
