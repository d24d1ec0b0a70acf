-- Entries counted and stored one after the other, also past the room of the index. Assumes nothing.
use Rattle.std.specs.Prelude.{List, [], ◌∷◌, ◌+◌, ◌/◌, length, ltb}
use Rattle.fields.specs.Bytes.{pick}
use Rattle.symbols.specs.declared.Places.{Places}
use Rattle.symbols.specs.Numbers.{St, st, noted}

-- one entry more: its numbers are stored where there is room for them, and it is counted in any case
unfoldable pub store : St → Places → St
store s p = st (pick (ltb s.count (length s.index / 3)) (noted s.count p s.index) s.index) (s.count + 1)

-- entries one after the other
unfoldable pub store_all : St → List Places → St
store_all s [] = s
store_all s (p ∷ ps) = store_all (store s p) ps
