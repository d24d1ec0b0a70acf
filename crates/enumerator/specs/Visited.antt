-- Inner contract. Entries visited one after the other, with three outputs: the index, the set of targets, whether some entry answers a target. Assumes nothing.
use Rattle.std.specs.Prelude.{ℕ, ◌+◌, ◌≤◌, ◌≡◌, ◌||◌, List, map, length}
use Rattle.names.specs.Words.{any, ◌∈◌}
use Rattle.sets.specs.Sets.{Reachable}
use Rattle.symbols.specs.declared.Places.{Places}
use Rattle.symbols.specs.Rows.{spelling_in}
use Rattle.symbols.specs.Fits.{answers}
use Rattle.targets.specs.Slots.{end_slots}
use Rattle.targets.specs.Entries.{PlacesFit, Put}
use Rattle.enumerator.specs.declared.Seen.{Seen}
use Rattle.symbols.specs.Numbers.{st}
use Rattle.enumerator.specs.Numbers.{store_all}

-- the entries are few enough to be counted, and their targets can be put into the set
pub record Ready (file : List ℕ) (places : List Places) (set : List ℕ) (count : ℕ) : Type 0 where
  pub few : count + length places ≤ 1048576
  pub fit : (p : Places) → p ∈ places → PlacesFit p
  pub reachable : Reachable (end_slots file) set

-- the entries were visited: counted, and stored in the index as far as there is room; their targets were put into the set; the target was compared with each
pub record Visited (file target : List ℕ) (places : List Places) (index set : List ℕ) (seen : Seen) (index' set' : List ℕ) (seen' : Seen) : Type 0 where
  pub stored : st index' seen'.count ≡ store_all (st index seen.count) places
  pub put : Put file places set set' seen.left seen'.left
  pub asked : seen'.found ≡ seen.found || any (answers target) (map (spelling_in file) places)
