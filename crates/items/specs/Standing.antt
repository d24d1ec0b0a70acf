-- Inner contract. The names of items stand in the file. Assumes nothing.
use Rattle.std.specs.Prelude.{ℕ, ◌<◌, ◌≡◌, true, List}
use Rattle.names.specs.Words.{◌∈◌}
use Rattle.names.specs.Counted.{name_at}
use Rattle.records.specs.Numbers.{item_in}
use Rattle.items.specs.declared.named.Sought.{Sought}
use Rattle.items.specs.Search.{of_sort}

-- each item of a sought sort bears the name that the file has at its place
pub record NamesStand (file items : List ℕ) : Type 0 where
  pub named : (x : ℕ) → x ∈ items → (s : Sought) → of_sort s (item_in file x).what ≡ true
      → ((item_in file x).named < 1048576) × (name_at file (item_in file x).named ≡ (item_in file x).what.name)
