-- Inner contract. The names of the items of a sort in a set, in a class; and those for which there was no room. Assumes nothing.
use Rattle.std.specs.Prelude.{ℕ, ◌≤◌, ◌≡◌, Bool, ◌||◌, List, ◌∷◌, length, take, drop}
use Rattle.names.specs.Words.{Bytes, one_of}
use Rattle.story.specs.Story.{whats}
use Rattle.items.specs.declared.named.Sought.{Sought}
use Rattle.items.specs.Bodies.{items_at}
use Rattle.items.specs.Search.{found_among}
use Rattle.sets.specs.Sets.{name_slots, held, Reachable, Same}

-- some of the items is of the sought sort and bears the name
abbrev pub found_in : Sought → List ℕ → List ℕ → Bytes → Bool
found_in s file items w = found_among s (whats (items_at file items)) w

-- of the first i items, the names of those of the sought sort are those that the set holds in the class, and those of the items from `rest` on
pub record Members (s : Sought) (file : List ℕ) (class : ℕ) (items : List ℕ) (i : ℕ) (set : List ℕ) (rest : ℕ) : Type 0 where
  pub reachable : Reachable (name_slots file) set
  pub inside : (rest ≤ i) × (i ≤ length items)
  pub names : (w : Bytes) → found_in s file (take i items) w ≡ one_of (class ∷ w) (held (name_slots file) set) || found_in s file (drop rest (take i items)) w

-- the names of the first i items were put as far as there was room; the other classes stayed
pub record MembersPut (s : Sought) (file : List ℕ) (class : ℕ) (items : List ℕ) (i : ℕ) (before after : List ℕ) (rest : ℕ) : Type 0 where
  pub members : Members s file class items i after rest
  pub others : (d : ℕ) → (d ≡ class → ⊥) → Same (name_slots file) d before after
