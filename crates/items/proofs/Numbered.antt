-- The items of some numbers, by number: how many, one of them, the first of them. Assumes nothing.
use mathlib.Core.Path.{◌≡◌, refl, ap}
use mathlib.Core.List.{List, [], ◌∷◌}
use Prim.Native.Nat.{ℕ, zero, suc, ◌+◌, ◌<◌}
use native.Mathlib.Numerals.{add-one}
use native.Mathlib.Omega.{arith}
use lib.ListN.{length, get_or, take, drop, length-map, get_or-map}
use lib.Seq.{drop-cons}
use Rattle.records.specs.Items.{What}
use Rattle.story.specs.Story.{whats}
use Rattle.records.specs.Numbers.{item_in}
use Rattle.items.specs.Bodies.{items_at}

module _ (file xs : List ℕ) where
  -- as many items as numbers
  pub items-length : length (items_at file xs) ≡ length xs
  items-length = length-map xs (item_in file)

  -- item number i, and the later ones
  pub item-there : {i : ℕ} → i < length xs → drop i (items_at file xs) ≡ item_in file (get_or xs i 0) ∷ drop (i + 1) (items_at file xs)
  item-there {i} h = rw (add-one i, ← get_or-map (item_in file) xs i 0) (drop-cons (items_at file xs) i (item_in file 0) (omega (arith, items-length)))

-- the items of the first numbers are the first items
pub items-first : (file xs : List ℕ) (i : ℕ) → whats (items_at file (take i xs)) ≡ take i (whats (items_at file xs))
items-first file xs zero = refl
items-first file [] (suc i) = refl
items-first file (x ∷ xs) (suc i) = ap (λ (l : List What). (item_in file x).what ∷ l) (items-first file xs i)
