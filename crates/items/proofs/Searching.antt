-- A search over the items of a body. Assumes nothing.
use Rattle.std.proofs.Common.{◌≡◌, refl, ap, Bool, ◌||◌, ℕ, List, [], ◌∷◌}
use Rattle.std.specs.List.{list_any}
use Rattle.names.specs.Words.{any}
use Rattle.records.specs.Items.{What}
use Rattle.records.specs.Numbers.{item_in}
use Rattle.story.specs.Story.{whats}
use Rattle.items.specs.Bodies.{items_at}

-- some item passes the test where that of some number does
pub any-items : (f : What → Bool) (file xs : List ℕ) → list_any (λ x. f (item_in file x).what) xs ≡ any f (whats (items_at file xs))
any-items f file [] = refl
any-items f file (x ∷ xs) = ap (λ b. f (item_in file x).what || b) (any-items f file xs)
