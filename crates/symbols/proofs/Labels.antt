-- The labels of a body, item by item. Assumes nothing.
use mathlib.Core.Path.{◌≡◌}
use mathlib.Core.Bool.{Bool, true, false}
use mathlib.Core.List.{List, [], ◌∷◌, ◌++◌, append-nil}
use Prim.Native.Nat.{ℕ, suc, ◌+◌, ◌≤◌, ◌<◌}
use native.Mathlib.Omega.{arith}
use lib.ListN.{length, get_or, drop, drop_of_length-le}
use lib.Seq.{drop-cons}
use Rattle.records.specs.Items.{Item}
use Rattle.records.specs.Numbers.{item_in}
use Rattle.items.specs.Bodies.{items_at}
use Rattle.symbols.specs.Placed.{labels_placed}

-- 1. One item

module _ (flow stitch : ℕ) (i : Item) {r : Bool} (e : r ≡ i.what.labels) where
  pub label-one : {own : ℕ} → r ≡ true → own ≡ i.named → labels_placed flow stitch (i ∷ []) ≡ record { flow = flow; stitch = stitch; own = own } ∷ []
  unfolding labels_placed
  label-one h o = rw (← e, h, o)

  pub label-passed : r ≡ false → labels_placed flow stitch (i ∷ []) ≡ []
  unfolding labels_placed
  label-passed h = rw (← e, h)

-- 2. One after the other

module _ (file : List ℕ) (flow stitch : ℕ) where
  pub labels_next : (items : List ℕ) (n : ℕ) → n < length items → labels_placed flow stitch (items_at file (drop n items))
      ≡ labels_placed flow stitch (item_in file (get_or items n 0) ∷ []) ++ labels_placed flow stitch (items_at file (drop (n + 1) items))
  unfolding labels_placed
  labels_next items n h = let e : n + 1 ≡ suc n = omega arith in rw (drop-cons items n 0 h, e, append-nil)

  pub labels-end : (items : List ℕ) (n : ℕ) → length items ≤ n → labels_placed flow stitch (items_at file (drop n items)) ≡ []
  unfolding labels_placed
  labels-end items n h = rw (drop_of_length-le items h)
