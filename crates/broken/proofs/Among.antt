-- Items of a sort that bear a name, searched in a run of items, as the rules ask for them. Assumes nothing.
use mathlib.Core.Path.{◌≡◌, refl, ap}
use mathlib.Core.Bool.{Bool}
use mathlib.Core.List.{List, [], ◌∷◌}
use Prim.Native.Nat.{ℕ, zero, suc, ◌-◌}
use native.Mathlib.Omega.{arith}
use lib.ListN.{length, take, drop}
use lib.Seq.{take_all}
use Rattle.names.specs.Words.{Bytes}
use Rattle.records.specs.Items.{What}
use Rattle.records.specs.Numbers.{item_in}
use Rattle.story.specs.Story.{whats}
use Rattle.story.specs.Flows.{part}
use Rattle.items.specs.declared.named.Sought.TheVariants as sought
use Rattle.items.specs.Bodies.{items_at}
use Rattle.items.specs.Search.{label_in, temp_in, gather_among, of_sort, bears, found_among}

-- a run of the kept items, as the code lends it
pub run_lent : (a b : ℕ) (kept : List ℕ) → take (b - a) (drop a kept) ≡ part a b kept
unfolding part
run_lent a b kept = refl

-- all items of a list
whole : (items : List ℕ) → take (length items) items ≡ items
whole items = take_all (length items) items (omega arith)

-- what the first items are
pub whats-take : (file : List ℕ) (n : ℕ) (items : List ℕ) → whats (items_at file (take n items)) ≡ take n (whats (items_at file items))
whats-take file zero items = refl
whats-take file (suc n) [] = refl
whats-take file (suc n) (x ∷ items) = ap (λ (l : List What). (item_in file x).what ∷ l) (whats-take file n items)

module _ (file items : List ℕ) (n : Bytes) {r : Bool} where
  pub labels_among : r ≡ found_among sought.Label (whats (items_at file (take (length items) items))) n → r ≡ label_in (items_at file items) n
  unfolding found_among bears of_sort
  labels_among e = rw (whole items) at e

  pub temps_among : r ≡ found_among sought.Temp (whats (items_at file (take (length items) items))) n → r ≡ temp_in (items_at file items) n
  unfolding found_among bears of_sort
  temps_among e = rw (whole items) at e

  pub gathers-among : (i : ℕ) → r ≡ found_among sought.Gather (whats (items_at file (take i items))) n → r ≡ gather_among (take i (whats (items_at file items))) n
  unfolding found_among bears of_sort
  gathers-among i e = rw (whats-take file i items) at e
