-- Words added one after the other: the names of items of a sort, and labels. Assumes nothing.
use mathlib.Core.Path.{◌≡◌, refl, sym, ◌∙◌}
use mathlib.Core.Bool.{Bool, true, false}
use mathlib.Core.List.{List, [], ◌∷◌, ◌++◌}
use Prim.Native.Nat.{ℕ, suc, ◌+◌, ◌≤◌, ◌<◌}
use native.Mathlib.Numerals.{add-one}
use lib.ListN.{length, get_or, drop, drop_of_length-le}
use lib.Seq.{drop-cons}
use Rattle.std.specs.Prelude.{◌==◌}
use Rattle.names.specs.Words.{Bytes, each}
use Rattle.records.specs.Items.{What, code}
use Rattle.story.specs.Story.{whats}
use Rattle.records.specs.Numbers.{item_in}
use Rattle.items.specs.Bodies.{items_at}
use Rattle.filters.specs.declared.Wanted.{Wanted}
use Rattle.filters.specs.Words.{added, added_all, wants, named, sort_named}

-- 1. The names of items that are wanted

module _ (filter : List ℕ) (v : Wanted) (w : What) {b : Bool} (e : b ≡ wants v w) where
  pub item_added : b ≡ true → {name : Bytes} → name ≡ w.name → {after : List ℕ} → after ≡ added filter name → after ≡ added_all filter (named v w)
  unfolding added_all named
  item_added t n a = a ∙ rw (← e, t, n)

  pub item_passed : b ≡ false → filter ≡ added_all filter (named v w)
  unfolding added_all named
  item_passed f = rw (← e, f)

-- the same, of the sort that has a number
module _ (filter : List ℕ) (number : ℕ) (w : What) {b : Bool} (e : b ≡ (number == code w.kind)) where
  pub numbered_added : b ≡ true → {name : Bytes} → name ≡ w.name → {after : List ℕ} → after ≡ added filter name → after ≡ added_all filter (sort_named number w)
  unfolding added_all sort_named
  numbered_added t n a = a ∙ rw (← e, t, n)

  pub numbered_passed : b ≡ false → filter ≡ added_all filter (sort_named number w)
  unfolding added_all sort_named
  numbered_passed f = rw (← e, f)

-- 2. Names of items one after the other

added-append : (vs ws : List Bytes) (filter : List ℕ) → added_all filter (vs ++ ws) ≡ added_all (added_all filter vs) ws
unfolding added_all
added-append [] ws filter = refl
added-append (v ∷ vs) ws filter = added-append vs ws (added filter v)

-- of the names that items give, those of the items from number i on are left to be added
pub record ItemsLeft (names : What → List Bytes) (start file items filter : List ℕ) (i : ℕ) : Type 0 where
  pub rest : added_all start (each names (whats (items_at file items))) ≡ added_all filter (each names (whats (items_at file (drop i items))))

pub items-start : (names : What → List Bytes) (filter file items : List ℕ) → ItemsLeft names filter file items filter 0
items-start names filter file items = record { rest = refl }

module _ {names : What → List Bytes} {start file items filter : List ℕ} {i : ℕ} (left : ItemsLeft names start file items filter i) where
  pub items-end : length items ≤ i → filter ≡ added_all start (each names (whats (items_at file items)))
  unfolding added_all
  items-end h = sym (left.rest ∙ rw (drop_of_length-le items h))

  -- the names of item number i are added
  pub items-next : i < length items → {after : List ℕ} → after ≡ added_all filter (names (item_in file (get_or items i 0)).what) → ItemsLeft names start file items after (i + 1)
  items-next h e = record {
    rest = left.rest
        ∙ rw (drop-cons items i 0 h, added-append (names (item_in file (get_or items i 0)).what) (each names (whats (items_at file (drop (suc i) items)))) filter, ← e, add-one i);
  }
