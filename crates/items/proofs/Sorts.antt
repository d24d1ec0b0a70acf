-- The fields of the item of a kept number, and its name. Assumes nothing.
use mathlib.Core.Path.{◌≡◌, refl, sym, ◌∙◌}
use mathlib.Core.Bool.{Bool, true, false, ◌||◌}
use mathlib.Core.List.{List, []}
use Prim.Native.Nat.{ℕ, ◌+◌, ◌-◌, ◌≤◌}
use native.Mathlib.Omega.{arith}
use lib.ListN.{length, take, drop}
use lib.Seq.{drop-drop}
use Rattle.fields.specs.Bytes.{pick}
use Rattle.names.specs.Words.{Bytes}
use Rattle.names.specs.Counted.{name_at}
use Rattle.records.specs.declared.sorts.Sort.{Sort as Kind}
use Rattle.records.specs.declared.sorts.Sort.TheVariants.{Temp as temp, Choice as choice}
use Rattle.records.specs.Items.{name_in, same_kind, name_start, nameless, record_name}
use Rattle.records.specs.Numbers.{place_in, sort_in, branch_in, labels_in, leaves_in, payload_at, item_in}
use Rattle.items.proofs.Parts.{part_none}

-- 1. The fields of an item

module _ (file : List ℕ) (x : ℕ) where
  pub item-place : (item_in file x).place ≡ place_in x
  unfolding item_in
  item-place = refl

  pub item-sort : (item_in file x).what.kind ≡ sort_in x
  unfolding item_in
  item-sort = refl

  pub item-name : (item_in file x).what.name ≡ record_name (item_in file x).what.kind (payload_at file (place_in x))
  unfolding item_in
  item-name = refl

  pub item-named : (item_in file x).named ≡ place_in x + (5 + name_start (item_in file x).what.kind)
  unfolding item_in
  item-named = refl

  pub item-labels : (item_in file x).what.labels ≡ labels_in x
  unfolding item_in
  item-labels = refl

  pub item-branch : (item_in file x).what.branch ≡ branch_in x
  unfolding item_in
  item-branch = refl

  pub item-leaves : (item_in file x).what.leaves ≡ leaves_in x
  unfolding item_in
  item-leaves = refl

-- 2. Its name

-- a name that is there begins where the sort says
record-named : (k : Kind) (payload : List ℕ) → nameless k payload ≡ false → record_name k payload ≡ name_at payload (name_start k)
unfolding record_name name_in name_at
record-named k payload h = rw (h, drop-drop)

record-nameless : (k : Kind) (payload : List ℕ) → nameless k payload ≡ true → record_name k payload ≡ []
unfolding record_name
record-nameless k payload h = rw h

module _ (file : List ℕ) (x : ℕ) {payload : List ℕ} (there : payload ≡ payload_at file (place_in x)) {r : Bool} (found : r ≡ nameless (item_in file x).what.kind payload) where
  pub item-nameless : r ≡ true → take (length payload - length payload) (drop (length payload) payload) ≡ (item_in file x).what.name
  item-nameless e = part_none payload ∙ sym (item-name file x ∙ rw (← there) (record-nameless (item_in file x).what.kind payload (sym found ∙ e)))

  pub item-named-there : r ≡ false → {start : ℕ} → start ≡ name_start (item_in file x).what.kind → {name : Bytes} → name ≡ name_at payload start
      → name ≡ (item_in file x).what.name
  item-named-there e s n = n ∙ rw s (sym (item-name file x ∙ rw (← there) (record-named (item_in file x).what.kind payload (sym found ∙ e))))

-- a name begins at the payload's first byte or at its second
pub start_small : {n : ℕ} (k : Kind) → n ≡ name_start k → n ≤ 1
unfolding name_start
start_small {n} k e = by_tests (same_kind k temp || same_kind k choice) e
  where
    by_tests : (b : Bool) → n ≡ pick b 1 0 → n ≤ 1
    by_tests true q = omega arith
    by_tests false q = omega arith
