-- The names of the kept items stand in the file: `kept-names-stand`; and those of parts of them. Assumes nothing.
use mathlib.Core.Path.{◌≡◌, refl, sym}
use mathlib.Core.Bool.{Bool, true, false, not, ◌&&◌}
use mathlib.Core.List.Memᴰ
use mathlib.Core.List.{List, [], ◌∷◌}
use mathlib.Core.Logic.{◌⊎◌, inl, inr}
use Prim.Native.Nat.{ℕ, zero, suc, ◌-◌, ◌≤◌, ◌<◌}
use native.Mathlib.Omega.{arith}
use lib.Dec.{ltb}
use lib.ListN.{length, take, drop}
use borrow.Author.Tests.{eqb-true}
use Rattle.fields.specs.Bytes.{pick}
use Rattle.names.specs.Words.{◌∈◌}
use Rattle.names.specs.Counted.{name_at}
use Rattle.records.specs.Trace.{Record}
use Rattle.records.specs.declared.sorts.Sort.TheVariants.{Temp as temp, Gather as gather}
use Rattle.records.specs.Items.{code, Item, sort_of, nameless, what_of, item_as, item_of}
use Rattle.records.specs.Numbers.{number_of, place_in, item_in, between}
use Rattle.records.proofs.Places.{stands-fits}
use Rattle.story.specs.declared.Sections.{Sections}
use Rattle.story.specs.Story.{story_items}
use Rattle.story.specs.Flows.{part}
use Rattle.story.specs.File.{story_in}
use Rattle.story.proofs.Readable.{readable}
use Rattle.story.proofs.Opening.{sections-well}
use Rattle.story.proofs.Named.{label-nameless}
use Rattle.story.proofs.NamedItems.{Standing, story-named}
use Rattle.story.proofs.Unpacked.{item_back}
use Rattle.items.specs.declared.named.Sought.{Sought}
use Rattle.items.specs.declared.named.Sought.TheVariants as sought
use Rattle.items.specs.Bodies.{Kept}
use Rattle.items.specs.Search.{of_sort}
use Rattle.items.specs.Standing.{NamesStand}
use Rattle.items.proofs.Kept.{of-kept}

-- 1. Parts

module _ {file xs : List ℕ} (h : NamesStand file xs) where
  -- of items that are all among these
  pub stand-among : {ys : List ℕ} → ((x : ℕ) → x ∈ ys → x ∈ xs) → NamesStand file ys
  stand-among inside = record { named = λ x m s o. h.named x (inside x m) s o }

take-among : (n : ℕ) (xs : List ℕ) (x : ℕ) → x ∈ take n xs → x ∈ xs
take-among zero xs x m = absurd (Memᴰ.not-nil m)
take-among (suc n) [] x m = absurd (Memᴰ.not-nil m)
take-among (suc n) (y ∷ xs) x m = by_cases (take-among n xs x) (Memᴰ.cases_cons m)
  where
    by_cases : (x ∈ take n xs → x ∈ xs) → (x ≡ y) ⊎ (x ∈ take n xs) → x ∈ (y ∷ xs)
    by_cases later (inl e) = Memᴰ.head e
    by_cases later (inr i) = Memᴰ.tail (later i)

drop-among : (n : ℕ) (xs : List ℕ) (x : ℕ) → x ∈ drop n xs → x ∈ xs
drop-among zero xs x m = m
drop-among (suc n) [] x m = m
drop-among (suc n) (y ∷ xs) x m = Memᴰ.tail (drop-among n xs x m)

between-among : (from to : ℕ) (xs : List ℕ) (x : ℕ) → x ∈ between from to xs → x ∈ xs
unfolding between
between-among from to [] x m = m
between-among from to (y ∷ xs) x m = by-test (not (ltb (place_in y) from) && ltb (place_in y) to) (between-among from to xs x) m
  where
    by_cases : (x ∈ between from to xs → x ∈ xs) → (x ≡ y) ⊎ (x ∈ between from to xs) → x ∈ (y ∷ xs)
    by_cases later (inl e) = Memᴰ.head e
    by_cases later (inr i) = Memᴰ.tail (later i)

    by-test : (b : Bool) → (x ∈ between from to xs → x ∈ xs) → x ∈ pick b (y ∷ between from to xs) (between from to xs) → x ∈ (y ∷ xs)
    by-test true later i = by_cases later (Memᴰ.cases_cons i)
    by-test false later i = Memᴰ.tail (later i)

module _ {file xs : List ℕ} (h : NamesStand file xs) where
  -- the first n
  pub stand-take : (n : ℕ) → NamesStand file (take n xs)
  stand-take n = stand-among h (take-among n xs)

  -- those after the first n
  pub stand-drop : (n : ℕ) → NamesStand file (drop n xs)
  stand-drop n = stand-among h (drop-among n xs)

  -- those from the one place to the other
  pub stand-between : (from to : ℕ) → NamesStand file (between from to xs)
  stand-between from to = stand-among h (between-among from to xs)

  -- those from number a to number b
  pub stand-part : (a b : ℕ) → NamesStand file (part a b xs)
  unfolding part
  stand-part a b = stand-among h (λ x m. drop-among a xs x (take-among (b - a) (drop a xs) x m))

-- 2. The kept items

-- a label, a temp, a gather have a name
sought-named : (s : Sought) (r : Record) → of_sort s (item_of r).what ≡ true → nameless (sort_of r.role r.kind r.payload) r.payload ≡ false
unfolding of_sort item_of item_as what_of nameless
sought-named sought.Label r e = label-nameless (sort_of r.role r.kind r.payload) r.payload e
sought-named sought.Temp r e = rw (← eqb-true (code temp) (code (sort_of r.role r.kind r.payload)) e)
sought-named sought.Gather r e = rw (← eqb-true (code gather) (code (sort_of r.role r.kind r.payload)) e)

-- the number of an item of the file
number-named : {file : List ℕ} {i : Item} → length file ≤ 1048576 → Standing file i → (s : Sought) → of_sort s (item_in file (number_of i)).what ≡ true
    → ((item_in file (number_of i)).named < 1048576) × (name_at file (item_in file (number_of i)).named ≡ (item_in file (number_of i)).what.name)
number-named {file} {i} short d s o =
    let r = d.of in
    let back : item_in file (number_of i) ≡ i = rw (← d.same) (item_back file r d.stands (omega (arith, stands-fits file d.stands))) in
    let is : of_sort s (item_of r).what ≡ true = rw (back, ← d.same) at o in
    let n = d.named (sought-named s r is) in
    rw back (omega (arith, n.before), sym n.name)

-- THE NAMES of the kept items stand in the file
pub kept-names-stand : {file : List ℕ} {c : Sections} {kept : List ℕ} → Kept file c kept → NamesStand file kept
kept-names-stand {file} {c} {kept} h = record { named = named }
  where
    named : (x : ℕ) → x ∈ kept → (s : Sought) → of_sort s (item_in file x).what ≡ true
        → ((item_in file x).named < 1048576) × (name_at file (item_in file x).named ≡ (item_in file x).what.name)
    named x m s o =
        let order = (readable file c refl h.read).order in
        let k = of-kept (story_items (story_in c file)) x (rw h.numbers at m) in
        rw (← k.2) (number-named order.short (story-named c file order (sections-well file c h.read) k.0 k.1) s (rw (← k.2) at o))
