-- What a kept number says: in the file it is the item that it was kept for. Assumes nothing.
use mathlib.Core.Path.{◌≡◌, refl}
use mathlib.Core.Bool.{Bool, true, false, ◌&&◌}
use mathlib.Core.List.Memᴰ
use mathlib.Core.List.{List, [], ◌∷◌, map, Memᴰ}
use Prim.Native.Nat.{ℕ, zero, suc, ◌+◌, ◌*◌, ◌/◌, ◌%◌, ◌≤◌, ◌<◌, ◌-◌}
use native.Mathlib.Omega.{arith}
use lib.Dec.{eqb, leb, T}
use lib.ListN.{length, get_or, take, drop}
use lib.Seq.{drop-drop}
use borrow.Author.Tests.{leb-true}
use Rattle.fields.specs.declared.Role.{Role}
use Rattle.fields.specs.declared.Role.TheVariants.{Node, Branch, Cond, Visited, Argument, Unvisited}
use Rattle.fields.specs.Bytes.{pick}
use Rattle.names.proofs.Bools.{is_true, and_left, and_right}
use Rattle.records.specs.Trace.{Record, well, ends, met, Ending, refused}
use Rattle.records.specs.Grammar.{Reading, nodes}
use Rattle.records.specs.Stands.{Stands}
use Rattle.records.proofs.Places.{stands-drop, stands-fits, stands-take, Places, nodes-places, met-placed}
use Rattle.records.specs.declared.sorts.Sort.{Sort as Kind}
use Rattle.records.specs.declared.sorts.Sort.TheVariants.{Plain as plain, Temp as temp, Divert as divert, Tunnel as tunnel, Thread as thread, Call as call, Variable as variable, Argument as argument, Choice as choice, Gather as gather, Parameter as parameter, StitchName as stitch_name, FlowStart as flow_start}
use Rattle.records.specs.Items.{code, is, Item, node_sorts, cond_sorts, expr_sorts, argument_sorts, sort_of, what_of, item_as, item_of, items_ended, items_in}
use Rattle.story.specs.Flows.{part}
use Rattle.story.specs.Plain.{not_plain}
use Rattle.records.specs.Numbers.{bit, mark_of, number_of, kept_numbers, place_in, sorts, sort_in, branch_in, labels_in, leaves_in, payload_behind, payload_at, item_in}
use Rattle.records.specs.Work.{items_of}
use Rattle.records.proofs.Marks.{code-small, bit-small}

-- 1. A record's sort is none of the last three

-- each kind of a table is a record's
abbrev records : List Kind → Bool
records [] = true
records (k ∷ ks) = leb (code k) 9 && records ks

at_table : (ks : List Kind) (i : ℕ) → T (records ks) → code (get_or ks i plain) ≤ 9
at_table [] i r = omega arith
at_table (k ∷ ks) zero r = leb-true (code k) 9 (is_true (leb (code k) 9) (and_left (leb (code k) 9) (records ks) r))
at_table (k ∷ ks) (suc i) r = at_table ks i (and_right (leb (code k) 9) (records ks) r)

-- an assignment is a temp or plain
assigned-record : (b : Bool) → T (leb (code (pick b temp plain)) 9 && true)
assigned-record true = tt
assigned-record false = tt

node-record : (kind : ℕ) (payload : List ℕ) → code (get_or (node_sorts payload) kind plain) ≤ 9
node-record kind payload = at_table (node_sorts payload) kind (assigned-record (eqb (get_or payload 0 0) 1))

sort-record : (role : Role) (kind : ℕ) (payload : List ℕ) → code (sort_of role kind payload) ≤ 9
unfolding sort_of
sort-record Node kind payload = node-record kind payload
sort-record Branch kind payload = node-record kind payload
sort-record Cond kind payload = at_table cond_sorts kind tt
sort-record Visited kind payload = at_table expr_sorts kind tt
sort-record Argument kind payload = at_table argument_sorts kind tt
sort-record Unvisited kind payload = omega arith

-- so is the sort of every number
pub number-record : (x : ℕ) → code (sort_in x) ≤ 9
unfolding sort_in
number-record x = at_table sorts (x / 1048576 % 16) tt

-- 2. The parts of a number

kind-back : (k : Kind) → code k ≤ 9 → get_or sorts (code k) plain ≡ k
kind-back plain h = refl
kind-back temp h = refl
kind-back divert h = refl
kind-back tunnel h = refl
kind-back thread h = refl
kind-back call h = refl
kind-back variable h = refl
kind-back argument h = refl
kind-back choice h = refl
kind-back gather h = refl
kind-back parameter h = absurd (omega arith)
kind-back stitch_name h = absurd (omega arith)
kind-back flow_start h = absurd (omega arith)

bit-back : (b : Bool) → eqb (bit b) 1 ≡ b
unfolding bit
bit-back true = refl
bit-back false = refl

module _ (i : Item) (low : i.place < 1048576) where
  abbrev k : ℕ
  k = code i.what.kind

  abbrev b : ℕ
  b = bit i.what.branch

  abbrev l : ℕ
  l = bit i.what.labels

  abbrev v : ℕ
  v = bit i.what.leaves

  small : (k < 16) × (b ≤ 1) × (l ≤ 1) × (v ≤ 1)
  small = (code-small i.what.kind, bit-small i.what.branch, bit-small i.what.labels, bit-small i.what.leaves)

  high : number_of i / 1048576 ≡ k + 16 * b + 32 * l + 64 * v
  unfolding number_of mark_of
  high = omega arith

  pub place-back : place_in (number_of i) ≡ i.place
  unfolding place_in number_of
  place-back = omega arith

  pub sort-back : k ≤ 9 → sort_in (number_of i) ≡ i.what.kind
  unfolding sort_in
  sort-back h = let e : number_of i / 1048576 % 16 ≡ k = omega (arith, high, small) in rw e (kind-back i.what.kind h)

  pub branch_back : branch_in (number_of i) ≡ i.what.branch
  unfolding branch_in
  branch_back = let e : number_of i / 1048576 / 16 % 2 ≡ b = omega (arith, high, small) in rw e (bit-back i.what.branch)

  pub labels-back : labels_in (number_of i) ≡ i.what.labels
  unfolding labels_in
  labels-back = let e : number_of i / 1048576 / 32 % 2 ≡ l = omega (arith, high, small) in rw e (bit-back i.what.labels)

  pub leaves-back : leaves_in (number_of i) ≡ i.what.leaves
  unfolding leaves_in
  leaves-back = let e : number_of i / 1048576 / 64 ≡ v = omega (arith, high, small) in rw e (bit-back i.what.leaves)

-- 3. The item of a record that stands in the file

payload-back : (file : List ℕ) (r : Record) → Stands file r.place r.kind r.payload → payload_at file r.place ≡ r.payload
unfolding payload_at payload_behind
payload-back file r h = rw (h.head, drop-drop 5 r.place file) h.behind

pub item_back : (file : List ℕ) (r : Record) → Stands file r.place r.kind r.payload → r.place < 1048576 → item_in file (number_of (item_of r)) ≡ item_of r
unfolding item_in item_of item_as what_of
item_back file r h low =
    rw (place-back (item_of r) low, sort-back (item_of r) low (sort-record r.role r.kind r.payload), branch_back (item_of r) low, labels-back (item_of r) low, leaves-back (item_of r) low, payload-back file r h)

-- the items of what is read from the one place of the file to the other
module _ (file : List ℕ) (from to : ℕ) (short : length file ≤ 1048576) where
  pub reading-back : (k : Reading) → Places k → (i : Item) → Memᴰ i (items_of from (k (part from to file))) → item_in file (number_of i) ≡ i
  unfolding part
  reading-back k g i m =
      let s = take (to - from) (drop from file) in
      let x = Memᴰ.of_map item_of (met from (k s)) m in
      let r = x.0 in
      let y = met-placed s 0 (length s) from (k s) (g s) r x.1 in
      let there : Stands file r.place r.kind r.payload = rw y.1 (stands-drop from file (stands-take (to - from) (drop from file) y.3)) in
      rw (← x.2) (item_back file r there (omega (arith, stands-fits file there)))

  -- of the nodes there
  pub items_back : (i : Item) → Memᴰ i (items_in from (part from to file)) → item_in file (number_of i) ≡ i
  unfolding items_in items_ended
  items_back i m = by_end (ends (nodes (part from to file))) m
    where
      by_end : (e : Ending) → Memᴰ i (items_ended e (met from (nodes (part from to file)))) → item_in file (number_of i) ≡ i
      by_end well n = reading-back nodes nodes-places i n
      by_end (refused r) n = absurd (Memᴰ.not-nil n)

-- 4. The items of the numbers kept of some items are those that are not plain

pub map_back : (file : List ℕ) (l : List Item) → ((i : Item) → Memᴰ i l → item_in file (number_of i) ≡ i) → map (item_in file) (kept_numbers l) ≡ not_plain l
unfolding kept_numbers not_plain
map_back file [] h = refl
map_back file (i ∷ l) h = by-test (is plain i.what) (map_back file l (λ j m. h j (Memᴰ.tail m)))
  where
    by-test : (x : Bool) → map (item_in file) (kept_numbers l) ≡ not_plain l → map (item_in file) (pick x (kept_numbers l) (number_of i ∷ kept_numbers l)) ≡ pick x (not_plain l) (i ∷ not_plain l)
    by-test true e = e
    by-test false e = rw (e, h i (Memᴰ.head refl))
