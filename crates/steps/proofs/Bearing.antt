-- A kept item that is no choice bears the name that the file has at its place; so it is like its thing. Assumes nothing.
use mathlib.Core.Path.{◌≡◌, refl, sym, ◌∙◌}
use mathlib.Core.Bool.{Bool, true, false, true≢false}
use mathlib.Core.List.Memᴰ
use mathlib.Core.List.{List, [], ◌∷◌}
use mathlib.Core.Logic.{◌⊎◌, inl, inr}
use Prim.Native.Nat.{ℕ, ◌+◌, ◌-◌, ◌<◌}
use native.Mathlib.Omega.{arith}
use lib.ListN.{length, get_or, take, drop, length-take, length-drop}
use lib.Seq.{get_or-take, get_or-drop}
use Rattle.fields.specs.Bytes.{pick}
use Rattle.names.specs.Words.{◌∈◌}
use Rattle.records.specs.declared.sorts.Sort.{Sort as Kind}
use Rattle.records.specs.declared.sorts.Sort.TheVariants.{Plain as plain, Temp as temp, Divert as divert, Tunnel as tunnel, Thread as thread, Call as call, Variable as variable, Argument as argument, Choice as choice, Gather as gather, Parameter as parameter, StitchName as stitch_name, FlowStart as flow_start}
use Rattle.records.specs.Items.{is, Item, sort_of, nameless, what_of, item_as, item_of}
use Rattle.records.specs.Numbers.{number_of, kept_numbers, item_in}
use Rattle.records.proofs.Places.{stands-fits}
use Rattle.story.specs.declared.Sections.{Sections}
use Rattle.story.specs.Story.{story_items}
use Rattle.story.specs.Flows.{part}
use Rattle.story.specs.File.{story_in}
use Rattle.story.proofs.Readable.{readable}
use Rattle.story.proofs.Opening.{sections-well}
use Rattle.story.proofs.NamedItems.{Standing, story-named}
use Rattle.story.proofs.Unpacked.{item_back}
use Rattle.items.specs.Bodies.{Kept}
use Rattle.sets.proofs.Passing.{at_in}
use Rattle.steps.specs.Visits.{LikeThing, BearsName, thing_of}

-- 1. The kept items

-- a kept number is that of an item that is not plain
record KeptOf (l : List Item) (x : ℕ) : Type 0 where
  item : Item
  inside : item ∈ l
  number : number_of item ≡ x
  visited : is plain item.what ≡ false

later-kept : {i : Item} {l : List Item} {x : ℕ} → KeptOf l x → KeptOf (i ∷ l) x
later-kept k = record { item = k.item; inside = Memᴰ.tail k.inside; number = k.number; visited = k.visited }

kept_of : (l : List Item) (x : ℕ) → x ∈ kept_numbers l → KeptOf l x
unfolding kept_numbers
kept_of [] x m = absurd (Memᴰ.not-nil m)
kept_of (i ∷ l) x m = by-test (is plain i.what) refl (kept_of l x) m
  where
    by-case : is plain i.what ≡ false → (x ∈ kept_numbers l → KeptOf l x) → (x ≡ number_of i) ⊎ (x ∈ kept_numbers l) → KeptOf (i ∷ l) x
    by-case v later (inl e) = record { item = i; inside = Memᴰ.head refl; number = sym e; visited = v }
    by-case v later (inr n) = later-kept (later n)

    by-test : (b : Bool) → is plain i.what ≡ b → (x ∈ kept_numbers l → KeptOf l x) → x ∈ pick b (kept_numbers l) (number_of i ∷ kept_numbers l) → KeptOf (i ∷ l) x
    by-test true e later n = later-kept (later n)
    by-test false e later n = by-case e later (Memᴰ.cases_cons n)

-- what is not plain and no choice has a name
has-name : (k : Kind) (payload : List ℕ) → is plain (record { kind = k; name = []; labels = false; branch = false; leaves = false }) ≡ false → (k ≡ choice → ⊥) → nameless k payload ≡ false
unfolding nameless
has-name plain payload v z = absurd (true≢false v)
has-name temp payload v z = refl
has-name divert payload v z = refl
has-name tunnel payload v z = refl
has-name thread payload v z = refl
has-name call payload v z = refl
has-name variable payload v z = refl
has-name argument payload v z = refl
has-name choice payload v z = absurd (z refl)
has-name gather payload v z = refl
has-name parameter payload v z = refl
has-name stitch_name payload v z = refl
has-name flow_start payload v z = refl

-- an item of the file
item-bears : {file : List ℕ} {i : Item} → Standing file i → is plain i.what ≡ false → BearsName file i
unfolding item_of item_as what_of
item-bears d v z =
    let r = d.of in
    let sort = sort_of r.role r.kind r.payload in
    (d.named (has-name sort r.payload (rw (← d.same) at v) (rw (← d.same) at z))).name

module _ {file : List ℕ} {c : Sections} {kept : List ℕ} (h : Kept file c kept) where
  -- THE NAMES of the kept items stand in the file, but for the choices'
  pub kept-bears : (x : ℕ) → x ∈ kept → BearsName file (item_in file x)
  kept-bears x m =
      let order = (readable file c refl h.read).order in
      let k = kept_of (story_items (story_in c file)) x (rw h.numbers at m) in
      let d = story-named c file order (sections-well file c h.read) k.item k.inside in
      let back : item_in file (number_of k.item) ≡ k.item = rw (← d.same) (item_back file d.of d.stands (omega (arith, order.short, stands-fits file d.stands))) in
      rw (← k.number, back) (item-bears d k.visited)

  -- one of a run of them, by its number in the run
  pub run-bears : (a b : ℕ) {i : ℕ} → i < length (part a b kept) → BearsName file (item_in file (get_or (part a b kept) i 0))
  unfolding part
  run-bears a b {i} l =
      let sized = length-take (b - a) (drop a kept) in
      let left = length-drop a kept in
      let at : get_or (take (b - a) (drop a kept)) i 0 ≡ get_or kept (a + i) 0 = get_or-take (b - a) (drop a kept) i 0 (omega arith) ∙ get_or-drop a kept i 0 in
      rw at (kept-bears (get_or kept (a + i) 0) (at_in kept (a + i) (omega arith)))

-- 2. Its thing

pub like-thing : (file : List ℕ) (x : ℕ) → BearsName file (item_in file x) → LikeThing file (thing_of x) (item_in file x).what
unfolding item_in
like-thing file x b = record { sort = refl; named = b; branch = refl; leaves = refl }
