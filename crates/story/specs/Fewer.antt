-- A story of which some plain items are left out, whose places may differ. Assumes nothing.
use Rattle.std.specs.Prelude.{◌≡◌, false, List, [], ◌∷◌, ℕ}
use Rattle.records.specs.declared.sorts.Sort.TheVariants.{Plain as plain}
use Rattle.records.specs.Items.{What, Item}
use Rattle.story.specs.Story.{Name, Stitch, Flow, Story, words}

-- each of the one list stands in R to that of the other at its place
pub data Aligned {A : Type 0} (R : A → A → Type 0) : List A → List A → Type 0 where
  end : Aligned R [] []
  next : {x y : A} {xs ys : List A} → R x y → Aligned R xs ys → Aligned R (x ∷ xs) (y ∷ ys)

-- which places of the one story answer to which of the other: of items, and of names. A name may be visited as an item.
pub record Matching : Type 1 where
  pub item : ℕ → ℕ → Type 0
  pub name : ℕ → ℕ → Type 0
  pub visited : (x y : ℕ) → name x y → item x y

-- every place answers to itself alone
abbrev pub same_places : Matching
same_places = record { item = λ x y. x ≡ y; name = λ x y. x ≡ y; visited = λ x y e. e }

-- the same name
pub record LikeName (p : Matching) (m n : Name) : Type 0 where
  pub at : p.name m.at n.at
  pub bytes : m.bytes ≡ n.bytes

-- the same item
pub record LikeItem (p : Matching) (i j : Item) : Type 0 where
  pub place : p.item i.place j.place
  pub named : p.name i.named j.named
  pub what : i.what ≡ j.what

-- a plain item, which bears no label
pub record IsPlain (w : What) : Type 0 where
  pub kind : w.kind ≡ plain
  pub labels : w.labels ≡ false

-- the second list is the first without some of its plain items
pub data Fewer (p : Matching) : List Item → List Item → Type 0 where
  none : Fewer p [] []
  kept : {i j : Item} {a b : List Item} → LikeItem p i j → Fewer p a b → Fewer p (i ∷ a) (j ∷ b)
  left : {i : Item} {a b : List Item} → IsPlain i.what → Fewer p a b → Fewer p (i ∷ a) b

-- a stitch: the same names, and some plain items fewer
pub record FewerStitch (p : Matching) (a b : Stitch) : Type 0 where
  pub name : LikeName p a.name b.name
  pub params : Aligned (LikeName p) a.params b.params
  pub marks : words a.marks ≡ words b.marks
  pub body : Fewer p a.body b.body

-- a flow
pub record FewerFlow (p : Matching) (f g : Flow) : Type 0 where
  pub at : p.item f.at g.at
  pub function : f.function ≡ g.function
  pub name : LikeName p f.name g.name
  pub params : Aligned (LikeName p) f.params g.params
  pub marks : words f.marks ≡ words g.marks
  pub body : Fewer p f.body g.body
  pub stitches : Aligned (FewerStitch p) f.stitches g.stitches

-- a story
pub record FewerStory (p : Matching) (s t : Story) : Type 0 where
  pub globals : Aligned (LikeName p) s.globals t.globals
  pub externals : words s.externals ≡ words t.externals
  pub root : Fewer p s.root t.root
  pub flows : Aligned (FewerFlow p) s.flows t.flows
