-- A readable story, as its reader gives it: names, and for each body one item for each record, in file order, at all depths.
-- A record has at most one name. `What` has no places, so that two bodies of equal bytes are equal lists of `What`.
-- Assumes nothing.
use Rattle.std.specs.Prelude.{Bool, List, map, ◌++◌, ℕ}
use Rattle.names.specs.Words.{Bytes, each}
use Rattle.records.specs.Items.{What, Item}

-- a name: the place of its count byte, and its bytes
pub record Name : Type 0 where
  pub at : ℕ
  pub bytes : Bytes

-- the name of a record
abbrev pub own_name : Item → Name
own_name i = record { at = i.named; bytes = i.what.name }

-- `marks` are the divert parameters
pub record Stitch : Type 0 where
  pub name : Name
  pub params : List Name
  pub marks : List Name
  pub body : List Item

-- `at` is the place of the flow's first byte, and `body` its own list, without its stitches
pub record Flow : Type 0 where
  pub at : ℕ
  pub function : Bool
  pub name : Name
  pub params : List Name
  pub marks : List Name
  pub body : List Item
  pub stitches : List Stitch

-- a story: its globals, externals, root and flows
pub record Story : Type 0 where
  pub globals : List Name
  pub externals : List Name
  pub root : List Item
  pub flows : List Flow

-- the bytes of names, without their places
abbrev pub words : List Name → List Bytes
words l = map (λ (n : Name). n.bytes) l

-- what the items are, without their places
abbrev pub whats : List Item → List What
whats l = map (λ (i : Item). i.what) l

-- the items of a stitch
abbrev pub stitch_items : Stitch → List Item
stitch_items t = t.body

-- the items of a flow: of its own list, then of each of its stitches
unfoldable pub flow_items : Flow → List Item
flow_items f = f.body ++ each stitch_items f.stitches

-- THE ITEMS of a story, in file order: of the root, then of each flow
unfoldable pub story_items : Story → List Item
story_items s = s.root ++ each flow_items s.flows
