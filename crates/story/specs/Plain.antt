-- A story without its plain items, which no rule asks about. Assumes nothing.
use Rattle.std.specs.Prelude.{◌≡◌, true, false}
use mathlib.Core.List.{List, [], ◌∷◌, map, Memᴰ}
use Rattle.fields.specs.Bytes.{pick}
use Rattle.records.specs.declared.sorts.Sort.TheVariants.{Plain as plain}
use Rattle.records.specs.Items.{is, Item}
use Rattle.story.specs.Story.{Stitch, Flow, Story}

-- the items that are not plain
unfoldable pub not_plain : List Item → List Item
not_plain [] = []
not_plain (i ∷ l) = pick (is plain i.what) (not_plain l) (i ∷ not_plain l)

-- a stitch without its plain items
unfoldable pub stitch_without_plain : Stitch → Stitch
stitch_without_plain t = record {
  name = t.name;
  params = t.params;
  marks = t.marks;
  body = not_plain t.body;
}

-- a flow, in its own list and in its stitches
unfoldable pub flow_without_plain : Flow → Flow
flow_without_plain f = record {
  at = f.at;
  function = f.function;
  name = f.name;
  params = f.params;
  marks = f.marks;
  body = not_plain f.body;
  stitches = map stitch_without_plain f.stitches;
}

-- A STORY WITHOUT ITS PLAIN ITEMS, in the root and in all flows
unfoldable pub without_plain : Story → Story
without_plain s = record {
  globals = s.globals;
  externals = s.externals;
  root = not_plain s.root;
  flows = map flow_without_plain s.flows;
}

-- no plain item of the list bears a label
abbrev pub Unlabelled : List Item → Type 0
Unlabelled l = (i : Item) → Memᴰ i l → is plain i.what ≡ true → i.what.labels ≡ false

-- no plain item of the flow, in its own list or in a stitch, bears a label
pub record UnlabelledFlow (f : Flow) : Type 0 where
  pub body : Unlabelled f.body
  pub stitches : (t : Stitch) → Memᴰ t f.stitches → Unlabelled t.body

-- no plain item of the story bears a label: so it is in every story that is read
pub record UnlabelledStory (s : Story) : Type 0 where
  pub root : Unlabelled s.root
  pub flows : (f : Flow) → Memᴰ f s.flows → UnlabelledFlow f
