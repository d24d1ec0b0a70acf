-- Two files alike, as 01's order law has it, over their parts in bytes; a story without places; and what a reader of files supplies.
-- Assumes nothing.
use Rattle.std.specs.Prelude.{◌≡◌, Bool, List, map, ℕ}
use Rattle.names.specs.Words.{Bytes}
use Rattle.records.specs.Items.{What}
use Rattle.story.specs.Story.{Stitch, Flow, Story, words, whats}
use Rattle.rules.specs.Alike.{EquallyOften, Paired}
use Rattle.rules.specs.Placed.{Placed}

-- 1. TWO FILES ALIKE

-- a flow in bytes: flag, name, both parameter lists, node list, and each stitch whole
pub record FlowBytes : Type 0 where
  pub flag : List ℕ
  pub name : List ℕ
  pub params : List ℕ
  pub marks : List ℕ
  pub nodes : List ℕ
  pub stitches : List (List ℕ)

-- a file in bytes: its globals and externals, its root, its flows
pub record FileBytes : Type 0 where
  pub globals : List Bytes
  pub externals : List Bytes
  pub root : List ℕ
  pub flows : List FlowBytes

-- flag, name, both parameter lists and node list equal in bytes, and stitches pairing one to one as equal bytes
pub record AlikeFlowBytes (f g : FlowBytes) : Type 0 where
  pub flag : f.flag ≡ g.flag
  pub name : f.name ≡ g.name
  pub params : f.params ≡ g.params
  pub marks : f.marks ≡ g.marks
  pub nodes : f.nodes ≡ g.nodes
  pub stitches : Paired (λ (s t : List ℕ). s ≡ t) f.stitches g.stitches

-- two files alike in all but order
pub record AlikeFiles (a b : FileBytes) : Type 0 where
  -- equal root bytes
  pub root : a.root ≡ b.root
  -- the same names equally often as globals and likewise as externals
  pub globals : EquallyOften a.globals b.globals
  pub externals : EquallyOften a.externals b.externals
  -- flows that can be paired one to one
  pub flows : Paired AlikeFlowBytes a.flows b.flows

-- 2. A STORY WITHOUT PLACES

-- a stitch: name, parameters, divert parameters, items
pub record UnplacedStitch : Type 0 where
  pub name : Bytes
  pub params : List Bytes
  pub marks : List Bytes
  pub body : List What

-- a flow: its flag, what it has itself, and its stitches
pub record UnplacedFlow : Type 0 where
  pub function : Bool
  pub own : UnplacedStitch
  pub stitches : List UnplacedStitch

-- a story
pub record UnplacedStory : Type 0 where
  pub globals : List Bytes
  pub externals : List Bytes
  pub root : List What
  pub flows : List UnplacedFlow

-- a stitch without its places
unfoldable pub unplaced_stitch : Stitch → UnplacedStitch
unplaced_stitch t = record { name = t.name.bytes; params = words t.params; marks = words t.marks; body = whats t.body }

-- a flow without its places
unfoldable pub unplaced_flow : Flow → UnplacedFlow
unplaced_flow f = record {
  function = f.function;
  own = record { name = f.name.bytes; params = words f.params; marks = words f.marks; body = whats f.body };
  stitches = map unplaced_stitch f.stitches;
}

-- a story without its places
unfoldable pub unplaced : Story → UnplacedStory
unplaced s = record {
  globals = words s.globals;
  externals = words s.externals;
  root = whats s.root;
  flows = map unplaced_flow s.flows;
}

-- 3. WHAT A READER SUPPLIES

-- what parts in bytes say, wherever they stand: a flag, a name, a parameter list, a list of nodes, a stitch
pub record Reading : Type 0 where
  pub flag : List ℕ → Bool
  pub name : List ℕ → Bytes
  pub names : List ℕ → List Bytes
  pub nodes : List ℕ → List What
  pub stitch : List ℕ → UnplacedStitch

-- what the parts of a flow say
unfoldable pub flow_read : Reading → FlowBytes → UnplacedFlow
flow_read r p = record {
  function = r.flag p.flag;
  own = record { name = r.name p.name; params = r.names p.params; marks = r.names p.marks; body = r.nodes p.nodes };
  stitches = map r.stitch p.stitches;
}

-- what the parts of a file say
unfoldable pub file_read : Reading → FileBytes → UnplacedStory
file_read r p = record {
  globals = p.globals;
  externals = p.externals;
  root = r.nodes p.root;
  flows = map (flow_read r) p.flows;
}

-- of each readable file: places rise in its story, and the story without places is what its parts say
pub record Supplied (readable : List ℕ → Type 0) (story_of : List ℕ → Story) (parts_of : List ℕ → FileBytes) (r : Reading) : Type 0 where
  pub placed : (file : List ℕ) → readable file → Placed (story_of file)
  pub read : (file : List ℕ) → readable file → unplaced (story_of file) ≡ file_read r (parts_of file)
