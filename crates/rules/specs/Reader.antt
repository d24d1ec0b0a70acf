-- A file of bytes: when it is readable, the story in it, and its parts in bytes. Assumes nothing.
use Rattle.fields.specs.declared.Refusal.{Refusal}
use Rattle.story.specs.declared.Heading.{Heading}
use Rattle.std.specs.Prelude.{◌≡◌, List, [], ℕ, ◌-◌, eqb, get_or, take, drop, Result, Ok, Err}
use Rattle.story.specs.declared.Sections.{Sections}
use Rattle.story.specs.Story.{Story, words, whats}
use Rattle.records.specs.Items.{name_in, items_in}
use Rattle.story.specs.Headings.{heading_of}
use Rattle.story.specs.Flows.{part, names_in, counted_in, pieces_in, stitch_in}
use Rattle.story.specs.File.{read_of, story_in}
use Rattle.rules.specs.Files.{FlowBytes, FileBytes, unplaced_stitch, Reading}

-- 1. READABLE FILES AND THEIR STORIES

-- none of the refusals 1 to 6 applies: the reader gives the sections
pub record Readable (file : List ℕ) : Type 0 where
  pub sections : Sections
  pub told : read_of file ≡ Ok sections

-- the story by how reading ended
unfoldable pub story_at : Result Sections Refusal → List ℕ → Story
story_at (Ok c) file = story_in c file
story_at (Err r) file = record { globals = []; externals = []; root = []; flows = [] }

-- the story in a file: the empty one where the file is refused
unfoldable pub story_of : List ℕ → Story
story_of file = story_at (read_of file) file

-- 2. THE PARTS OF A FILE, IN BYTES

-- pieces to the end, each by f from its bytes without its 32-bit length
abbrev pub pieces_by : {A : Type 0} → (List ℕ → A) → List ℕ → List A
pieces_by f s = pieces_in (λ (at : ℕ) (piece : List ℕ). f piece) 0 s

-- a stitch, whole
abbrev pub stitch_bytes : List ℕ → List ℕ
stitch_bytes s = s

-- a flow by its flag, and from its name on by its heading and its bytes: the name without its count byte, each parameter list with its own,
-- and the node list without its length. No flow of a readable file is without a heading.
unfoldable pub flow_parts : List ℕ → Result Heading Refusal → List ℕ → FlowBytes
flow_parts flag (Ok h) s = record {
  flag = flag;
  name = name_in s;
  params = part h.params h.marks s;
  marks = part h.marks (h.nodes - 4) s;
  nodes = part h.nodes h.end s;
  stitches = pieces_by stitch_bytes (drop h.end s);
}
flow_parts flag (Err r) s = record { flag = flag; name = []; params = []; marks = []; nodes = []; stitches = [] }

-- a flow, without its length: a flag, and then the name and what follows it
unfoldable pub flow_bytes : List ℕ → FlowBytes
flow_bytes s = flow_parts (take 1 s) (heading_of (drop 1 s)) (drop 1 s)

-- globals, externals, root and flows
unfoldable pub parts_in : Sections → List ℕ → FileBytes
parts_in c file = record {
  globals = words (names_in 0 (part 0 c.externals file));
  externals = words (names_in 0 (part c.externals c.root file));
  root = part c.root c.flows file;
  flows = pieces_by flow_bytes (part c.flows c.end file);
}

-- the parts by how reading ended
unfoldable pub parts_at : Result Sections Refusal → List ℕ → FileBytes
parts_at (Ok c) file = parts_in c file
parts_at (Err r) file = record { globals = []; externals = []; root = []; flows = [] }

-- the parts of a file: none where the file is refused
unfoldable pub parts_of : List ℕ → FileBytes
parts_of file = parts_at (read_of file) file

-- 3. WHAT THE PARTS SAY

-- as read at the place 0
unfoldable pub reading : Reading
reading = record {
  flag = λ s. eqb (get_or s 0 0) 1;
  name = λ s. s;
  names = λ s. words (counted_in 0 s);
  nodes = λ s. whats (items_in 0 s);
  stitch = λ s. unplaced_stitch (stitch_in 0 s);
}
