-- A readable file is its pieces from its first byte to its last, without a gap; and its story has each record that the reading of the file met, once.
-- Each statement gives the bytes of a thing as 01 writes them: `s` are the bytes, `at` is the place of the first.
use Rattle.std.specs.Prelude.{ℕ, ◌+◌, ◌<◌, ◌≡◌, Bool, true, false, List, [], ◌∷◌, ◌++◌, map, length, drop}
use Rattle.fields.specs.declared.Role.TheVariants.{Node}
use Rattle.fields.specs.Bytes.{le32_at}
use Rattle.names.specs.Words.{each, Sorted}
use Rattle.records.specs.Trace.{Record, met}
use Rattle.records.specs.Grammar.{record_of}
use Rattle.story.specs.declared.Sections.{Sections}
use Rattle.records.specs.Items.{Item, item_of}
use Rattle.story.specs.Story.{Name, Stitch, Flow, story_items}
use Rattle.story.specs.Flows.{part}
use Rattle.story.specs.File.{InOrder, sections_read, story_in}

-- 1. The bytes of names and records

-- the bytes are those of the elements, one after the other without a gap, and nothing after the last; P says which bytes an element has at a place
abbrev pub Joined : {A : Type 0} → (ℕ → List ℕ → A → Type 0) → ℕ → List ℕ → List A → Type 0
Joined P at s [] = s ≡ []
Joined P at s (x ∷ xs) = (own : List ℕ) × (rest : List ℕ) × (s ≡ own ++ rest) × P at own x × Joined P (at + length own) rest xs

-- a 32-bit length of the bytes that follow
pub record Sized (size s : List ℕ) : Type 0 where
  pub four : length size ≡ 4
  pub counts : le32_at size 0 ≡ length s

-- a name: count byte, then so many bytes
pub record IsName (at : ℕ) (s : List ℕ) (n : Name) : Type 0 where
  pub place : n.at ≡ at
  pub bytes : s ≡ length n.bytes ∷ n.bytes

-- parameters: count byte, names
pub record AreCounted (at : ℕ) (s : List ℕ) (ns : List Name) : Type 0 where
  pub names : List ℕ
  pub bytes : s ≡ length ns ∷ names
  pub joined : Joined IsName (at + 1) names ns

-- a record: kind byte, 32-bit payload length, payload
pub record IsRecord (at : ℕ) (s : List ℕ) (r : Record) : Type 0 where
  pub place : r.place ≡ at
  pub size : List ℕ
  pub bytes : s ≡ r.kind ∷ size ++ r.payload
  pub sized : Sized size r.payload

-- a record of depth 1 and all records inside it, front to back
abbrev pub with_inside : Record → List Record
with_inside r = met r.place (record_of 64 Node r.kind r.payload)

-- records to the end: those of depth 1 are joined, and the items are these with all records inside them
pub record AreNodes (at : ℕ) (s : List ℕ) (items : List Item) : Type 0 where
  pub records : List Record
  pub joined : Joined IsRecord at s records
  pub all : items ≡ map item_of (each with_inside records)

-- a node list: 32-bit byte length, then records
pub record IsList (at : ℕ) (s : List ℕ) (items : List Item) : Type 0 where
  pub size : List ℕ
  pub nodes : List ℕ
  pub bytes : s ≡ size ++ nodes
  pub sized : Sized size nodes
  pub records : AreNodes (at + 4) nodes items

-- 2. The bytes of stitches and flows

-- name, parameters, divert parameters, node list
pub record IsTitle (at : ℕ) (s : List ℕ) (t : Stitch) : Type 0 where
  pub name : List ℕ
  pub params : List ℕ
  pub marks : List ℕ
  pub list : List ℕ
  pub bytes : s ≡ name ++ (params ++ (marks ++ list))
  pub is_name : IsName at name t.name
  pub are_params : AreCounted (at + length name) params t.params
  pub are_marks : AreCounted (at + length name + length params) marks t.marks
  pub is_list : IsList (at + length name + length params + length marks) list t.body

-- a stitch: 32-bit length; name, parameters, divert parameters, node list
pub record IsStitch (at : ℕ) (s : List ℕ) (t : Stitch) : Type 0 where
  pub size : List ℕ
  pub title : List ℕ
  pub bytes : s ≡ size ++ title
  pub sized : Sized size title
  pub is_title : IsTitle (at + 4) title t

-- function flag 0 or 1
abbrev pub Flagged : ℕ → Bool → Type 0
Flagged flag false = flag ≡ 0
Flagged flag true = flag ≡ 1

-- a flow without its stitches, as a stitch is
abbrev pub title_of : Flow → Stitch
title_of f = record { name = f.name; params = f.params; marks = f.marks; body = f.body }

-- a flow: 32-bit length; function flag, name, parameters, divert parameters, node list, stitches to the end
pub record IsFlow (at : ℕ) (s : List ℕ) (f : Flow) : Type 0 where
  pub size : List ℕ
  pub flag : ℕ
  pub title : List ℕ
  pub stitches : List ℕ
  pub bytes : s ≡ size ++ (flag ∷ title ++ stitches)
  pub sized : Sized size (flag ∷ title ++ stitches)
  pub place : f.at ≡ at
  pub flagged : Flagged flag f.function
  pub is_title : IsTitle (at + 5) title (title_of f)
  pub are_stitches : Joined IsStitch (at + 5 + length title) stitches f.stitches

-- 3. The file

-- THE WHOLE FILE with these sections, and the story in it
pub record Whole (c : Sections) (file : List ℕ) : Type 0 where
  -- four sections and the trailer are the file
  pub sections : file ≡ part 0 c.externals file ++ (part c.externals c.root file ++ (part c.root c.flows file ++ (part c.flows c.end file ++ drop c.end file)))
  -- the sections stand in order, and 20 bytes follow the last
  pub order : InOrder c file
  -- the story's globals are the first section: names to its end
  pub globals : Joined IsName 0 (part 0 c.externals file) (story_in c file).globals
  -- its externals are the second
  pub externals : Joined IsName c.externals (part c.externals c.root file) (story_in c file).externals
  -- its root is the third: records to its end
  pub root : AreNodes c.root (part c.root c.flows file) (story_in c file).root
  -- its flows are the fourth
  pub flows : Joined IsFlow c.flows (part c.flows c.end file) (story_in c file).flows
  -- the items of the root, of each flow and of its stitches, in file order, are the records that the reading of the file met
  pub items : story_items (story_in c file) ≡ map item_of (met 0 (sections_read c file))
  -- each once: every one stands at a later place than those before it
  pub once : Sorted (λ (i j : Item). i.place < j.place) (story_items (story_in c file))
