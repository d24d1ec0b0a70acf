-- A readable file with a record in its root, in a flow and in a stitch: what is so of every readable file is so of it. Assumes nothing.
use Rattle.std.specs.Prelude.{Ok}
use mathlib.Core.Path.{◌≡◌, refl}
use mathlib.Core.List.{List, [], ◌∷◌, map}
use Prim.Native.Nat.{ℕ}
use Rattle.fields.specs.Bytes.{head_of, list_of, name_of, flag_of}
use Rattle.fields.specs.Kinds.{node_kind, expr_kind, kind_of}
use Rattle.records.specs.Trace.{and_then, shift, met, ends}
use Rattle.records.specs.Grammar.{front_at, ending, repeat_n, repeat, exact, piece_at, named_at, flagged_at, body_of, whole, record_of, nodes}
use Rattle.story.specs.declared.Sections.{Sections}
use Rattle.records.specs.Items.{Item, sort_of, item_as, item_of, items_ended, items_in}
use Rattle.story.specs.Headings.{reach_at, names_reach, counted_reach, list_at, marks_at, params_at, name_then, heading_of}
use Rattle.story.specs.Flows.{names, names_then, counted, titled, stitch, flow, flows, part, titled_at, titled_in, pieces_at, pieces_n, pieces_in, stitch_in, title_end, flow_in, flows_in}
use Rattle.story.specs.File.{marked, start_at, opened_of, sections_read, read_ended, read_at, read_of, story_in}
use Rattle.story.specs.Whole.{Whole}
use Rattle.story.specs.Story.{flow_items, story_items}
use Rattle.story.proofs.Whole as proved

-- global a and external b
names-bytes : List ℕ → List ℕ
names-bytes rest = 1 ∷ 97 ∷ 1 ∷ 98 ∷ rest

-- in the root an output of a constant
root-bytes : List ℕ → List ℕ
root-bytes rest = 2 ∷ 5 ∷ 0 ∷ 0 ∷ 0 ∷ 0 ∷ 0 ∷ 0 ∷ 0 ∷ 0 ∷ rest

-- knot k with the parameter p and a newline
flow-bytes : List ℕ → List ℕ
flow-bytes rest = 33 ∷ 0 ∷ 0 ∷ 0 ∷ 0 ∷ 1 ∷ 107 ∷ 1 ∷ 1 ∷ 112 ∷ 0 ∷ 5 ∷ 0 ∷ 0 ∷ 0 ∷ 1 ∷ 0 ∷ 0 ∷ 0 ∷ 0 ∷ rest

-- its stitch s with a newline
stitch-bytes : List ℕ → List ℕ
stitch-bytes rest = 13 ∷ 0 ∷ 0 ∷ 0 ∷ 1 ∷ 115 ∷ 0 ∷ 0 ∷ 5 ∷ 0 ∷ 0 ∷ 0 ∷ 1 ∷ 0 ∷ 0 ∷ 0 ∷ 0 ∷ rest

-- starts 0, 2, 4 and 14, and the mark
trailer-bytes : List ℕ
trailer-bytes = 0 ∷ 0 ∷ 0 ∷ 0 ∷ 2 ∷ 0 ∷ 0 ∷ 0 ∷ 4 ∷ 0 ∷ 0 ∷ 0 ∷ 14 ∷ 0 ∷ 0 ∷ 0 ∷ 73 ∷ 75 ∷ 1 ∷ 0 ∷ []

-- the file
file : List ℕ
file = names-bytes (root-bytes (flow-bytes (stitch-bytes trailer-bytes)))

-- its sections
abbrev sections : Sections
sections = record { externals = 2; root = 4; flows = 14; end = 51 }

-- read, whole, and with a record at each of these places: two in the root, one in the knot, one in the stitch
record Example : Type 0 where
  readable : read_of file ≡ Ok sections
  whole : Whole sections file
  places : map (λ (i : Item). i.place) (story_items (story_in sections file)) ≡ 4 ∷ 9 ∷ 29 ∷ 46 ∷ []

told : read_of file ≡ Ok sections
unfolding file names-bytes root-bytes flow-bytes stitch-bytes trailer-bytes read_of read_at opened_of marked start_at sections_read read_ended names flows nodes part repeat repeat_n front_at head_of name_of list_of flag_of named_at piece_at flagged_at kind_of node_kind expr_kind body_of exact ending whole record_of names_then counted titled stitch flow and_then shift ends
told = refl

placed : map (λ (i : Item). i.place) (story_items (story_in sections file)) ≡ 4 ∷ 9 ∷ 29 ∷ 46 ∷ []
unfolding file names-bytes root-bytes flow-bytes stitch-bytes trailer-bytes story_in nodes part repeat repeat_n front_at head_of name_of list_of kind_of node_kind expr_kind body_of exact ending whole record_of and_then shift ends met items_in items_ended item_of item_as sort_of flows_in pieces_in pieces_n pieces_at flow_in stitch_in title_end titled_in titled_at heading_of name_then params_at marks_at list_at counted_reach names_reach reach_at story_items flow_items
placed = refl

example : Example
example = record { readable = told; whole = proved.whole file sections told; places = placed }
