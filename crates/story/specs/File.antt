-- A story file: its trailer and sections, how reading it ends, and the story in it.
use Rattle.fields.specs.declared.Refusal.{Refusal}
use Rattle.std.specs.Prelude.{ℕ, ◌+◌, ◌-◌, ◌≤◌, ◌≡◌, List, Bool, not, ◌&&◌, ◌||◌, length, get_or, ltb, eqb, Result, Ok, Err}
use Rattle.fields.specs.declared.Refusal.TheVariants.{Length, Mark, Starts}
use Rattle.fields.specs.Bytes.{pick, le32_at}
use Rattle.records.specs.Trace.{Trace, and_then, shift, Ending, well, refused, ends}
use Rattle.records.specs.Grammar.{nodes}
use Rattle.story.specs.declared.Sections.{Sections}
use Rattle.story.specs.Story.{Story}
use Rattle.records.specs.Items.{items_in}
use Rattle.story.specs.Flows.{names, flows, names_in, flows_in, part}

-- L under 20 or over 1,048,576
abbrev pub bad_length : List ℕ → Bool
bad_length s = ltb (length s) 20 || ltb 1048576 (length s)

-- the last four bytes are 49 4B 01 00
unfoldable pub marked : List ℕ → Bool
marked s =
    eqb (get_or s (length s - 4) 0) 73
    && eqb (get_or s (length s - 3) 0) 75
    && eqb (get_or s (length s - 2) 0) 1
    && eqb (get_or s (length s - 1) 0) 0

-- the section start that stands so many bytes into the trailer
unfoldable pub start_at : List ℕ → ℕ → ℕ
start_at s offset = le32_at s (length s - 20 + offset)

-- the first start is 0, starts never fall, the last is at most L-20
abbrev pub ordered : List ℕ → Bool
ordered s =
    eqb (start_at s 0) 0
    && not (ltb (start_at s 8) (start_at s 4))
    && not (ltb (start_at s 12) (start_at s 8))
    && not (ltb (length s - 20) (start_at s 12))

-- the sections as the trailer gives them
abbrev pub sections_of : List ℕ → Sections
sections_of s = record { externals = start_at s 4; root = start_at s 8; flows = start_at s 12; end = length s - 20 }

-- the sections stand in order before the trailer, in a file that is not too long
pub record InOrder (c : Sections) (s : List ℕ) : Type 0 where
  pub externals : c.externals ≤ c.root
  pub root : c.root ≤ c.flows
  pub flows : c.flows ≤ c.end
  pub trailer : c.end + 20 ≡ length s
  pub short : length s ≤ 1048576

-- refusals 1, 2 and 3, in this order
unfoldable pub opened_of : List ℕ → Result Sections Refusal
opened_of s =
    pick (bad_length s) (Err Length)
    (pick (not (marked s)) (Err Mark)
    (pick (not (ordered s)) (Err Starts) (Ok (sections_of s))))

-- globals, externals, root and flows, front to back
unfoldable pub sections_read : Sections → List ℕ → Trace
sections_read c s =
    and_then (names (part 0 c.externals s))
    (and_then (names (part c.externals c.root s))
    (and_then (shift c.root (nodes (part c.root c.flows s))) (shift c.flows (flows (part c.flows c.end s)))))

-- the sections, unless reading was refused
unfoldable pub read_ended : Ending → Result Sections Refusal → Result Sections Refusal
read_ended well o = o
read_ended (refused r) o = Err r

-- reading the sections, unless the trailer was refused
unfoldable pub read_at : Result Sections Refusal → List ℕ → Result Sections Refusal
read_at (Ok c) s = read_ended (ends (sections_read c s)) (Ok c)
read_at (Err r) s = Err r

-- READING: the sections of a file, or the refusal
unfoldable pub read_of : List ℕ → Result Sections Refusal
read_of s = read_at (opened_of s) s

-- THE STORY in a file with these sections
unfoldable pub story_in : Sections → List ℕ → Story
story_in c s = record {
  globals = names_in 0 (part 0 c.externals s);
  externals = names_in c.externals (part c.externals c.root s);
  root = items_in c.root (part c.root c.flows s);
  flows = flows_in c.flows (part c.flows c.end s);
}
