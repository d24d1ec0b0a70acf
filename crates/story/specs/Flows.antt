-- The grammar of flows and stitches, as 01 has it; and flows and stitches as the rules see them.
use Rattle.fields.specs.declared.Refusal.{Refusal}
use Rattle.story.specs.declared.Heading.{Heading}
use Rattle.std.specs.Prelude.{ℕ, zero, suc, ◌+◌, ◌-◌, List, [], ◌∷◌, length, get_or, take, drop, eqb, Result, Ok, Err}
use Rattle.fields.specs.declared.Refusal.TheVariants.{Short}
use Rattle.fields.specs.declared.Role.TheVariants.{Node}
use Rattle.fields.specs.Bytes.{Span, list_of}
use Rattle.records.specs.Trace.{refuse, shift}
use Rattle.records.specs.Grammar.{Reading, repeat, named, flagged, piece, listed, ending, record_of}
use Rattle.story.specs.Story.{Name, Stitch, Flow}
use Rattle.records.specs.Items.{name_in, items_in}
use Rattle.story.specs.Headings.{heading_of}

-- 1. The grammar

-- names to the end
unfoldable pub names : Reading
names s = repeat named s

-- n names, then what follows them by k
unfoldable pub names_then : ℕ → Reading → Reading
names_then zero k s = k s
names_then (suc n) k s = named (names_then n k) s

-- a count byte and so many names, then what follows them by k
unfoldable pub counted : Reading → Reading
counted k [] = refuse Short
counted k (x ∷ s) = shift 1 (names_then x k s)

-- name, parameters, divert parameters, node list, then what follows by k
unfoldable pub titled : Reading → Reading
titled k s = named (counted (counted (listed (record_of 64 Node) k))) s

-- a stitch after its length
unfoldable pub stitch : Reading
stitch s = titled ending s

-- stitches to the end
abbrev pub stitches : Reading
stitches = repeat (piece stitch)

-- a flow after its length: function flag, then as a stitch, then stitches
unfoldable pub flow : Reading
flow s = flagged (titled stitches) (titled stitches) s

-- flows to the end
unfoldable pub flows : Reading
flows s = repeat (piece flow) s

-- 2. What the rules see

-- at most n names, at the place and on
unfoldable pub names_n : ℕ → ℕ → List ℕ → List Name
names_n zero at s = []
names_n (suc n) at [] = []
names_n (suc n) at (x ∷ s) = record { at = at; bytes = take x s } ∷ names_n n (at + (1 + x)) (drop x s)

-- the names of a section
unfoldable pub names_in : ℕ → List ℕ → List Name
names_in at s = names_n (length s) at s

-- a count byte and so many names
unfoldable pub counted_in : ℕ → List ℕ → List Name
counted_in at s = names_n (get_or s 0 0) (at + 1) (drop 1 s)

-- from the offset a to the offset b
unfoldable pub part : ℕ → ℕ → List ℕ → List ℕ
part a b s = take (b - a) (drop a s)

-- name, parameters, divert parameters and nodes, from the name's count byte on, which stands at the place
unfoldable pub titled_at : Result Heading Refusal → ℕ → List ℕ → Stitch
titled_at (Ok h) at s = record {
  name = record { at = at; bytes = name_in s };
  params = counted_in (at + h.params) (drop h.params s);
  marks = counted_in (at + h.marks) (drop h.marks s);
  body = items_in (at + h.nodes) (part h.nodes h.end s);
}
titled_at (Err r) at s = record { name = record { at = at; bytes = name_in s }; params = []; marks = []; body = [] }

-- the same, by the heading that the bytes have
unfoldable pub titled_in : ℕ → List ℕ → Stitch
titled_in at s = titled_at (heading_of s) at s

-- the pieces to the end, at most n of them, each by f from its first byte's place and its bytes after the length
unfoldable pub pieces_at : {A : Type 0} → Span → (ℕ → List ℕ → A) → (ℕ → List ℕ → List A) → ℕ → List ℕ → List A
pieces_at (Span.Bytes n) f k at s = f at (take n (drop 4 s)) ∷ k (at + (4 + n)) (drop (4 + n) s)
pieces_at (Span.Refused x) f k at s = []

-- at most n pieces
unfoldable pub pieces_n : {A : Type 0} → ℕ → (ℕ → List ℕ → A) → ℕ → List ℕ → List A
pieces_n zero f at s = []
pieces_n (suc n) f at s = pieces_at (list_of s) f (pieces_n n f) at s

-- all pieces
unfoldable pub pieces_in : {A : Type 0} → (ℕ → List ℕ → A) → ℕ → List ℕ → List A
pieces_in f at s = pieces_n (length s) f at s

-- a stitch at the place, from its bytes after the length
unfoldable pub stitch_in : ℕ → List ℕ → Stitch
stitch_in at s = titled_in (at + 4) s

-- the place after the nodes of a flow or a stitch, from its name's count byte on: there the stitches of a flow begin
unfoldable pub title_end : Result Heading Refusal → ℕ
title_end (Ok h) = h.end
title_end (Err r) = 0

-- a flow at the place, from its bytes after the length
unfoldable pub flow_in : ℕ → List ℕ → Flow
flow_in at s =
    let own = titled_in (at + 5) (drop 1 s) in
    let rest = title_end (heading_of (drop 1 s)) in
    record {
      at = at;
      function = eqb (get_or s 0 0) 1;
      name = own.name;
      params = own.params;
      marks = own.marks;
      body = own.body;
      stitches = pieces_in stitch_in (at + (5 + rest)) (drop (1 + rest) s);
    }

-- flows at the place and on
unfoldable pub flows_in : ℕ → List ℕ → List Flow
flows_in at s = pieces_in flow_in at s
