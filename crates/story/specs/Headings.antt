-- Where the parts of a flow or a stitch begin: its name, its parameters, its divert parameters, its nodes.
use Rattle.fields.specs.declared.Refusal.{Refusal}
use Rattle.story.specs.declared.Heading.{Heading}
use Rattle.std.specs.Prelude.{ℕ, zero, suc, ◌+◌, List, length, get_or, drop, ltb, Result, Ok, Err}
use Rattle.fields.specs.declared.Refusal.TheVariants.{Short}
use Rattle.fields.specs.Bytes.{Span, pick, list_of, name_of}

-- past the name at the offset, then on by f
unfoldable pub reach_at : Span → (ℕ → Result ℕ Refusal) → ℕ → Result ℕ Refusal
reach_at (Span.Bytes k) f at = f (at + (1 + k))
reach_at (Span.Refused r) f at = Err r

-- how far so many names reach from the offset on
unfoldable pub names_reach : List ℕ → ℕ → ℕ → Result ℕ Refusal
names_reach s zero at = Ok at
names_reach s (suc n) at = reach_at (name_of (drop at s)) (names_reach s n) at

-- a count byte, then so many names
unfoldable pub counted_reach : List ℕ → ℕ → Result ℕ Refusal
counted_reach s at = pick (ltb at (length s)) (names_reach s (get_or s at 0) (at + 1)) (Err Short)

-- the heading, whose list begins at the offset and has this length
unfoldable pub list_at : ℕ → ℕ → ℕ → Span → Result Heading Refusal
list_at params marks list (Span.Bytes n) = Ok (record { params = params; marks = marks; nodes = list + 4; end = list + 4 + n })
list_at params marks list (Span.Refused r) = Err r

-- the heading, whose divert parameters begin at the offset and reach so far
unfoldable pub marks_at : ℕ → ℕ → Result ℕ Refusal → List ℕ → Result Heading Refusal
marks_at params marks (Ok list) s = list_at params marks list (list_of (drop list s))
marks_at params marks (Err r) s = Err r

-- the heading, whose parameters begin at the offset and reach so far
unfoldable pub params_at : ℕ → Result ℕ Refusal → List ℕ → Result Heading Refusal
params_at params (Ok marks) s = marks_at params marks (counted_reach s marks) s
params_at params (Err r) s = Err r

-- the heading, with this name at the front
unfoldable pub name_then : Span → List ℕ → Result Heading Refusal
name_then (Span.Bytes k) s = params_at (1 + k) (counted_reach s (1 + k)) s
name_then (Span.Refused r) s = Err r

-- THE HEADING of a flow or a stitch, from its name's count byte on
unfoldable pub heading_of : List ℕ → Result Heading Refusal
heading_of s = name_then (name_of s) s
