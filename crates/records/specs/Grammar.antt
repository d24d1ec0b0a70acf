-- The grammar of records: nodes, expressions and conditions.
use Rattle.fields.specs.declared.Refusal.{Refusal}
use Rattle.std.specs.Prelude.{ℕ, zero, suc, ◌+◌, List, [], ◌∷◌, length, take, drop, nat_lt, Result, Option, Ok, Err, Some, None, true, false, Bool}
use Rattle.fields.specs.declared.Refusal.TheVariants.{Short, Unknown, Deep}
use Rattle.fields.specs.declared.Role.{Role}
use Rattle.fields.specs.declared.Role.TheVariants.{Node, Branch, Cond, Visited}
use Rattle.fields.specs.declared.Body.{Body}
use Rattle.fields.specs.declared.Body.TheVariants as body
use Rattle.fields.specs.Bytes.{Head, Span, pick, head_of, list_of, name_of, flag_of}
use Rattle.fields.specs.Kinds.{kind_of}
use Rattle.records.specs.Trace.{Trace, done, refuse, emit, and_then, shift}

-- a reading of bytes
abbrev pub Reading : Type 0
Reading = List ℕ → Trace

-- a reader of one record, by its kind and its payload, whose places count from its kind byte
abbrev pub Reader : Type 0
Reader = ℕ → Reading

-- the record at the front by f, then what follows it by k
unfoldable pub front_at : Head → Reader → Reading → Reading
front_at (Head.Piece kind n) f k s = and_then (f kind (take n (drop 5 s))) (shift (5 + n) (k (drop (5 + n) s)))
front_at (Head.Refused r) f k s = refuse r

-- the same, by the head that the bytes have
abbrev pub front : Reader → Reading → Reading
front f k s = front_at (head_of s) f k s

-- nothing is left
unfoldable pub ending : Reading
ending [] = done
ending (x ∷ s) = refuse Short

-- nothing more is read
abbrev pub nothing : Reading
nothing s = done

-- pieces to the end, at most n of them: g reads one piece and hands on to what it is given
unfoldable pub repeat_n : ℕ → (Reading → Reading) → Reading
repeat_n zero g s = done
repeat_n (suc n) g [] = done
repeat_n (suc n) g (x ∷ s) = g (repeat_n n g) (x ∷ s)

-- pieces to the end: each takes a byte at least
unfoldable pub repeat : (Reading → Reading) → Reading
repeat g s = repeat_n (length s) g s

-- records to the end
abbrev pub records : Reader → Reading
records f s = repeat (front f) s

-- n records and nothing more
unfoldable pub exact : ℕ → Reader → Reading
exact zero f s = ending s
exact (suc n) f s = front f (exact n f) s

-- a piece at the front: a 32-bit byte length, then so many bytes read by g, then what follows them by k
unfoldable pub piece_at : Span → Reading → Reading → Reading
piece_at (Span.Bytes n) g k s = and_then (shift 4 (g (take n (drop 4 s)))) (shift (4 + n) (k (drop (4 + n) s)))
piece_at (Span.Refused r) g k s = refuse r

-- the same, by the length that the bytes have
abbrev pub piece : Reading → Reading → Reading
piece g k s = piece_at (list_of s) g k s

-- the list at the front, a piece of records by f, then what follows it by k
abbrev pub listed : Reader → Reading → Reading
listed f k s = piece (records f) k s

-- the name at the front, then what follows it by k
unfoldable pub named_at : Span → Reading → Reading
named_at (Span.Bytes n) k s = shift (1 + n) (k (drop (1 + n) s))
named_at (Span.Refused r) k s = refuse r

-- the same, by the name that the bytes have
abbrev pub named : Reading → Reading
named k s = named_at (name_of s) k s

-- the flag at the front, then what follows it: by j where it is off, by k where it is on
unfoldable pub flagged_at : Result Bool Refusal → Reading → Reading → Reading
flagged_at (Ok false) j k s = shift 1 (j (drop 1 s))
flagged_at (Ok true) j k s = shift 1 (k (drop 1 s))
flagged_at (Err r) j k s = refuse r

-- the same, by the flag that the bytes have
abbrev pub flagged : Reading → Reading → Reading
flagged j k s = flagged_at (flag_of s) j k s

-- the mode at the front, then what follows it by k
unfoldable pub moded : Reading → Reading
moded k [] = refuse Short
moded k (x ∷ s) = pick (nat_lt x 4) (shift 1 (k s)) (refuse Unknown)

-- a list of nodes in a role, and nothing more
unfoldable pub last : Role → (Role → Reader) → Reading
last r f s = listed (f r) ending s

-- a flag, and a list if it is 1
unfoldable pub or_else : (Role → Reader) → Reading
or_else f s = flagged ending (last Branch f) s

-- the branches of a conditional
unfoldable pub arms : (Role → Reader) → Reading
arms f s = listed (f Branch) (or_else f) s

-- the conditions and the body of a choice
unfoldable pub options : (Role → Reader) → Reading
options f s = listed (f Cond) (last Node f) s

-- a flag, and an expression if it is 1, then what follows by k
unfoldable pub tested : (Role → Reader) → Reading → Reading
tested f k s = flagged k (front (f Visited) k) s

-- a branch of a switch
unfoldable pub branch : (Role → Reader) → Reading → Reading
branch f k s = tested f (listed (f Branch) k) s

-- a payload, the records inside it by f
unfoldable pub body_of : Body → (Role → Reader) → Reading
body_of (body.Exprs n r) f s = exact n (f r) s
body_of body.Single f s = named ending s
body_of (body.Call r) f s = named (records (f r)) s
body_of body.Conditional f s = front (f Cond) (arms f) s
body_of body.Switch f s = front (f Visited) (repeat (branch f)) s
body_of body.Sequence f s = repeat (listed (f Node)) s
body_of body.Assign f s = moded (named (exact 1 (f Visited))) s
body_of body.Choice f s = flagged (options f) (named (options f)) s

-- a record of this kind: itself, then its payload
unfoldable pub whole : Option Body → (Role → Reader) → Role → Reader
whole (Some b) f role kind s = emit role kind 0 s (shift 5 (body_of b f s))
whole None f role kind s = refuse Unknown

-- a kind is judged before the depth
unfoldable pub too_deep : Option Body → Trace
too_deep (Some b) = refuse Deep
too_deep None = refuse Unknown

-- a record, with so many levels left
unfoldable pub record_of : ℕ → Role → Reader
record_of zero role kind s = too_deep (kind_of role kind)
record_of (suc n) role kind s = whole (kind_of role kind) (record_of n) role kind s

-- the nodes of the root, of a flow or of a stitch: depth is at most 64
unfoldable pub nodes : Reading
nodes s = records (record_of 64 Node) s
