-- Inner contract. A walk as it goes: the buffer, how many records were kept and met so far, the bit of a choice that leaves, and the places after pieces.
use Rattle.std.specs.Prelude.{◌≡◌, ℕ, ◌+◌, ◌*◌, ◌%◌, ◌^◌, Bool, true, false, ◌&&◌, List, [], ◌∷◌, map, length, drop, slice_index, slice_set, Result, Ok, Err, Some}
use Rattle.fields.specs.declared.Refusal.{Refusal}
use Rattle.fields.specs.declared.Refusal.TheVariants.{Short}
use Rattle.fields.specs.declared.Role.{Role}
use Rattle.fields.specs.declared.Body.{Body}
use Rattle.fields.specs.declared.Body.TheVariants as body
use Rattle.fields.specs.Kinds.{kind_of}
use Rattle.fields.specs.Bytes.{pick, head_of, read_of_head, list_of, name_of, span_reach, flag_of}
use Rattle.records.specs.declared.part.Part.{Part}
use Rattle.records.specs.Grammar.{Reading}
use Rattle.records.specs.Trace.{Trace, done, refuse, emit, met, Ending, well, refused, ends}
use Rattle.records.specs.declared.sorts.Sort.TheVariants.{Plain as plain}
use Rattle.records.specs.Items.{code, is, Item, sort_of, item_of, choice_body, end_with_divert}
use Rattle.records.specs.Numbers.{number_of, kept_numbers}
use Rattle.records.specs.Buffers.{fill}

-- how a run ends, with the state at the end
pub data Ran (S : Type 0) : Type 0 where
  ended : S → Ran S
  broke : S → Refusal → Ran S

-- a visitor: the state, a record's role, its kind, its absolute place, its payload
abbrev pub Visitor : Type 0 → Type 0
Visitor S = S → Role → ℕ → ℕ → List ℕ → S

-- on with the state, unless reading was refused
unfoldable pub bind : {S : Type 0} → Ran S → (S → Ran S) → Ran S
bind (ended s) k = k s
bind (broke s r) k = broke s r

-- the visitor over the records of t, whose bytes stand at b, from the state s
unfoldable pub run : {S : Type 0} → Visitor S → ℕ → S → Trace → Ran S
run v b s done = ended s
run v b s (refuse r) = broke s r
run v b s (emit role kind p bs t) = run v b (v s role kind (b + p) bs) t

-- the buffer, and the two counts as one number
pub record St : Type 0 where
  pub out : List ℕ
  pub n : ℕ

-- the two together
abbrev pub st : List ℕ → ℕ → St
st o n = record { out = o; n = n }

-- so many records kept and so many met, as one number
unfoldable pub counts : ℕ → ℕ → ℕ
counts kept all = kept + 4294967296 * all

-- an item, in the slot after those kept so far where it is not plain; no file reaches 2 ^ 32
unfoldable pub keep : St → Item → St
keep s i =
    pick (is plain i.what) (st s.out ((s.n + 4294967296) % 2 ^ 64))
    (st (slice_set s.out (s.n % 4294967296) (number_of i)) ((s.n + 4294967297) % 2 ^ 64))

-- the visitor that keeps
unfoldable pub keeping : Visitor St
keeping s role kind place bs = keep s (item_of (record { role = role; kind = kind; place = place; payload = bs }))

-- the run that keeps, over what a reading makes of a part's bytes
abbrev pub over : Part → St → Reading → Ran St
over p s k = run keeping p.base s (k p.bytes.now)

-- the answer
unfoldable pub walk_of : Ran St → Result ℕ Refusal
walk_of (ended s) = Ok s.n
walk_of (broke s r) = Err r

-- the buffer at the end: where reading was refused, nothing is said of it but its length
unfoldable pub Written : Ran St → List ℕ → Type 0
Written (ended s) o = o ≡ s.out
Written (broke s r) o = length o ≡ length s.out

-- an answer and what was written are those of x
pub record Told (x : Ran St) (w : Result ℕ Refusal) (o : List ℕ) : Type 0 where
  pub answer : w ≡ walk_of x
  pub written : Written x o

-- the answer of a walk, with the place after what it read
unfoldable pub piece_of : ℕ → Result ℕ Refusal → Result (ℕ × ℕ) Refusal
piece_of to (Ok n) = Ok (to, n)
piece_of to (Err r) = Err r

-- an answer with a place and what was written are those of x, which reads to the place
pub record ToldTo (x : Ran St) (to : ℕ) (a : Result (ℕ × ℕ) Refusal) (o : List ℕ) : Type 0 where
  pub answer : a ≡ piece_of to (walk_of x)
  pub written : Written x o

-- the place after a piece that begins so many bytes on
unfoldable pub reach_after : ℕ → Result ℕ Refusal → Result ℕ Refusal
reach_after a (Ok e) = Ok (a + e)
reach_after a (Err r) = Err r

-- the place after the label of a choice, a flag and a name if it is 1
unfoldable pub label_reach_of : Result Bool Refusal → List ℕ → Result ℕ Refusal
label_reach_of (Ok false) s = Ok 1
label_reach_of (Ok true) s = reach_after 1 (span_reach 1 (name_of (drop 1 s)))
label_reach_of (Err r) s = Err r

-- the same, by the flag that the bytes have
abbrev pub label_reach : List ℕ → Result ℕ Refusal
label_reach s = label_reach_of (flag_of s) s

-- the answer of a walk over the nodes of a choice, by whether they leave
unfoldable pub nodes_of : Bool → Result ℕ Refusal → Result (ℕ × Bool) Refusal
nodes_of leaves (Ok n) = Ok (n, leaves)
nodes_of leaves (Err r) = Err r

-- an answer with whether the nodes leave, and what was written, are those of x
pub record ToldNodes (x : Ran St) (leaves : Bool) (a : Result (ℕ × Bool) Refusal) (o : List ℕ) : Type 0 where
  pub answer : a ≡ nodes_of leaves (walk_of x)
  pub written : Written x o

-- that answer, with nothing left behind
unfoldable pub nodes_end : Result (ℕ × Bool) Refusal → List ℕ → Result (ℕ × Bool) Refusal
nodes_end a [] = a
nodes_end (Ok (n, leaves)) (x ∷ s) = Err Short
nodes_end (Err r) (x ∷ s) = Err r

-- the payload is a choice's
unfoldable pub is_choice : Body → Bool
is_choice (body.Exprs n r) = false
is_choice body.Single = false
is_choice (body.Call r) = false
is_choice body.Conditional = false
is_choice body.Switch = false
is_choice body.Sequence = false
is_choice body.Assign = false
is_choice body.Choice = true

-- the payload is a choice's, and its nodes leave
unfoldable pub payload_leaves : Body → List ℕ → Bool
payload_leaves b payload = is_choice b && end_with_divert (choice_body payload)

-- the slot of the number that was kept last, by the counts after it
unfoldable pub last_slot : ℕ → ℕ
last_slot n = (n + 4294967295) % 2 ^ 64 % 4294967296

-- the buffer, 64 added in the mark of its number in the slot: the bit of a choice that leaves, where it was off
unfoldable pub leaves_at : ℕ → List ℕ → List ℕ
leaves_at slot out = slice_set out slot ((slice_index out slot + 67108864) % 2 ^ 32)

-- the buffer, the number that was kept last with that bit where the test says so
unfoldable pub put_leaves : Bool → ℕ → List ℕ → List ℕ
put_leaves true n out = leaves_at (last_slot n) out
put_leaves false n out = out

-- the answer of a choice, by that of its nodes
unfoldable pub nodes_walk : Result (ℕ × Bool) Refusal → Result ℕ Refusal
nodes_walk (Ok (n, leaves)) = Ok n
nodes_walk (Err r) = Err r

-- the buffer after a choice, by the answer of its nodes and the counts before its conditions and nodes
unfoldable pub nodes_put : Result (ℕ × Bool) Refusal → ℕ → List ℕ → List ℕ
nodes_put (Ok (m, leaves)) n out = put_leaves leaves n out
nodes_put (Err r) n out = out

-- the place that the head of a record shows; 0 where it is refused, a place that no answer shows, here and below
unfoldable pub head_place : Result (ℕ × ℕ) Refusal → ℕ
head_place (Ok (kind, e)) = e
head_place (Err r) = 0

-- the place that a length shows
unfoldable pub reach_place : Result ℕ Refusal → ℕ
reach_place (Ok e) = e
reach_place (Err r) = 0

-- the place after the record at the front of the bytes
abbrev pub head_end : List ℕ → ℕ
head_end s = head_place (read_of_head (head_of s))

-- the place after the list at the front of the bytes
abbrev pub list_end : List ℕ → ℕ
list_end s = reach_place (span_reach 4 (list_of s))

-- the place after the test of a branch, a flag and an expression if it is 1
unfoldable pub test_end_of : Result Bool Refusal → List ℕ → ℕ
test_end_of (Ok false) s = 1
test_end_of (Ok true) s = 1 + head_end (drop 1 s)
test_end_of (Err r) s = 0

-- the same, by the flag that the bytes have
abbrev pub test_end : List ℕ → ℕ
test_end s = test_end_of (flag_of s) s

-- the place after a branch, its test and its list
abbrev pub branch_end : List ℕ → ℕ
branch_end s = test_end s + list_end (drop (test_end s) s)

-- what is answered at the end of the bytes
unfoldable pub end_of : ℕ → List ℕ → Result ℕ Refusal
end_of n [] = Ok n
end_of n (x ∷ s) = Err Short

-- the counts, or the refusal
unfoldable pub walked : Ending → ℕ → Result ℕ Refusal
walked well n = Ok n
walked (refused r) n = Err r

-- the items of a trace whose bytes stand at base
abbrev pub items_of : ℕ → Trace → List Item
items_of base t = map item_of (met base t)

-- answer and buffer of a walk over t, whose bytes stand at base, where so many records were kept and met before it: the numbers where
-- reading ended well, and in any case as long as before
pub record Walked (t : Trace) (base kept all : ℕ) (before : List ℕ) (w : Result ℕ Refusal) (after : List ℕ) : Type 0 where
  pub answer : w ≡ walked (ends t) (counts (kept + length (kept_numbers (items_of base t))) (all + length (items_of base t)))
  pub written : ends t ≡ well → after ≡ fill kept (kept_numbers (items_of base t)) before
  pub same_length : length after ≡ length before

-- a record of the kind has nothing inside it, and is plain
pub record BareKind (role : Role) (kind : ℕ) : Type 0 where
  pub inner : Role
  pub nothing_inside : kind_of role kind ≡ Some (body.Exprs 0 inner)
  pub is_plain : (payload : List ℕ) → 0 ≡ code (sort_of role kind payload)

-- a record of the kind, with this place after it from its kind byte on and so many levels left, is nothing but its head, and is plain
pub record Bare (role : Role) (kind to left : ℕ) : Type 0 where
  pub empty : to ≡ 5
  pub some_left : left ≡ 0 → ⊥
  pub bare : BareKind role kind
