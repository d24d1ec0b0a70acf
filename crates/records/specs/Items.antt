-- What each record is to the rules.
use Rattle.std.specs.Prelude.{ℕ, zero, suc, ◌+◌, Bool, true, false, not, ◌&&◌, ◌||◌, List, [], ◌∷◌, map, length, take, drop, ◌==◌, nat_eq, slice_index, slice_index_or}
use Rattle.fields.specs.declared.Role.{Role}
use Rattle.fields.specs.declared.Role.TheVariants.{Node, Branch, Cond, Visited, Argument, Unvisited}
use Rattle.fields.specs.Bytes.{Head, Span, pick, head_of, list_of}
use Rattle.names.specs.Words.{Bytes, any}
use Rattle.records.specs.declared.sorts.Sort.{Sort as Kind}
use Rattle.records.specs.declared.sorts.Sort.TheVariants.{Plain as plain, Temp as temp, Divert as divert, Tunnel as tunnel, Thread as thread, Call as call, Variable as variable, Argument as argument, Choice as choice, Gather as gather, Parameter as parameter, StitchName as stitch_name, FlowStart as flow_start}
use Rattle.records.specs.Trace.{Record, met, Ending, well, refused, ends}
use Rattle.records.specs.Grammar.{nodes}

-- What a step can visit, the code's `Sort`.
--   temp: node 13 of mode 1. divert, tunnel, thread: nodes 3, 4, 5. choice: node 14. gather: node 15.
--   call: node 16, condition 1, and expression 5 where calls are visited. variable: expression 1 where calls are visited.
--   argument: a DivertTarget directly an argument of nodes 3, 4, 5. plain: every other record, node 7 among them.
-- The last three are no records of a body: a parameter's name, a stitch's name, a flow's first byte.
-- a number for each kind
abbrev pub code : Kind → ℕ
code plain = 0
code temp = 1
code divert = 2
code tunnel = 3
code thread = 4
code call = 5
code variable = 6
code argument = 7
code choice = 8
code gather = 9
code parameter = 10
code stitch_name = 11
code flow_start = 12

-- what the rules ask of a record
pub record What : Type 0 where
  pub kind : Kind
  -- its name: empty where there is none
  pub name : Bytes
  -- the name is a label: a gather, or a choice with a label
  pub labels : Bool
  -- a node directly in a branch of kind 8 or 9; rule 11 asks it of choices
  pub branch : Bool
  -- of a choice: its body's last non-Newline is of kinds 3, 6, 7, 11, 12
  pub leaves : Bool

-- it is of the kind
abbrev pub is : Kind → What → Bool
is k w = code k == code w.kind

-- a record: the place of its kind byte, the place of its name's count byte, and what it is
pub record Item : Type 0 where
  pub place : ℕ
  pub named : ℕ
  pub what : What

-- the bytes of the name at the front
unfoldable pub name_in : List ℕ → Bytes
name_in s = take (slice_index s 0) (drop 1 s)

-- an assignment of mode 1 sets a temp
abbrev pub assigned : List ℕ → Kind
assigned payload = pick (slice_index payload 0 == 1) temp plain

-- by its kind, a node: 3 divert, 4 tunnel, 5 thread, 13 perhaps a temp, 14 choice, 15 gather, 16 call. The target of 7 is not checked.
abbrev pub node_sorts : List ℕ → List Kind
node_sorts payload =
    plain ∷ plain ∷ plain ∷ divert ∷ tunnel ∷ thread ∷ plain ∷ plain ∷ plain ∷ plain ∷ plain ∷ plain ∷ plain ∷ assigned payload ∷ choice ∷ gather ∷ call ∷ []

-- a condition: 1 is a call
abbrev pub cond_sorts : List Kind
cond_sorts = plain ∷ call ∷ plain ∷ []

-- an expression that calls visit: 1 is a variable, 5 a call
abbrev pub expr_sorts : List Kind
expr_sorts = plain ∷ variable ∷ plain ∷ plain ∷ plain ∷ call ∷ plain ∷ []

-- an expression directly an argument of a divert: 2 is a divert target
abbrev pub argument_sorts : List Kind
argument_sorts = plain ∷ plain ∷ argument ∷ []

-- THE SORT of a record by its role, its kind and its payload
unfoldable pub sort_of : Role → ℕ → List ℕ → Kind
sort_of Node kind payload = slice_index_or (node_sorts payload) kind plain
sort_of Branch kind payload = slice_index_or (node_sorts payload) kind plain
sort_of Cond kind payload = slice_index_or cond_sorts kind plain
sort_of Visited kind payload = slice_index_or expr_sorts kind plain
sort_of Argument kind payload = slice_index_or argument_sorts kind plain
sort_of Unvisited kind payload = plain

-- a flag byte, as a test
abbrev pub flag : List ℕ → Bool
flag s = slice_index s 0 == 1

-- the same sort
abbrev pub same_kind : Kind → Kind → Bool
same_kind a b = code a == code b

-- where in the payload the name begins: after the mode of a temp, after the flag of a choice, else at once
unfoldable pub name_start : Kind → ℕ
name_start sort = pick (same_kind sort temp || same_kind sort choice) 1 0

-- a plain record has no name, and neither has a choice without a label
unfoldable pub nameless : Kind → List ℕ → Bool
nameless sort payload = same_kind sort plain || (same_kind sort choice && not (flag payload))

-- the name, or nothing
unfoldable pub record_name : Kind → List ℕ → Bytes
record_name sort payload = pick (nameless sort payload) [] (name_in (drop (name_start sort) payload))

-- a gather, or a choice with a label
unfoldable pub labelled : Kind → List ℕ → Bool
labelled sort payload = same_kind sort gather || (same_kind sort choice && flag payload)

-- directly in a branch of kind 8 or 9
unfoldable pub in_branch : Role → Bool
in_branch Node = false
in_branch Branch = true
in_branch Cond = false
in_branch Visited = false
in_branch Argument = false
in_branch Unvisited = false

-- Divert, TunnelReturn, TunnelOnwardsWithTarget, ReturnBool and ReturnExpr
abbrev pub leaving : ℕ → Bool
leaving kind = any (nat_eq kind) (3 ∷ 6 ∷ 7 ∷ 11 ∷ 12 ∷ [])

-- the last record so far that is no Newline leaves
unfoldable pub ending_at : Head → (Bool → List ℕ → Bool) → Bool → List ℕ → Bool
ending_at (Head.Piece kind n) k sofar s = k (pick (kind == 1) sofar (leaving kind)) (drop (5 + n) s)
ending_at (Head.Refused x) k sofar s = sofar

-- the same, over at most n records
unfoldable pub ending_n : ℕ → Bool → List ℕ → Bool
ending_n zero sofar s = sofar
ending_n (suc n) sofar s = ending_at (head_of s) (ending_n n) sofar s

-- the last record of a list that is no Newline leaves
unfoldable pub end_with_divert : List ℕ → Bool
end_with_divert s = ending_n (length s) false s

-- the bytes of the list at the front
unfoldable pub spanned : Span → List ℕ → List ℕ
spanned (Span.Bytes n) s = take n (drop 4 s)
spanned (Span.Refused x) s = []

-- what follows the list at the front
unfoldable pub past : Span → List ℕ → List ℕ
past (Span.Bytes n) s = drop (4 + n) s
past (Span.Refused x) s = []

-- what follows a choice's flag and label
unfoldable pub unlabelled : List ℕ → List ℕ
unlabelled payload = pick (flag payload) (drop (2 + slice_index payload 1) payload) (drop 1 payload)

-- the bytes of the second of two lists
unfoldable pub second_list : List ℕ → List ℕ
second_list s = spanned (list_of (past (list_of s) s)) (past (list_of s) s)

-- the body of a choice: its second list
unfoldable pub choice_body : List ℕ → List ℕ
choice_body payload = second_list (unlabelled payload)

-- a choice whose body's last non-Newline leaves
unfoldable pub leaves : Kind → List ℕ → Bool
leaves sort payload = same_kind sort choice && end_with_divert (choice_body payload)

-- what a record of the sort is to the rules
unfoldable pub what_of : Role → Kind → List ℕ → What
what_of role sort payload = record {
  kind = sort;
  name = record_name sort payload;
  labels = labelled sort payload;
  branch = in_branch role;
  leaves = leaves sort payload;
}

-- a record of the sort as an item
unfoldable pub item_as : Kind → Record → Item
item_as sort r = record {
  place = r.place;
  named = r.place + (5 + name_start sort);
  what = what_of r.role sort r.payload;
}

-- a record as an item
unfoldable pub item_of : Record → Item
item_of r = item_as (sort_of r.role r.kind r.payload) r

-- the items of a list of nodes whose bytes stand at b; none where it cannot be read
unfoldable pub items_ended : Ending → List Record → List Item
items_ended well rs = map item_of rs
items_ended (refused r) rs = []

-- the same, of the bytes
unfoldable pub items_in : ℕ → List ℕ → List Item
items_in b s = items_ended (ends (nodes s)) (met b (nodes s))
