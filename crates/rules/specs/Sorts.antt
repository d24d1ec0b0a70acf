-- Which records the steps visit, and as what: by the role that the grammar gives a record, its kind byte and its payload; and rule 11's two statements.
-- Assumes nothing.
use Rattle.std.specs.Prelude.{◌≡◌, ◌⊎◌, List, [], ◌∷◌, ◌++◌, ℕ, ◌+◌, get_or, take, drop, Ok, Some, true, false}
use Rattle.fields.specs.declared.Role.{Role}
use Rattle.fields.specs.declared.Role.TheVariants.{Node, Branch, Cond, Visited, Argument}
use Rattle.fields.specs.declared.Body.{Body}
use Rattle.fields.specs.Bytes.{Head, Span, head_of, list_of, name_of, flag_of}
use Rattle.fields.specs.Kinds.{kind_of}
use Rattle.names.specs.Words.{◌∈◌}
use Rattle.records.specs.Trace.{done, emit, Record, met}
use Rattle.records.specs.Grammar.{Reader, body_of}
use Rattle.records.specs.declared.sorts.Sort.{Sort as Kind}
use Rattle.records.specs.declared.sorts.Sort.TheVariants.{Plain as plain, Temp as temp, Divert as divert, Tunnel as tunnel, Thread as thread, Call as call, Variable as variable, Argument as argument, Choice as choice, Gather as gather, Parameter as parameter, StitchName as stitch_name, FlowStart as flow_start}
use Rattle.records.specs.Items.{Item}
use Rattle.story.specs.Story.{Stitch, Flow, Story}

-- a node: also one directly in a branch of kind 8 or 9
abbrev pub IsNode : Role → Type 0
IsNode r = (r ≡ Node) ⊎ (r ≡ Branch)

-- temps are nodes 13 of mode 1; targets are those of nodes 3, 4, 5, not of 7; choices are nodes 14, and gathers nodes 15;
-- calls are nodes 16, conditions 1, and expressions 5 where calls are visited; variables are expressions 1 there;
-- arguments are expressions 2 directly an argument of nodes 3, 4, 5
abbrev pub VisitedAs : Kind → Role → ℕ → List ℕ → Type 0
VisitedAs temp r kind payload = IsNode r × (kind ≡ 13) × (get_or payload 0 0 ≡ 1)
VisitedAs divert r kind payload = IsNode r × (kind ≡ 3)
VisitedAs tunnel r kind payload = IsNode r × (kind ≡ 4)
VisitedAs thread r kind payload = IsNode r × (kind ≡ 5)
VisitedAs choice r kind payload = IsNode r × (kind ≡ 14)
VisitedAs gather r kind payload = IsNode r × (kind ≡ 15)
VisitedAs call r kind payload = (IsNode r × (kind ≡ 16)) ⊎ ((r ≡ Cond) × (kind ≡ 1)) ⊎ ((r ≡ Visited) × (kind ≡ 5))
VisitedAs variable r kind payload = (r ≡ Visited) × (kind ≡ 1)
VisitedAs argument r kind payload = (r ≡ Argument) × (kind ≡ 2)
VisitedAs plain r kind payload = ⊥
VisitedAs parameter r kind payload = ⊥
VisitedAs stitch_name r kind payload = ⊥
VisitedAs flow_start r kind payload = ⊥

-- RULE 11: directly in a branch of kind 8 or 9

-- a record by itself, without those inside it
abbrev pub alone : Role → Reader
alone role kind payload = emit role kind 0 payload done

-- the record r is directly in the record q: met where the payload of q is read as its kind says, and no record inside is gone into
pub record DirectlyIn (q r : Record) : Type 0 where
  pub body : Body
  pub of_kind : kind_of q.role q.kind ≡ Some body
  pub met_there : r ∈ met (q.place + 5) (body_of body alone q.payload)

-- Conditional and SwitchConditional
abbrev pub Branching : ℕ → Type 0
Branching kind = (kind ≡ 8) ⊎ (kind ≡ 9)

-- among these records: a node directly in a node of kind 8 or 9, so in a branch, since what stands before the branches is no node
pub record InBranch (rs : List Record) (r : Record) : Type 0 where
  pub node : IsNode r.role
  pub owner : Record
  pub there : owner ∈ rs
  pub owner_node : IsNode owner.role
  pub branching : Branching owner.kind
  pub inside : DirectlyIn owner r

-- RULE 11: the body's last non-Newline is there, and of kinds 3, 6, 7, 11, 12

-- a name, and what follows it
abbrev pub NameThen : List ℕ → List ℕ → Type 0
NameThen s rest = (n : ℕ) × (name_of s ≡ Span.Bytes n) × (rest ≡ drop (1 + n) s)

-- a list with these bytes inside, and what follows it
abbrev pub ListThen : List ℕ → List ℕ → List ℕ → Type 0
ListThen s inside rest = (n : ℕ) × (list_of s ≡ Span.Bytes n) × (inside ≡ take n (drop 4 s)) × (rest ≡ drop (4 + n) s)

-- a flag, a label name if it is 1, and what follows
abbrev pub LabelThen : List ℕ → List ℕ → Type 0
LabelThen s rest = ((flag_of s ≡ (Ok false)) × (rest ≡ drop 1 s)) ⊎ ((flag_of s ≡ (Ok true)) × NameThen (drop 1 s) rest)

-- the payload of a choice: flag, label name if 1, condition list, node list, which is its body
pub record ChoiceOf (payload conditions body : List ℕ) : Type 0 where
  pub lists : List ℕ
  pub last_list : List ℕ
  pub label : LabelThen payload lists
  pub first : ListThen lists conditions last_list
  pub second : ListThen last_list body []

-- records of these kinds, one after the other, and nothing more
abbrev pub Kinds : List ℕ → List ℕ → Type 0
Kinds [] s = s ≡ []
Kinds (kind ∷ kinds) s = (n : ℕ) × (head_of s ≡ Head.Piece kind n) × Kinds kinds (drop (5 + n) s)

-- Divert, TunnelReturn, TunnelOnwardsWithTarget, ReturnBool and ReturnExpr
abbrev pub leaving_kinds : List ℕ
leaving_kinds = 3 ∷ 6 ∷ 7 ∷ 11 ∷ 12 ∷ []

-- the last kind that is no Newline's is there, and is one of these
pub record LastLeaves (kinds : List ℕ) : Type 0 where
  pub before : List ℕ
  pub kind : ℕ
  pub after : List ℕ
  pub all : kinds ≡ before ++ (kind ∷ after)
  pub leaving : kind ∈ leaving_kinds
  pub newlines : (k : ℕ) → k ∈ after → k ≡ 1

-- the payload is a choice's, whose body's last non-Newline leaves
pub record Leaves (payload : List ℕ) : Type 0 where
  pub conditions : List ℕ
  pub body : List ℕ
  pub kinds : List ℕ
  pub parts : ChoiceOf payload conditions body
  pub records : Kinds kinds body
  pub last : LastLeaves kinds

-- RULE 11 of a record, among those of its body: a choice directly in a branch, its body's last non-Newline missing or not of those kinds
abbrev pub Undiverted : List Record → Record → Type 0
Undiverted rs r = VisitedAs choice r.role r.kind r.payload × InBranch rs r × (Leaves r.payload → ⊥)

-- the bodies of a story: the root, a flow's own list, a stitch's
pub data BodyOf (s : Story) : List Item → Type 0 where
  of_root : BodyOf s s.root
  of_flow : {f : Flow} → f ∈ s.flows → BodyOf s f.body
  of_stitch : {f : Flow} {t : Stitch} → f ∈ s.flows → t ∈ f.stitches → BodyOf s t.body
