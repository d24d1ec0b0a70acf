-- A record whose sort has a name is read with a name at its place. Assumes nothing.
use Rattle.std.specs.Prelude.{Option, Ok, Some, None}
use mathlib.Core.Path.{◌≡◌, refl, sym, ◌∙◌}
use mathlib.Core.List.{List, [], ◌∷◌}
use mathlib.Core.Bool.{Bool, true, false}
use Prim.Native.Nat.{ℕ, zero, suc}
use native.Mathlib.Omega.{arith}
use lib.Dec.{eqb, ltb}
use lib.ListN.{length, get_or, drop}
use borrow.Author.Tests.{eqb-true, le-ltb, not-false}
use Rattle.fields.specs.declared.Refusal.TheVariants.{Unknown}
use Rattle.fields.specs.declared.Role.{Role}
use Rattle.fields.specs.declared.Role.TheVariants.{Node, Branch, Cond, Visited, Argument, Unvisited}
use Rattle.fields.specs.declared.Body.{Body}
use Rattle.fields.specs.declared.Body.TheVariants as body
use Rattle.fields.specs.Bytes.{Span, pick, name_of, flag_of}
use Rattle.fields.specs.Kinds.{expr_kinds, expr_kind, cond_kinds, cond_kind, node_kinds, node_kind, kind_of}
use Rattle.records.specs.Trace.{refuse, shift, well, ends}
use Rattle.records.specs.Grammar.{Reading, Reader, named_at, named, flagged_at, flagged, moded, records, exact, ending, options, body_of, record_of}
use Rattle.records.specs.declared.sorts.Sort.{Sort as Kind}
use Rattle.records.specs.declared.sorts.Sort.TheVariants.{Plain as plain, Temp as temp, Divert as divert, Tunnel as tunnel, Thread as thread, Call as call, Variable as variable, Argument as argument, Choice as choice, Gather as gather}
use Rattle.records.specs.Items.{assigned, node_sorts, cond_sorts, expr_sorts, argument_sorts, sort_of, name_start, nameless}
use Rattle.story.proofs.Endings.{ends-shift}
use Rattle.story.proofs.WellInside.{Bears}

-- 1. Readings that begin with a name

-- a name stands at the front
abbrev pub HasName : List ℕ → Type 0
HasName s = (k : ℕ) × (name_of s ≡ Span.Bytes k)

named-well : (k : Reading) (s : List ℕ) → ends (named k s) ≡ well → HasName s
unfolding named_at ends
named-well k s e = by_name (name_of s) refl e
  where
    by_name : (r : Span) → name_of s ≡ r → ends (named_at r k s) ≡ well → HasName s
    by_name (Span.Bytes n) p q = (n, p)
    by_name (Span.Refused x) p q = let z : ◌≡◌ {A = ℕ} 0 1 = cc in absurd (omega arith)

moded-well : (k : Reading) (s : List ℕ) → ends (moded (named k) s) ≡ well → HasName (drop 1 s)
unfolding moded ends
moded-well k [] e = let z : ◌≡◌ {A = ℕ} 0 1 = cc in absurd (omega arith)
moded-well k (x ∷ s) e = by_mode (ltb x 4) e
  where
    by_mode : (i : Bool) → ends (pick i (shift 1 (named k s)) (refuse Unknown)) ≡ well → HasName s
    by_mode true q = named-well k s (sym (ends-shift 1 (named k s)) ∙ q)
    by_mode false q = let z : ◌≡◌ {A = ℕ} 0 1 = cc in absurd (omega arith)

-- a flag that is set
flag-set : (s : List ℕ) → eqb (get_or s 0 0) 1 ≡ true → flag_of s ≡ (Ok true)
unfolding flag_of
flag-set [] e = absurd (omega (arith, eqb-true 0 1 e))
flag-set (x ∷ s) e = rw (le-ltb (length (x ∷ s)) 1 (omega arith), eqb-true x 1 e)

flagged-well : (j k : Reading) (s : List ℕ) → eqb (get_or s 0 0) 1 ≡ true → ends (flagged j (named k) s) ≡ well → HasName (drop 1 s)
unfolding flagged_at
flagged-well j k s on e = named-well k (drop 1 s) (sym (ends-shift 1 (named k (drop 1 s))) ∙ (rw (flag-set s on) at e))

-- 2. The tables

-- where a payload is read well as its kind says, and its sort has a name, the name stands at its place
record Agree (f : Role → Reader) (payload : List ℕ) (x : Option Body) (sort : Kind) : Type 0 where
  has : (b : Body) → x ≡ Some b → ends (body_of b f payload) ≡ well → nameless sort payload ≡ false → HasName (drop (name_start sort) payload)

-- kinds and sorts, entry by entry
infixr 40 ◌also◌
data Agrees (f : Role → Reader) (payload : List ℕ) : List (Option Body) → List Kind → Type 0 where
  no_more : {xs : List (Option Body)} → Agrees f payload xs []
  ◌also◌ : {x : Option Body} {y : Kind} {xs : List (Option Body)} {ys : List Kind} → Agree f payload x y → Agrees f payload xs ys → Agrees f payload (x ∷ xs) (y ∷ ys)

module _ (f : Role → Reader) (payload : List ℕ) where
  agree-plain : {x : Option Body} → Agree f payload x plain
  unfolding nameless
  agree-plain = record { has = λ b e q h. let z : ◌≡◌ {A = ℕ} 0 1 = cc in absurd (omega arith) }

  -- past the tables there is no name
  agree_at : {xs : List (Option Body)} {ys : List Kind} → Agrees f payload xs ys → (k : ℕ) → Agree f payload (get_or xs k None) (get_or ys k plain)
  agree_at no_more k = agree-plain
  agree_at (a also rest) zero = a
  agree_at (a also rest) (suc k) = agree_at rest k

  -- a name at the front of the payload
  agree-call : (r : Role) (sort : Kind) → name_start sort ≡ 0 → Agree f payload (Some (body.Call r)) sort
  unfolding body_of
  agree-call r sort z = record { has = λ b e q h. let same : body.Call r ≡ b = cc in rw z (named-well (records (f r)) payload (rw (← same) at q)) }

  agree-single : (sort : Kind) → name_start sort ≡ 0 → Agree f payload (Some body.Single) sort
  unfolding body_of
  agree-single sort z = record { has = λ b e q h. let same : body.Single ≡ b = cc in rw z (named-well ending payload (rw (← same) at q)) }

  -- after the mode of a temp, and after the flag of a choice
  agree_assign : Agree f payload (Some body.Assign) (assigned payload)
  unfolding body_of name_start nameless
  agree_assign = by_mode (eqb (get_or payload 0 0) 1)
    where
      by_mode : (i : Bool) → Agree f payload (Some body.Assign) (pick i temp plain)
      by_mode true = record { has = λ b e q h. let same : body.Assign ≡ b = cc in moded-well (exact 1 (f Visited)) payload (rw (← same) at q) }
      by_mode false = agree-plain

  agree-choice : Agree f payload (Some body.Choice) choice
  unfolding body_of name_start nameless
  agree-choice = record {
    has = λ b e q h.
        let same : body.Choice ≡ b = cc in flagged-well (options f) (options f) payload (not-false (eqb (get_or payload 0 0) 1) h) (rw (← same) at q);
  }

  nodes-agree : Agrees f payload node_kinds (node_sorts payload)
  unfolding name_start
  nodes-agree =
      agree-plain
      also agree-plain
      also agree-plain
      also agree-call Argument divert refl
      also agree-call Argument tunnel refl
      also agree-call Argument thread refl
      also agree-plain
      also agree-plain
      also agree-plain
      also agree-plain
      also agree-plain
      also agree-plain
      also agree-plain
      also agree_assign
      also agree-choice
      also agree-single gather refl
      also agree-call Visited call refl
      also no_more

  conds-agree : Agrees f payload cond_kinds cond_sorts
  unfolding name_start
  conds-agree =
      agree-plain
      also agree-single call refl
      also agree-plain
      also no_more

  exprs-agree : Agrees f payload (expr_kinds Visited) expr_sorts
  unfolding name_start
  exprs-agree =
      agree-plain
      also agree-single variable refl
      also agree-plain
      also agree-plain
      also agree-plain
      also agree-call Visited call refl
      also agree-plain
      also no_more

  arguments-agree : Agrees f payload (expr_kinds Unvisited) argument_sorts
  unfolding name_start
  arguments-agree =
      agree-plain
      also agree-plain
      also agree-single argument refl
      also no_more

  sorts-agree : (role : Role) (kind : ℕ) → Agree f payload (kind_of role kind) (sort_of role kind payload)
  unfolding kind_of sort_of node_kind cond_kind expr_kind
  sorts-agree Node kind = agree_at nodes-agree kind
  sorts-agree Branch kind = agree_at nodes-agree kind
  sorts-agree Cond kind = agree_at conds-agree kind
  sorts-agree Visited kind = agree_at exprs-agree kind
  sorts-agree Argument kind = agree_at arguments-agree kind
  sorts-agree Unvisited kind = agree-plain

-- the name of a record that is read well inside and whose sort has one
pub bears-name : (role : Role) (kind : ℕ) (payload : List ℕ) → Bears role kind payload → nameless (sort_of role kind payload) payload ≡ false
    → HasName (drop (name_start (sort_of role kind payload)) payload)
bears-name role kind payload b h = (sorts-agree (record_of b.left) payload role kind).has b.body b.known b.inside h
