-- The sorts of records as tables, and a record as it is kept. Assumes nothing.
use Rattle.std.specs.Prelude.{Option, None}
use Rattle.fields.specs.declared.Body.{Body}
use Rattle.std.proofs.Common.{◌≡◌, ℕ, ◌+◌, ◌*◌, ◌%◌, ◌^◌, ◌<◌, ◌≤◌, Bool, true, false, eqb, List, [], ◌∷◌, length, get_or, set, sym, refl, ap, arith, get_or-set_same, set-set, ne_eqb}
use lib.Seq.{set_out}
use Rattle.fields.specs.declared.Role.{Role}
use Rattle.fields.specs.declared.Role.TheVariants.{Node, Branch, Cond, Visited, Argument, Unvisited}
use Rattle.fields.specs.Bytes.{pick}
use Rattle.fields.specs.Kinds.{kind_of, node_kinds, node_kind, cond_kinds, cond_kind, expr_kinds, expr_kind}
use Rattle.records.specs.declared.sorts.Sort.{Sort as Kind}
use Rattle.records.specs.declared.sorts.Sort.TheVariants.{Plain as plain, Temp as temp, Divert as divert, Tunnel as tunnel, Thread as thread, Call as call, Variable as variable, Argument as argument, Choice as choice, Gather as gather, Parameter as parameter, StitchName as stitch_name, FlowStart as flow_start}
use Rattle.records.specs.Items.{code, node_sorts, cond_sorts, expr_sorts, argument_sorts, sort_of, labelled, in_branch, leaves, what_of, item_as, item_of}
use Rattle.records.specs.Numbers.{bit, mark_of, number_of}
use Rattle.records.specs.Work.{st, keep, keeping, last_slot, leaves_at, put_leaves}
use Rattle.records.proofs.Tables.{all-pairs, pairs-at}

-- 1. The tables

-- the sorts of nodes, by whether an assignment sets a temp
abbrev pub sorts-by : Bool → List Kind
sorts-by x = plain ∷ plain ∷ plain ∷ divert ∷ tunnel ∷ thread ∷ plain ∷ plain ∷ plain ∷ plain ∷ plain ∷ plain ∷ plain ∷ pick x temp plain ∷ choice ∷ gather ∷ call ∷ []

-- a test of kinds beside sorts passes for every record where it passes along the tables, and where there is no such kind
module _ (test : Option Body → Kind → Bool) (none : (k : Kind) → test None k ≡ true) (nodes : (x : Bool) → all-pairs test plain node_kinds (sorts-by x) ≡ true)
    (conds : all-pairs test plain cond_kinds cond_sorts ≡ true) (exprs : all-pairs test plain (expr_kinds Visited) expr_sorts ≡ true)
    (arguments : all-pairs test plain (expr_kinds Unvisited) argument_sorts ≡ true) (others : all-pairs test plain (expr_kinds Unvisited) [] ≡ true) where
  pub every-kind : (role : Role) (kind : ℕ) (payload : List ℕ) → test (kind_of role kind) (sort_of role kind payload) ≡ true
  unfolding kind_of node_kind cond_kind expr_kind sort_of
  every-kind Node kind payload = pairs-at test None plain none node_kinds (node_sorts payload) (nodes (eqb (get_or payload 0 0) 1)) kind
  every-kind Branch kind payload = pairs-at test None plain none node_kinds (node_sorts payload) (nodes (eqb (get_or payload 0 0) 1)) kind
  every-kind Cond kind payload = pairs-at test None plain none cond_kinds cond_sorts conds kind
  every-kind Visited kind payload = pairs-at test None plain none (expr_kinds Visited) expr_sorts exprs kind
  every-kind Argument kind payload = pairs-at test None plain none (expr_kinds Unvisited) argument_sorts arguments kind
  every-kind Unvisited kind payload = pairs-at test None plain none (expr_kinds Unvisited) [] others kind

-- 2. The numbers of sorts and tests are small

pub code-small : (k : Kind) → code k < 16
code-small plain = omega arith
code-small temp = omega arith
code-small divert = omega arith
code-small tunnel = omega arith
code-small thread = omega arith
code-small call = omega arith
code-small variable = omega arith
code-small argument = omega arith
code-small choice = omega arith
code-small gather = omega arith
code-small parameter = omega arith
code-small stitch_name = omega arith
code-small flow_start = omega arith

pub bit-small : (b : Bool) → bit b ≤ 1
unfolding bit
bit-small true = omega arith
bit-small false = omega arith

-- 3. The bit of a choice that leaves, in the number that was kept last

module _ (n next : ℕ) (e : next ≡ (n + 4294967297) % 2 ^ 64) where
  last-there : last_slot next ≡ n % 4294967296
  unfolding last_slot
  last-there = omega (arith, e)

  put-there : (leaves : Bool) (x : ℕ) (out : List ℕ) → n % 4294967296 < length out → x < 67108864
      → put_leaves leaves next (set out (n % 4294967296) x) ≡ set out (n % 4294967296) (x + 67108864 * bit leaves)
  unfolding put_leaves leaves_at bit
  put-there true x out h small =
      let fits : (x + 67108864) % 2 ^ 32 ≡ x + 67108864 * 1 = omega arith in
      rw (last-there, get_or-set_same out (n % 4294967296) x 0 h, fits) (set-set out (n % 4294967296) x (x + 67108864 * 1))
  put-there false x out h small = let none : x ≡ x + 67108864 * 0 = omega arith in ap (set out (n % 4294967296)) none

  put-nowhere : (leaves : Bool) (out : List ℕ) → length out ≤ n % 4294967296 → put_leaves leaves next out ≡ out
  unfolding put_leaves leaves_at
  put-nowhere true out h = rw last-there (set_out out (n % 4294967296) ((get_or out (n % 4294967296) 0 + 67108864) % 2 ^ 32) h)
  put-nowhere false out h = refl

-- 4. A record, its sort as the code has it: plain, kept, or without a slot

module _ (out : List ℕ) (n : ℕ) (role : Role) (kind place : ℕ) (payload : List ℕ) {sort next : ℕ} (found : sort ≡ code (sort_of role kind payload)) where
  pub note-plain : sort ≡ 0 → next ≡ (n + 4294967296) % 2 ^ 64 → st out next ≡ keeping (st out n) role kind place payload
  unfolding keeping keep item_of item_as what_of
  note-plain z e = rw (← found, z, e)

  -- the same, as `note` ensures it: a plain record is no choice, and no bit is put
  pub plain-noted : sort ≡ 0 → next ≡ (n + 4294967296) % 2 ^ 64
      → st (put_leaves (leaves (sort_of role kind payload) payload) next out) next ≡ keeping (st out n) role kind place payload
  unfolding leaves put_leaves
  plain-noted z e = let stays : eqb (code (sort_of role kind payload)) 8 ≡ false = rw (← found, z) in rw stays (note-plain z e)

  module _ (other : sort ≡ 0 → ⊥) (e : next ≡ (n + 4294967297) % 2 ^ 64) where
    pub note-kept : {branch label : ℕ} → branch ≡ bit (in_branch role) → label ≡ bit (labelled (sort_of role kind payload) payload) → place < 1048576 → n % 4294967296 < length out
        → st (put_leaves (leaves (sort_of role kind payload) payload) next (set out (n % 4294967296) (place + 1048576 * (sort + 16 * branch + 32 * label)))) next
        ≡ keeping (st out n) role kind place payload
    unfolding keeping keep item_of item_as what_of number_of mark_of
    note-kept {branch} {label} p q small h =
        let l = leaves (sort_of role kind payload) payload in
        let x = place + 1048576 * (sort + 16 * branch + 32 * label) in
        let there = put-there n next e l x out h
        (omega (arith, small, found, code-small (sort_of role kind payload), p, bit-small (in_branch role), q, bit-small (labelled (sort_of role kind payload) payload))) in
        let whole : x + 67108864 * bit l ≡ place + 1048576 * (sort + 16 * branch + 32 * label + 64 * bit l) = omega arith in
        rw (there, whole, p, q, ← found, ne_eqb 0 sort (λ z. other (sym z)), e)

    pub note-full : length out ≤ n % 4294967296 → st (put_leaves (leaves (sort_of role kind payload) payload) next out) next ≡ keeping (st out n) role kind place payload
    unfolding keeping keep item_of item_as what_of
    note-full p =
        rw (put-nowhere n next e (leaves (sort_of role kind payload) payload) out p, ← found, ne_eqb 0 sort (λ z. other (sym z)), e, set_out out (n % 4294967296) (number_of (item_of (record { role = role; kind = kind; place = place; payload = payload }))) p)
