-- A node is directly in a branch of kind 8 or 9 where the grammar hands it the role of one: `in-branch`. Assumes nothing.
use Rattle.std.specs.Prelude.{Option, Some, None}
use mathlib.Core.Path.{◌≡◌, refl, sym, ◌∙◌}
use mathlib.Core.Bool.{Bool, true, false}
use mathlib.Core.List.Memᴰ
use mathlib.Core.List.{List, [], ◌∷◌, ◌++◌, map}
use mathlib.Core.Logic.{◌⊎◌, inl, inr, ⊎_elim}
use Prim.Native.Nat.{ℕ, zero, suc, ◌+◌}
use native.Mathlib.Nat.{add-zero}
use native.Mathlib.Omega.{arith}
use lib.Dec.{T, eqb}
use lib.ListN.{get_or, get_or-map}
use borrow.Author.Tests.{eqb-true, eqb-false}
use Rattle.fields.specs.declared.Refusal.{Refusal}
use Rattle.fields.specs.declared.Refusal.TheVariants.{Unknown}
use Rattle.fields.specs.declared.Role.{Role}
use Rattle.fields.specs.declared.Role.TheVariants.{Node, Branch, Cond, Visited, Argument, Unvisited}
use Rattle.fields.specs.declared.Body.{Body}
use Rattle.fields.specs.declared.Body.TheVariants as body
use Rattle.fields.specs.Kinds.{expr_kinds, expr_kind, cond_kinds, cond_kind, node_kinds, node_kind, kind_of}
use Rattle.names.specs.Words.{◌∈◌}
use Rattle.names.proofs.Means.{Means}
use Rattle.records.specs.Trace.{Trace, done, refuse, emit, and_then, shift, Record, met, well, ends}
use Rattle.records.specs.Grammar.{records, body_of, whole, too_deep, record_of, nodes}
use Rattle.records.specs.Items.{in_branch}
use Rattle.story.proofs.RecordsMet.{met-then, met-shift}
use Rattle.story.proofs.Induction.{HandsOut, KeptOfTwo, records-hold, body-holds, Each, each-met, each-kept}
use Rattle.story.proofs.Endings.{ends-then, ends-shift, first-well, second-well, then_ends}
use Rattle.records.proofs.Tables.{missed}
use Rattle.rules.specs.Sorts.{IsNode, alone, DirectlyIn, Branching, InBranch}

-- 1. The roles of the records directly in a payload

-- a role as P says, whatever the kind and the payload
abbrev OfRole : (Role → Type 0) → Role → ℕ → List ℕ → Type 0
OfRole P role kind payload = P role

-- those directly in a payload have the roles that it hands out
directly-role : (b : Body) (at : ℕ) (s : List ℕ) (r : Record) → r ∈ met at (body_of b alone s) → HandsOut b r.role
unfolding Each
directly-role b at s r m =
    each-met (OfRole (HandsOut b)) at (body_of b alone s)
    (body-holds (λ (lo hi : ℕ) (t u : Trace). Each (OfRole (HandsOut b)) t) (each-kept (OfRole (HandsOut b))) alone alone b (λ x h kind u. (h, tt)) s) r m

-- a node that is no branch's
abbrev Plain : Role → Type 0
Plain role = role ≡ Node

-- those directly in a list of nodes are such
node-role : (at : ℕ) (s : List ℕ) (r : Record) → r ∈ met at (records (alone Node) s) → Plain r.role
unfolding Each
node-role at s r m =
    each-met (OfRole Plain) at (records (alone Node) s)
    (records-hold (λ (lo hi : ℕ) (t u : Trace). Each (OfRole Plain) t) (each-kept (OfRole Plain)) (alone Node) (alone Node) (λ kind u. (refl, tt)) s) r m

-- 2. Each record is directly in the bytes read, or directly in a record met

-- directly in one of these records
Within : List Record → Record → Type 0
Within rs r = (q : Record) × q ∈ rs × DirectlyIn q r

-- t meets what u meets, and what is directly in a record that t meets
record Reaches (t u : Trace) : Type 0 where
  ends-too : ends t ≡ well → ends u ≡ well
  direct : ends t ≡ well → (b : ℕ) (r : Record) → r ∈ met b t → r ∈ met b u ⊎ Within (met b t) r

within-left : (a b : List Record) (r : Record) → Within a r → Within (a ++ b) r
unfolding Within
within-left a b r w = (w.0, Memᴰ.append_left b w.1, w.2)

within-right : (a b : List Record) (r : Record) → Within b r → Within (a ++ b) r
unfolding Within
within-right a b r w = (w.0, Memᴰ.append_right a w.1, w.2)

reaches_then : (t u t' u' : Trace) → Reaches t u → Reaches t' u' → Reaches (and_then t t') (and_then u u')
unfolding then_ends
reaches_then t u t' u' g h = record { ends-too = λ e. both_end (first_ends e) (second-ends e); direct = λ e b r m. split b r (first_ends e) (second-ends e) (rw (met-then b t t' (first_ends e)) at m) }
  where
    first_ends : ends (and_then t t') ≡ well → ends t ≡ well
    first_ends e = first-well (ends t) (ends t') (sym (ends-then t t') ∙ e)

    second-ends : ends (and_then t t') ≡ well → ends t' ≡ well
    second-ends e = second-well (ends t) (ends t') (sym (ends-then t t') ∙ e)

    both_end : ends t ≡ well → ends t' ≡ well → ends (and_then u u') ≡ well
    both_end p q = ends-then u u' ∙ rw (g.ends-too p, h.ends-too q)

    split : (b : ℕ) (r : Record) → ends t ≡ well → ends t' ≡ well → r ∈ (met b t ++ met b t') → r ∈ met b (and_then u u') ⊎ Within (met b (and_then t t')) r
    split b r p q m =
        rw (met-then b u u' (g.ends-too p), met-then b t t' p)
        (⊎_elim
        (λ i. ⊎_elim (λ j. inl (Memᴰ.append_left (met b u') j)) (λ w. inr (within-left (met b t) (met b t') r w)) (g.direct p b r i))
        (λ i. ⊎_elim (λ j. inl (Memᴰ.append_right (met b u) j)) (λ w. inr (within-right (met b t) (met b t') r w)) (h.direct q b r i))
        (Memᴰ.append_cases (met b t) m))

-- whatever the places between which they lie
abbrev Reached : ℕ → ℕ → Trace → Trace → Type 0
Reached lo hi t u = Reaches t u

reached : KeptOfTwo Reached
unfolding ends met
reached = record {
  wider = λ t u p q h. h;
  none = λ lo hi. record { ends-too = λ e. refl; direct = λ e b r m. inl m };
  refused = λ lo hi x i. record { ends-too = λ e. e; direct = λ e b r m. inl m };
  both = λ t u t' u' p q g h. reaches_then t u t' u' g h;
  further = λ a lo hi t u h. record {
    ends-too = λ e. ends-shift a u ∙ h.ends-too (sym (ends-shift a t) ∙ e);
    direct = λ e b r m. rw (met-shift b a t, met-shift b a u) (h.direct (sym (ends-shift a t) ∙ e) (b + a) r (rw (met-shift b a t) at m));
  };
}

-- a record by itself, and with what is inside it
reaches-refused : (x : Refusal) (u : Trace) → Reaches (refuse x) u
unfolding ends
reaches-refused x u = record {
  ends-too = λ e. let z : ◌≡◌ {A = ℕ} 0 1 = cc in absurd (omega arith);
  direct = λ e b r m. let z : ◌≡◌ {A = ℕ} 0 1 = cc in absurd (omega arith);
}

reaches-one : (role : Role) (kind : ℕ) (s : List ℕ) (c : Body) (t : Trace) → kind_of role kind ≡ Some c → Reaches t (body_of c alone s)
    → Reaches (emit role kind 0 s (shift 5 t)) (emit role kind 0 s done)
unfolding ends met Within
reaches-one role kind s c t known h = record { ends-too = λ e. refl; direct = λ e b r m. by_cases b r (sym (ends-shift 5 t) ∙ e) (Memᴰ.cases_cons m) }
  where
    itself : ℕ → Record
    itself b = record { role = role; kind = kind; place = b + 0; payload = s }

    inside : (b : ℕ) (r : Record) → r ∈ met (b + 5) (body_of c alone s) ⊎ Within (met (b + 5) t) r → Within (itself b ∷ met b (shift 5 t)) r
    inside b r (inl i) = (itself b, Memᴰ.head refl, record { body = c; of_kind = known; met_there = rw (add-zero b) i })
    inside b r (inr w) = rw (met-shift b 5 t) (w.0, Memᴰ.tail w.1, w.2)

    by_cases : (b : ℕ) (r : Record) → ends t ≡ well → (r ≡ itself b) ⊎ r ∈ met b (shift 5 t) → r ∈ (itself b ∷ []) ⊎ Within (itself b ∷ met b (shift 5 t)) r
    by_cases b r good (inl e) = inl (Memᴰ.head e)
    by_cases b r good (inr i) = inr (inside b r (h.direct good (b + 5) r (rw (met-shift b 5 t) at i)))

record-reaches : (left : ℕ) (role : Role) (kind : ℕ) (s : List ℕ) → Reaches (record_of left role kind s) (alone role kind s)
unfolding record_of too_deep whole
record-reaches zero role kind s = by_kind (kind_of role kind)
  where
    by_kind : (x : Option Body) → Reaches (too_deep x) (alone role kind s)
    by_kind (Some c) = reaches-refused _ (alone role kind s)
    by_kind None = reaches-refused _ (alone role kind s)
record-reaches (suc left) role kind s = by_kind (kind_of role kind) refl (λ c. body-holds Reached reached (record_of left) alone c (λ r h. record-reaches left r) s)
  where
    by_kind : (x : Option Body) → kind_of role kind ≡ x → ((c : Body) → Reaches (body_of c (record_of left) s) (body_of c alone s))
        → Reaches (whole x (record_of left) role kind s) (alone role kind s)
    by_kind (Some c) e h = reaches-one role kind s c (body_of c (record_of left) s) e (h c)
    by_kind None e h = reaches-refused Unknown (alone role kind s)

-- each record of nodes that end well is directly in their bytes, or directly in a record met there
pub met-directly : (b : ℕ) (s : List ℕ) → ends (nodes s) ≡ well → (r : Record) → r ∈ met b (nodes s)
    → r ∈ met b (records (alone Node) s) ⊎ ((q : Record) × q ∈ met b (nodes s) × DirectlyIn q r)
unfolding nodes Within
met-directly b s good r m = (records-hold Reached reached (record_of 64 Node) (alone Node) (record-reaches 64 Node) s).direct good b r m

-- 3. Only kinds 8 and 9 hand out the role of a branch

hands_branch : Option Body → Bool
hands_branch (Some (body.Exprs n r)) = in_branch r
hands_branch (Some body.Single) = false
hands_branch (Some (body.Call r)) = in_branch r
hands_branch (Some body.Conditional) = true
hands_branch (Some body.Switch) = true
hands_branch (Some body.Sequence) = false
hands_branch (Some body.Assign) = false
hands_branch (Some body.Choice) = false
hands_branch None = false

hands-branch : (c : Body) → HandsOut c Branch → hands_branch (Some c) ≡ true
unfolding hands_branch in_branch
hands-branch (body.Exprs n r) h = rw (← h)
hands-branch body.Single h = absurd h
hands-branch (body.Call r) h = rw (← h)
hands-branch body.Conditional h = refl
hands-branch body.Switch h = refl
hands-branch body.Sequence h = let z : ◌≡◌ {A = ℕ} 0 1 = cc in absurd (omega arith)
hands-branch body.Assign h = let z : ◌≡◌ {A = ℕ} 0 1 = cc in absurd (omega arith)
hands-branch body.Choice (inl h) = let z : ◌≡◌ {A = ℕ} 0 1 = cc in absurd (omega arith)
hands-branch body.Choice (inr h) = let z : ◌≡◌ {A = ℕ} 0 1 = cc in absurd (omega arith)

-- by the tables of kinds
node-hands : (kind : ℕ) → hands_branch (get_or node_kinds kind None) ≡ true → Branching kind
unfolding hands_branch in_branch
node-hands kind h = by_tests (eqb kind 8) (eqb kind 9) refl refl
  where
    by_tests : (i j : Bool) → eqb kind 8 ≡ i → eqb kind 9 ≡ j → Branching kind
    by_tests true j p q = inl (eqb-true kind 8 p)
    by_tests false true p q = inr (eqb-true kind 9 q)
    by_tests false false p q =
        let other : get_or (map hands_branch node_kinds) kind false ≡ false
        = missed false 17 ((9, true) ∷ (8, true) ∷ []) kind ((tt, eqb-false kind 8 p), eqb-false kind 9 q) in
        let e : ◌≡◌ {A = Bool} true false = sym h ∙ sym (get_or-map hands_branch node_kinds kind None) ∙ other in
        let z : ◌≡◌ {A = ℕ} 0 1 = cc in absurd (omega arith)

cond-hands : (kind : ℕ) → hands_branch (get_or cond_kinds kind None) ≡ false
unfolding hands_branch in_branch
cond-hands kind = sym (get_or-map hands_branch cond_kinds kind None) ∙ missed false 3 [] kind tt

visited-hands : (kind : ℕ) → hands_branch (get_or (expr_kinds Visited) kind None) ≡ false
unfolding hands_branch in_branch
visited-hands kind = sym (get_or-map hands_branch (expr_kinds Visited) kind None) ∙ missed false 7 [] kind tt

unvisited-hands : (kind : ℕ) → hands_branch (get_or (expr_kinds Unvisited) kind None) ≡ false
unfolding hands_branch in_branch
unvisited-hands kind = sym (get_or-map hands_branch (expr_kinds Unvisited) kind None) ∙ missed false 7 [] kind tt

branch-kinds : (role : Role) (kind : ℕ) → hands_branch (kind_of role kind) ≡ true → IsNode role × Branching kind
unfolding kind_of node_kind cond_kind expr_kind
branch-kinds Node kind h = (inl refl, node-hands kind h)
branch-kinds Branch kind h = (inr refl, node-hands kind h)
branch-kinds Cond kind h = let e = sym h ∙ cond-hands kind in let z : ◌≡◌ {A = ℕ} 0 1 = cc in absurd (omega arith)
branch-kinds Visited kind h = let e = sym h ∙ visited-hands kind in let z : ◌≡◌ {A = ℕ} 0 1 = cc in absurd (omega arith)
branch-kinds Argument kind h = let e = sym h ∙ unvisited-hands kind in let z : ◌≡◌ {A = ℕ} 0 1 = cc in absurd (omega arith)
branch-kinds Unvisited kind h = let e = sym h ∙ unvisited-hands kind in let z : ◌≡◌ {A = ℕ} 0 1 = cc in absurd (omega arith)

-- and to their nodes they hand no other
pub node-kind : (role : Role) (kind : ℕ) → IsNode role → kind_of role kind ≡ node_kind kind
unfolding kind_of
node-kind role kind (inl e) = rw e
node-kind role kind (inr e) = rw e

branch-nodes : (role : Role) (kind : ℕ) (c : Body) (x : Role) → IsNode role → Branching kind → kind_of role kind ≡ Some c → HandsOut c x → IsNode x → x ≡ Branch
unfolding node_kind
branch-nodes role kind c x n k known h i = by_kind k
  where
    or-branch : (y : Role) → (Node ≡ y → ⊥) → (x ≡ y) ⊎ (x ≡ Branch) → x ≡ Branch
    or-branch y other (inl p) = ⊎_elim (λ q. absurd (other (sym q ∙ p))) (λ q. q) i
    or-branch y other (inr p) = p

    by_kind : Branching kind → x ≡ Branch
    by_kind (inl e) =
        let f = rw (node-kind role kind n, e) at known in
        let same : c ≡ body.Conditional = cc in
        or-branch Cond (λ p. let z : ◌≡◌ {A = ℕ} 0 1 = cc in omega arith) (rw same at h)
    by_kind (inr e) =
        let f = rw (node-kind role kind n, e) at known in
        let same : c ≡ body.Switch = cc in
        or-branch Visited (λ p. let z : ◌≡◌ {A = ℕ} 0 1 = cc in omega arith) (rw same at h)

-- 4. The test and the statement

branch-role : (role : Role) → Means (in_branch role) (role ≡ Branch)
unfolding in_branch
branch-role role = record { to = by-role role; from = λ e. rw e tt }
  where
    by-role : (r : Role) → T (in_branch r) → r ≡ Branch
    by-role Node t = absurd t
    by-role Branch t = refl
    by-role Cond t = absurd t
    by-role Visited t = absurd t
    by-role Argument t = absurd t
    by-role Unvisited t = absurd t

-- among the records of nodes that end well
pub in-branch : (b : ℕ) (s : List ℕ) → ends (nodes s) ≡ well → (r : Record) → r ∈ met b (nodes s) → Means (in_branch r.role) (InBranch (met b (nodes s)) r)
in-branch b s good r m = record {
  to = λ t. by-owner ((branch-role r.role).to t) (met-directly b s good r m);
  from = λ h.
      (branch-role r.role).from
      (branch-nodes h.owner.role h.owner.kind h.inside.body r.role h.owner_node h.branching h.inside.of_kind
      (directly-role h.inside.body (h.owner.place + 5) h.owner.payload r h.inside.met_there) h.node);
}
  where
    by-owner : r.role ≡ Branch → r ∈ met b (records (alone Node) s) ⊎ ((q : Record) × q ∈ met b (nodes s) × DirectlyIn q r) → InBranch (met b (nodes s)) r
    by-owner e (inl i) = let f = sym (node-role b s r i) ∙ e in let z : ◌≡◌ {A = ℕ} 0 1 = cc in absurd (omega arith)
    by-owner e (inr w) =
        let q = w.0 in
        let d = w.2 in
        let hands = hands-branch d.body (rw e at (directly-role d.body (q.place + 5) q.payload r d.met_there)) in
        let k = branch-kinds q.role q.kind (rw d.of_kind hands) in
        record { node = inr e; owner = q; there = w.1; owner_node = k.0; branching = k.1; inside = d }
