-- Records are sorted as the paper says: what is visited as something is of that sort, and what is of a sort other than plain is visited as that.
-- Assumes nothing.
use mathlib.Core.Path.{◌≡◌, refl}
use mathlib.Core.Bool.{Bool, true, false}
use mathlib.Core.Logic.{◌⊎◌, inl, inr}
use mathlib.Core.List.{List, [], ◌∷◌}
use Prim.Native.Nat.{ℕ, zero, suc, ◌+◌}
use native.Mathlib.Nat.{zero-add, add-zero}
use native.Mathlib.Omega.{arith}
use lib.Dec.{eqb}
use lib.ListN.{get_or}
use borrow.Author.Tests.{eqb-true}
use Rattle.fields.specs.declared.Role.{Role}
use Rattle.fields.specs.declared.Role.TheVariants.{Node, Branch, Cond, Visited, Argument, Unvisited}
use Rattle.fields.specs.Bytes.{pick}
use Rattle.records.specs.declared.sorts.Sort.{Sort as Kind}
use Rattle.records.specs.declared.sorts.Sort.TheVariants.{Plain as plain, Temp as temp, Divert as divert, Tunnel as tunnel, Thread as thread, Call as call, Variable as variable, Argument as argument, Choice as choice, Gather as gather, Parameter as parameter, StitchName as stitch_name, FlowStart as flow_start}
use Rattle.records.specs.Items.{node_sorts, sort_of}
use Rattle.rules.specs.Sorts.{IsNode, VisitedAs}

-- 1. What is visited is of the sort

node-sort : (r : Role) (kind : ℕ) (payload : List ℕ) → IsNode r → sort_of r kind payload ≡ get_or (node_sorts payload) kind plain
unfolding sort_of
node-sort r kind payload (inl e) = rw e
node-sort r kind payload (inr e) = rw e

call-sort : (r : Role) (kind : ℕ) (payload : List ℕ) → VisitedAs call r kind payload → sort_of r kind payload ≡ call
unfolding sort_of
call-sort r kind payload (inl h) = rw (node-sort r kind payload h.0, h.1)
call-sort r kind payload (inr (inl h)) = rw (h.0, h.1)
call-sort r kind payload (inr (inr h)) = rw (h.0, h.1)

pub visited-sort : (sort : Kind) (r : Role) (kind : ℕ) (payload : List ℕ) → VisitedAs sort r kind payload → sort_of r kind payload ≡ sort
unfolding sort_of
visited-sort temp r kind payload h = rw (node-sort r kind payload h.0, h.1, h.2)
visited-sort divert r kind payload h = rw (node-sort r kind payload h.0, h.1)
visited-sort tunnel r kind payload h = rw (node-sort r kind payload h.0, h.1)
visited-sort thread r kind payload h = rw (node-sort r kind payload h.0, h.1)
visited-sort choice r kind payload h = rw (node-sort r kind payload h.0, h.1)
visited-sort gather r kind payload h = rw (node-sort r kind payload h.0, h.1)
visited-sort call r kind payload h = call-sort r kind payload h
visited-sort variable r kind payload h = rw (h.0, h.1)
visited-sort argument r kind payload h = rw (h.0, h.1)
visited-sort plain r kind payload h = absurd h
visited-sort parameter r kind payload h = absurd h
visited-sort stitch_name r kind payload h = absurd h
visited-sort flow_start r kind payload h = absurd h

-- 2. What is of a sort is plain or visited as that

-- in the table of a role: the sort of the kind n
data Entry (r : Role) (payload : List ℕ) : ℕ → Kind → Type 0 where
  none : {n : ℕ} → Entry r payload n plain
  visited : {n : ℕ} (sort : Kind) → VisitedAs sort r n payload → Entry r payload n sort

-- the sorts of the kinds from n on
infixr 40 ◌also◌
data Table (r : Role) (payload : List ℕ) : ℕ → List Kind → Type 0 where
  no_more : {n : ℕ} → Table r payload n []
  ◌also◌ : {n : ℕ} {y : Kind} {ys : List Kind} → Entry r payload n y → Table r payload (suc n) ys → Table r payload n (y ∷ ys)

module _ (r : Role) (payload : List ℕ) where
  entry_at : {n : ℕ} {ys : List Kind} → Table r payload n ys → (k : ℕ) → Entry r payload (k + n) (get_or ys k plain)
  entry_at no_more k = none
  entry_at {n} (a also rest) zero = rw (zero-add n) a
  entry_at {n} (a also rest) (suc k) = let e : k + suc n ≡ suc k + n = omega arith in rw e at (entry_at rest k)

  node-table : IsNode r → Table r payload 0 (node_sorts payload)
  node-table h =
      none
      also none
      also none
      also visited divert (h, refl)
      also visited tunnel (h, refl)
      also visited thread (h, refl)
      also none
      also none
      also none
      also none
      also none
      also none
      also none
      also by_mode (eqb (get_or payload 0 0) 1) refl
      also visited choice (h, refl)
      also visited gather (h, refl)
      also visited call (inl (h, refl))
      also no_more
    where
      by_mode : (i : Bool) → eqb (get_or payload 0 0) 1 ≡ i → Entry r payload 13 (pick i temp plain)
      by_mode true e = visited temp (h, refl, eqb-true (get_or payload 0 0) 1 e)
      by_mode false e = none

  sorted-at : {ys : List Kind} → Table r payload 0 ys → (kind : ℕ) → (get_or ys kind plain ≡ plain) ⊎ VisitedAs (get_or ys kind plain) r kind payload
  sorted-at {ys} t kind = by-entry (rw (add-zero kind) at (entry_at t kind))
    where
      by-entry : {n : ℕ} {sort : Kind} → Entry r payload n sort → (sort ≡ plain) ⊎ VisitedAs sort r n payload
      by-entry none = inl refl
      by-entry (visited sort v) = inr v

pub sort-visited : (r : Role) (kind : ℕ) (payload : List ℕ) → (sort_of r kind payload ≡ plain) ⊎ VisitedAs (sort_of r kind payload) r kind payload
unfolding sort_of
sort-visited Node kind payload = sorted-at Node payload (node-table Node payload (inl refl)) kind
sort-visited Branch kind payload = sorted-at Branch payload (node-table Branch payload (inr refl)) kind
sort-visited Cond kind payload = sorted-at Cond payload (none also visited call (inr (inl (refl, refl))) also none also no_more) kind
sort-visited Visited kind payload =
    sorted-at Visited payload (none also visited variable (refl, refl) also none also none also none also visited call (inr (inr (refl, refl))) also none also no_more) kind
sort-visited Argument kind payload = sorted-at Argument payload (none also none also visited argument (refl, refl) also no_more) kind
sort-visited Unvisited kind payload = inl refl
