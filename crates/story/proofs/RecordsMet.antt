-- The records that a reading met: of a reading made of two, of a reading further on, of nodes. Assumes nothing.
use mathlib.Core.Path.{◌≡◌, refl, sym, ◌∙◌, ap}
use mathlib.Core.List.{List, [], ◌∷◌, ◌++◌}
use Prim.Native.Nat.{ℕ, ◌+◌, ◌≤◌}
use native.Mathlib.Nat.{add_assoc}
use native.Mathlib.Omega.{arith}
use lib.ListN.{length, take, drop}
use Rattle.fields.specs.declared.Role.TheVariants.{Node}
use Rattle.fields.specs.Bytes.{Head, head_of}
use Rattle.records.specs.Trace.{Trace, done, refuse, emit, and_then, shift, Record, met, well, ends}
use Rattle.records.specs.Grammar.{front_at, front, record_of, records, nodes}
use Rattle.records.proofs.Readings.{front-local, repeat-none, repeat-step}
use Rattle.story.proofs.Endings.{ends-then, ends-shift, first-well, second-well}

-- 1. Two readings, and a reading further on

-- the records of two readings are those of the first and then those of the second
pub met-then : (b : ℕ) (t u : Trace) → ends t ≡ well → met b (and_then t u) ≡ met b t ++ met b u
unfolding met and_then ends
met-then b done u h = refl
met-then b (refuse r) u h = let z : ◌≡◌ {A = ℕ} 0 1 = cc in absurd (omega arith)
met-then b (emit role kind p bs t) u h =
    ap (λ (l : List Record). record { role = role; kind = kind; place = b + p; payload = bs } ∷ l) (met-then b t u h)

-- those of a reading k further stand k further
pub met-shift : (b k : ℕ) (t : Trace) → met b (shift k t) ≡ met (b + k) t
unfolding met shift
met-shift b k done = refl
met-shift b k (refuse r) = refl
met-shift b k (emit role kind p bs t) = rw (add_assoc b k p, met-shift b k t)

-- 2. Nodes

-- nodes that are read well: none, or a record of depth 1 and then nodes that are read well
pub data Nodes (t : List ℕ) : Type 0 where
  none : length t ≤ 0 → Nodes t
  next : (kind n : ℕ) → head_of t ≡ Head.Piece kind n → ends (nodes (drop (5 + n) t)) ≡ well
      → ((b : ℕ) → met b (nodes t) ≡ met b (record_of 64 Node kind (take n (drop 5 t))) ++ met (b + (5 + n)) (nodes (drop (5 + n) t))) → Nodes t

-- no byte, no record
pub met-no-node : (b : ℕ) (t : List ℕ) → length t ≤ 0 → met b (nodes t) ≡ []
unfolding nodes met
met-no-node b t h = rw (repeat-none (front (record_of 64 Node)) t h)

-- nodes that are read well are one or the other
pub nodes-front : (t : List ℕ) → ends (nodes t) ≡ well → Nodes t
unfolding nodes front_at ends
nodes-front [] good = none (omega arith)
nodes-front (x ∷ u) good = by-head (head_of (x ∷ u)) refl (rw step at good)
  where
    step : records (record_of 64 Node) (x ∷ u) ≡ front (record_of 64 Node) (records (record_of 64 Node)) (x ∷ u)
    step = repeat-step (front (record_of 64 Node)) (front-local (record_of 64 Node)) (x ∷ u) (omega arith)

    by-head : (h : Head) → head_of (x ∷ u) ≡ h → ends (front_at h (record_of 64 Node) (records (record_of 64 Node)) (x ∷ u)) ≡ well → Nodes (x ∷ u)
    by-head (Head.Piece kind n) e w =
        let first = record_of 64 Node kind (take n (drop 5 (x ∷ u))) in
        let rest = records (record_of 64 Node) (drop (5 + n) (x ∷ u)) in
        let both = sym (ends-then first (shift (5 + n) rest)) ∙ w in
        next kind n e (sym (ends-shift (5 + n) rest) ∙ second-well (ends first) _ both)
        (λ b. rw (step, e) (met-then b first (shift (5 + n) rest) (first-well _ _ both) ∙ rw (met-shift b (5 + n) rest)))
    by-head (Head.Refused x) e w = let z : ◌≡◌ {A = ℕ} 0 1 = cc in absurd (omega arith)
