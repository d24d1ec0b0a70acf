-- What is read well is joined, without a gap: names, parameters, pieces, records and node lists are the bytes that they were read from. Assumes nothing.
use Rattle.std.specs.Prelude.{Ok}
use mathlib.Core.Path.{◌≡◌, refl, sym, ◌∙◌, ap, subst}
use mathlib.Core.Bool.{Bool, true, false}
use mathlib.Core.List.{List, [], ◌∷◌, ◌++◌}
use Prim.Native.Nat.{ℕ, zero, suc, ◌+◌, ◌-◌, ◌≤◌, ◌<◌}
use native.Mathlib.Nat.{add-zero, add_assoc}
use native.Mathlib.Numerals.{sub-one}
use native.Mathlib.Omega.{arith}
use lib.Dec.{ltb}
use lib.ListN.{length, get_or, take, drop, length-drop, take-append-drop}
use lib.Seq.{length-take-le, take-add, drop-cons, drop-drop, get_or-take, get_or-drop}
use Rattle.fields.specs.declared.Role.TheVariants.{Node}
use Rattle.fields.specs.declared.Refusal.TheVariants.{Short}
use Rattle.fields.specs.Bytes.{Head, Span, pick, le32_at, head_of, list_of, name_of}
use Rattle.fields.proofs.Laws.{head-fits, list-fits, name-fits, name-count}
use Rattle.names.specs.Words.{each}
use Rattle.records.specs.Trace.{Record, met, well, ends}
use Rattle.records.specs.Grammar.{Reading, repeat, nodes, piece}
use Rattle.story.specs.Story.{Name}
use Rattle.records.specs.Items.{items_ended, items_in}
use Rattle.story.specs.Headings.{reach_at, names_reach, counted_reach}
use Rattle.story.specs.Flows.{names, names_n, names_in, counted_in, part, pieces_at, pieces_n, pieces_in}
use Rattle.story.specs.Whole.{Joined, Sized, IsName, AreCounted, IsRecord, with_inside, AreNodes, IsList}
use Rattle.story.proofs.Reaches.{names-fit, counted-read, counted-fits}
use Rattle.story.proofs.Readable.{names-front, names-rest, piece-first, piece-rest, piece-none-left}
use Rattle.story.proofs.Unfolding.{front, names-n-step}
use Rattle.story.proofs.Parts.{part_length}
use Rattle.story.proofs.RecordsMet.{Nodes, none, next, met-no-node, nodes-front}

-- 1. Parts

-- what follows an offset is a part and what follows the part
pub part-rest : (a b : ℕ) (s : List ℕ) → a ≤ b → drop a s ≡ part a b s ++ drop b s
unfolding part
part-rest a b s h =
    let on : a + (b - a) ≡ b = omega arith in
    rw (← on) (sym (take-append-drop (b - a) (drop a s)) ∙ rw (drop-drop (b - a) a s, on))

-- a part is its first k bytes and a part
part-front : (a k b : ℕ) (s : List ℕ) → a + k ≤ b → part a b s ≡ take k (drop a s) ++ part (a + k) b s
unfolding part
part-front a k b s h =
    let size : b - a ≡ k + (b - (a + k)) = omega arith in rw (size, take-add k (b - (a + k)) (drop a s), drop-drop k a s)

-- a part is two parts
pub part-split : (a m b : ℕ) (s : List ℕ) → a ≤ m → m ≤ b → part a b s ≡ part a m s ++ part m b s
unfolding part
part-split a m b s p q = let on : a + (m - a) ≡ m = omega arith in rw on at (part-front a (m - a) b s (omega arith))

-- the first bytes are fewer of them and a part
pub front-split : (a b : ℕ) (s : List ℕ) → a ≤ b → take b s ≡ take a s ++ part a b s
unfolding part
front-split a b s h = let on : a + (b - a) ≡ b = omega arith in rw on at (take-add a (b - a) s)

-- a part is a byte and a part
part-cons : (a b : ℕ) (s : List ℕ) → a < length s → a < b → part a b s ≡ get_or s a 0 ∷ part (a + 1) b s
unfolding part
part-cons a b s h q =
    let size : b - a ≡ suc (b - (a + 1)) = omega arith in
    let on : suc a ≡ a + 1 = omega arith in
    rw (size, drop-cons s a 0 h, on)

-- no bytes
no_bytes : (s : List ℕ) → length s ≤ 0 → s ≡ []
no_bytes [] h = refl
no_bytes (x ∷ s) h = absurd (omega arith)

-- 2. Names

-- a name with its count byte
pub is_name : (at k : ℕ) (t : List ℕ) → name_of t ≡ Span.Bytes k → IsName at (take (1 + k) t) (front at k t)
is_name at k [] e = absurd (omega (arith, name-fits [] k refl e))
is_name at k (x ∷ t) e =
    let count : x ≡ k = name-count (x ∷ t) k refl e in
    let size : length (take k t) ≡ k = length-take-le k t (omega (arith, name-fits (x ∷ t) k refl e)) in
    let more : 1 + k ≡ suc k = omega arith in
    record { place = refl; bytes = rw (more, size, count) }

-- a name, and joined ones after it
name-joined : (at k : ℕ) (s t rest : List ℕ) (ns : List Name) → name_of t ≡ Span.Bytes k → s ≡ take (1 + k) t ++ rest → Joined IsName (at + (1 + k)) rest ns → Joined IsName at s (front at k t ∷ ns)
name-joined at k s t rest ns told e later =
    let size : length (take (1 + k) t) ≡ 1 + k = length-take-le (1 + k) t (name-fits t k refl told) in
    (take (1 + k) t, rest, e, is_name at k t told, rw size later)

-- at most n names to the end
names-joined-n : (n at : ℕ) (t : List ℕ) → length t ≤ n → ends (names t) ≡ well → Joined IsName at t (names_n n at t)
unfolding names_n
names-joined-n zero at t h good = no_bytes t h
names-joined-n (suc n) at [] h good = refl
names-joined-n (suc n) at (x ∷ t) h good =
    let f = names-front (x ∷ t) good (omega arith) in
    let k = f.0 in
    let step : names_n (suc n) at (x ∷ t) ≡ front at k (x ∷ t) ∷ names_n n (at + (1 + k)) (drop (1 + k) (x ∷ t))
    = rw (sub-one (suc n)) at (names-n-step (suc n) at k (x ∷ t) (omega arith) refl f.1) in
    let later = names-joined-n n (at + (1 + k)) (drop (1 + k) (x ∷ t)) (omega (arith, h, length-drop (1 + k) (x ∷ t))) (names-rest (x ∷ t) good k refl f.1) in
    subst (λ (l : List Name). Joined IsName at (x ∷ t) l) (sym step)
    (name-joined at k (x ∷ t) (x ∷ t) (drop (1 + k) (x ∷ t)) (names_n n (at + (1 + k)) (drop (1 + k) (x ∷ t))) f.1 (sym (take-append-drop (1 + k) (x ∷ t))) later)

-- names to the end
pub names-joined : (at : ℕ) (t : List ℕ) → ends (names t) ≡ well → Joined IsName at t (names_in at t)
unfolding names_in
names-joined at t good = names-joined-n (length t) at t (omega arith) good

-- so many names: they are joined, and so many
reach-joined : (b : ℕ) (s : List ℕ) (n p : ℕ) {e : ℕ} → p ≤ length s → names_reach s n p ≡ Ok e
    → Joined IsName (b + p) (part p e s) (names_n n (b + p) (drop p s)) × (length (names_n n (b + p) (drop p s)) ≡ n)
unfolding names_n names_reach reach_at
reach-joined b s zero p {e} h q = let same : p ≡ e = cc in (no_bytes (part p e s) (omega (arith, part_length p e s (omega arith))), refl)
reach-joined b s (suc n) p {e} h q = by_name (name_of (drop p s)) refl q (λ k. reach-joined b s n (p + (1 + k)))
  where
    by_name : (r : Span) → name_of (drop p s) ≡ r → reach_at r (names_reach s n) p ≡ Ok e
        → ((k : ℕ) → p + (1 + k) ≤ length s → names_reach s n (p + (1 + k)) ≡ Ok e
        → Joined IsName (b + (p + (1 + k))) (part (p + (1 + k)) e s) (names_n n (b + (p + (1 + k))) (drop (p + (1 + k)) s)) × (length (names_n n (b + (p + (1 + k))) (drop (p + (1 + k)) s)) ≡ n))
        → Joined IsName (b + p) (part p e s) (names_n (suc n) (b + p) (drop p s)) × (length (names_n (suc n) (b + p) (drop p s)) ≡ suc n)
    by_name (Span.Bytes k) told q later =
        let within : p + (1 + k) ≤ length s = omega (arith, name-fits (drop p s) k refl told, length-drop p s) in
        let reaches : p + (1 + k) ≤ e = (names-fit s n (p + (1 + k)) within q).0 in
        let rest = later k within q in
        rw (names-n-step (suc n) (b + p) k (drop p s) (omega arith) refl told, sub-one (suc n), add_assoc b p (1 + k), drop-drop (1 + k) p s)
        (name-joined (b + p) k (part p e s) (drop p s) (part (p + (1 + k)) e s) (names_n n (b + (p + (1 + k))) (drop (p + (1 + k)) s)) told (part-front p (1 + k) e s reaches) (rw (add_assoc b p (1 + k)) rest.0), ap suc rest.1)
    by_name (Span.Refused x) told q later = let z : ◌≡◌ {A = ℕ} 0 1 = cc in absurd (omega arith)

-- a count byte and so many names
pub counted-joined : (b : ℕ) (s : List ℕ) (p : ℕ) {e : ℕ} → counted_reach s p ≡ Ok e → AreCounted (b + p) (part p e s) (counted_in (b + p) (drop p s))
unfolding counted_in
counted-joined b s p {e} q =
    let c = counted-read s p q in
    let f = counted-fits s p refl q in
    let r = reach-joined b s (get_or s p 0) (p + 1) (omega (arith, c.0)) c.1 in
    rw (get_or-drop p s 0 0, add-zero p, drop-drop 1 p s, add_assoc b p 1)
    (record { names = part (p + 1) e s; bytes = rw r.1 (part-cons p e s c.0 f.0); joined = rw (add_assoc b p 1) r.0 })

-- 3. Pieces

-- four bytes that hold a number are the length of so many bytes behind them
sized : (u : List ℕ) (k : ℕ) → 4 + k ≤ length u → le32_at u 0 ≡ k → Sized (take 4 u) (take k (drop 4 u))
sized u k h e =
    let counts : le32_at (take 4 u) 0 ≡ le32_at u 0
    = simp (get_or-take 4 u 0 0 (omega arith), get_or-take 4 u 1 0 (omega arith), get_or-take 4 u 2 0 (omega arith), get_or-take 4 u 3 0 (omega arith)) in
    record { four = length-take-le 4 u (omega arith); counts = counts ∙ e ∙ sym (length-take-le k (drop 4 u) (omega (arith, length-drop 4 u))) }

-- the length of a list
list-sized : (t : List ℕ) (k : ℕ) → list_of t ≡ Span.Bytes k → Sized (take 4 t) (take k (drop 4 t))
unfolding list_of
list-sized t k told = sized t k (list-fits t k refl told) (by_tests (ltb (length t) 4) (ltb (length t - 4) (le32_at t 0)) told)
  where
    by_tests : (i j : Bool) → pick i (Span.Refused Short) (pick j (Span.Refused Short) (Span.Bytes (le32_at t 0))) ≡ Span.Bytes k → le32_at t 0 ≡ k
    by_tests true j e = let z : ◌≡◌ {A = ℕ} 0 1 = cc in absurd (omega arith)
    by_tests false true e = let z : ◌≡◌ {A = ℕ} 0 1 = cc in absurd (omega arith)
    by_tests false false e = cc

-- pieces by g to the end, each made by f: they are joined
module _ {A : Type 0} (g : Reading) (f : ℕ → List ℕ → A) (P : ℕ → List ℕ → A → Type 0)
    (own : (at : ℕ) (size u : List ℕ) → Sized size u → ends (g u) ≡ well → P at (size ++ u) (f at u)) where
  -- at most n of them
  pieces-joined-n : (n at : ℕ) (t : List ℕ) → length t ≤ n → ends (repeat (piece g) t) ≡ well → Joined P at t (pieces_n n f at t)
  unfolding pieces_n pieces_at
  pieces-joined-n zero at t h good = no_bytes t h
  pieces-joined-n (suc n) at t h good = by_span (list_of t) refl (λ k. pieces-joined-n n (at + (4 + k)) (drop (4 + k) t))
    where
      by_span : (r : Span) → list_of t ≡ r
          → ((k : ℕ) → length (drop (4 + k) t) ≤ n → ends (repeat (piece g) (drop (4 + k) t)) ≡ well → Joined P (at + (4 + k)) (drop (4 + k) t) (pieces_n n f (at + (4 + k)) (drop (4 + k) t)))
          → Joined P at t (pieces_at r f (pieces_n n f) at t)
      by_span (Span.Bytes k) told later =
          let fits = list-fits t k refl told in
          let size : length (take (4 + k) t) ≡ 4 + k = length-take-le (4 + k) t fits in (
            take (4 + k) t,
            drop (4 + k) t,
            sym (take-append-drop (4 + k) t),
            rw (take-add 4 k t) (own at (take 4 t) (take k (drop 4 t)) (list-sized t k told) (piece-first g t good k refl told)),
            rw size (later k (omega (arith, fits, h, length-drop (4 + k) t)) (piece-rest g t good k refl told)),
          )
      by_span (Span.Refused x) told later = no_bytes t (piece-none-left g t good refl told)

  -- all of them
  pub pieces-joined : (at : ℕ) (t : List ℕ) → ends (repeat (piece g) t) ≡ well → Joined P at t (pieces_in f at t)
  unfolding pieces_in
  pieces-joined at t good = pieces-joined-n (length t) at t (omega arith) good

-- 4. Records

-- a record at the front
is-record : (at kind n : ℕ) (t : List ℕ) → head_of t ≡ Head.Piece kind n → IsRecord at (take (5 + n) t) (record { role = Node; kind = kind; place = at; payload = take n (drop 5 t) })
unfolding head_of
is-record at kind n [] told = absurd (omega (arith, head-fits [] kind n refl told))
is-record at kind n (x ∷ u) told =
    let f = by_tests (ltb (suc (length u)) 5) (ltb (suc (length u) - 5) (le32_at u 0)) told in
    let more : 5 + n ≡ suc (4 + n) = omega arith in
    record { place = refl; size = take 4 u; bytes = rw (more, take-add 4 n u, f.0); sized = sized u n (omega (arith, head-fits (x ∷ u) kind n refl told)) f.1 }
  where
    by_tests : (i j : Bool) → pick i (Head.Refused Short) (pick j (Head.Refused Short) (Head.Piece x (le32_at u 0))) ≡ Head.Piece kind n → (x ≡ kind) × (le32_at u 0 ≡ n)
    by_tests true j e = let z : ◌≡◌ {A = ℕ} 0 1 = cc in absurd (omega arith)
    by_tests false true e = let z : ◌≡◌ {A = ℕ} 0 1 = cc in absurd (omega arith)
    by_tests false false e = (cc, cc)

-- the records of depth 1, joined, and all records as theirs
nodes-joined : (n at : ℕ) (t : List ℕ) → length t ≤ n → ends (nodes t) ≡ well → (rs : List Record) × Joined IsRecord at t rs × (met at (nodes t) ≡ each with_inside rs)
nodes-joined zero at t h good = ([], no_bytes t h, met-no-node at t h)
nodes-joined (suc n) at t h good = by_front (nodes-front t good) (λ k. nodes-joined n (at + (5 + k)) (drop (5 + k) t))
  where
    by_front : Nodes t
        → ((k : ℕ) → length (drop (5 + k) t) ≤ n → ends (nodes (drop (5 + k) t)) ≡ well
        → (rs : List Record) × Joined IsRecord (at + (5 + k)) (drop (5 + k) t) rs × (met (at + (5 + k)) (nodes (drop (5 + k) t)) ≡ each with_inside rs))
        → (rs : List Record) × Joined IsRecord at t rs × (met at (nodes t) ≡ each with_inside rs)
    by_front (none e) later = ([], no_bytes t e, met-no-node at t e)
    by_front (next kind k told rest all) later =
        let fits = head-fits t kind k refl told in
        let r = later k (omega (arith, fits, h, length-drop (5 + k) t)) rest in
        let size : length (take (5 + k) t) ≡ 5 + k = length-take-le (5 + k) t fits in (
          record { role = Node; kind = kind; place = at; payload = take k (drop 5 t) } ∷ r.0,
          (take (5 + k) t, drop (5 + k) t, sym (take-append-drop (5 + k) t), is-record at kind k t told, rw size r.1),
          rw (all at, r.2),
        )

-- nodes to the end
pub are-nodes : (at : ℕ) (t : List ℕ) → ends (nodes t) ≡ well → AreNodes at t (items_in at t)
unfolding items_in items_ended
are-nodes at t good = let d = nodes-joined (length t) at t (omega arith) good in record { records = d.0; joined = d.1; all = rw (good, d.2) }

-- a node list at the front
pub is_list : (at n : ℕ) (t : List ℕ) → list_of t ≡ Span.Bytes n → ends (nodes (take n (drop 4 t))) ≡ well → IsList at (take (4 + n) t) (items_in (at + 4) (take n (drop 4 t)))
is_list at n t told good = record {
  size = take 4 t;
  nodes = take n (drop 4 t);
  bytes = take-add 4 n t;
  sized = list-sized t n told;
  records = are-nodes (at + 4) (take n (drop 4 t)) good;
}
