-- Where the records of a reading stand: their places rise, they lie within the bytes read, and the bytes at their places are theirs.
-- Each holds of all bytes, damaged ones too. Assumes nothing.
use Rattle.std.specs.Prelude.{Result, Option, Ok, Err, Some, None}
use Rattle.fields.specs.declared.Refusal.{Refusal}
use Rattle.std.proofs.Common.{◌≡◌, ℕ, zero, suc, ◌+◌, ◌-◌, ◌<◌, ◌≤◌, Bool, true, false, ltb, ◌⊎◌, List, [], ◌∷◌, length, take, drop, sym, refl, ap, subst, inl, inr, add_assoc, arith, length-drop, length-take, take-take, drop-drop}
use mathlib.Core.List.Memᴰ
use mathlib.Core.List.{Memᴰ}
use native.Mathlib.Nat.{zero-sub}
use native.Mathlib.Numerals.{unary_clauses}
use lib.Seq.{take-nil}
use Rattle.fields.specs.declared.Refusal.TheVariants.{Unknown}
use Rattle.fields.specs.declared.Role.{Role}
use Rattle.fields.specs.declared.Role.TheVariants.{Node, Branch, Cond, Visited}
use Rattle.fields.specs.declared.Body.{Body}
use Rattle.fields.specs.declared.Body.TheVariants as body
use Rattle.fields.specs.Bytes.{Head, Span, pick, head_of, list_of, name_of, flag_of}
use Rattle.fields.specs.Kinds.{kind_of}
use Rattle.fields.proofs.Laws.{head-fits, list-fits, name-fits, off-fits, on_fits, head-take}
use Rattle.names.specs.Words.{Sorted}
use Rattle.records.specs.Trace.{Trace, done, refuse, emit, and_then, shift, Record, met}
use Rattle.records.specs.Grammar.{Reading, Reader, front_at, front, ending, repeat_n, repeat, records, exact, piece_at, piece, listed, named_at, named, flagged_at, flagged, moded, last, or_else, arms, options, tested, branch, body_of, whole, too_deep, record_of, nodes}
use Rattle.records.specs.Stands.{Stands}

-- 1. A record that stands in a part stands in the whole

pub drop-take : (p n : ℕ) (s : List ℕ) → drop p (take n s) ≡ take (n - p) (drop p s)
drop-take zero n s = simp unary_clauses
drop-take (suc p) zero s = rw (zero-sub (suc p))
drop-take (suc p) (suc n) [] = simp (unary_clauses, take-nil)
drop-take (suc p) (suc n) (x ∷ s) = simp unary_clauses (drop-take p n s)

pub stands-drop : (a : ℕ) (s : List ℕ) {p kind : ℕ} {bs : List ℕ} → Stands (drop a s) p kind bs → Stands s (a + p) kind bs
stands-drop a s {p} h = record { head = rw (drop-drop p a s) at h.head; behind = rw (drop-drop (p + 5) a s, ← add_assoc a p 5) at h.behind }

-- it ends where the bytes end, or before
pub stands-fits : (s : List ℕ) {p kind : ℕ} {bs : List ℕ} → Stands s p kind bs → p + 5 + length bs ≤ length s
stands-fits s {p} {kind} {bs} h = omega (arith, head-fits (drop p s) kind (length bs) refl h.head, length-drop p s)

pub stands-take : (n : ℕ) (s : List ℕ) {p kind : ℕ} {bs : List ℕ} → Stands (take n s) p kind bs → Stands s p kind bs
stands-take n s {p} {kind} {bs} h =
    let fits : p + 5 + length bs ≤ length (take n s) = stands-fits (take n s) h in
    record {
      head = head-take (n - p) (drop p s) kind (length bs) (rw (drop-take p n s) at h.head);
      behind = rw (drop-take (p + 5) n s, take-take (length bs) (n - (p + 5)) (drop (p + 5) s) (omega (arith, length-take n s))) at h.behind;
    }

-- 2. Placed: each record of a trace stands in s, at places that rise, from lo on and below hi

unfoldable pub Placed : List ℕ → ℕ → ℕ → Trace → Type 0
Placed s lo hi done = Unit {0}
Placed s lo hi (refuse r) = Unit {0}
Placed s lo hi (emit role kind p bs t) = ((lo ≤ p) × (p < hi)) × Stands s p kind bs × Placed s (suc p) hi t

module _ (s : List ℕ) where
  pub placed-wider : {lo hi lo' hi' : ℕ} (t : Trace) → lo' ≤ lo → hi ≤ hi' → Placed s lo hi t → Placed s lo' hi' t
  unfolding Placed
  placed-wider done p q h = tt
  placed-wider (refuse r) p q h = tt
  placed-wider (emit role kind a bs t) p q h = (omega (arith, h.0), h.1, placed-wider t (omega arith) q h.2)

  pub placed-then : {lo mid hi : ℕ} (t u : Trace) → lo ≤ mid → mid ≤ hi → Placed s lo mid t → Placed s mid hi u → Placed s lo hi (and_then t u)
  unfolding Placed and_then
  placed-then done u p q g h = placed-wider u p (omega arith) h
  placed-then (refuse r) u p q g h = tt
  placed-then (emit role kind a bs t) u p q g h = (omega (arith, g.0), g.1, placed-then t u (omega (arith, g.0)) q g.2 h)

  placed-drop : (a lo hi : ℕ) (t : Trace) → Placed (drop a s) lo hi t → Placed s (a + lo) (a + hi) (shift a t)
  unfolding Placed shift
  placed-drop a lo hi done h = tt
  placed-drop a lo hi (refuse r) h = tt
  placed-drop a lo hi (emit role kind p bs t) h =
      (omega (arith, h.0), stands-drop a s h.1, placed-wider (shift a t) (omega arith) (omega arith) (placed-drop a (suc p) hi t h.2))

  placed-take : (n lo hi : ℕ) (t : Trace) → Placed (take n s) lo hi t → Placed s lo hi t
  unfolding Placed
  placed-take n lo hi done h = tt
  placed-take n lo hi (refuse r) h = tt
  placed-take n lo hi (emit role kind p bs t) h = (h.0, stands-take n s h.1, placed-take n (suc p) hi t h.2)

-- 3. The grammar: each reading places its records within its bytes, and each reader of a record within the record

-- the records of a reading are placed
abbrev pub Places : Reading → Type 0
Places k = (s : List ℕ) → Placed s 0 (length s) (k s)

-- those of a record, by its reader
abbrev PlacesRecord : Reader → Type 0
PlacesRecord f = (s : List ℕ) (kind n : ℕ) → head_of s ≡ Head.Piece kind n → Placed s 0 (5 + n) (f kind (take n (drop 5 s)))

pub rest-placed : (a : ℕ) (s : List ℕ) (k : Reading) → Places k → a ≤ length s → Placed s a (length s) (shift a (k (drop a s)))
rest-placed a s k h fits =
    placed-wider s (shift a (k (drop a s))) (omega arith) (omega (arith, length-drop a s)) (placed-drop s a 0 (length (drop a s)) (k (drop a s)) (h (drop a s)))

pub part_placed : (a n : ℕ) (s : List ℕ) (k : Reading) → Places k → a + n ≤ length s → Placed s a (a + n) (shift a (k (take n (drop a s))))
part_placed a n s k h fits =
    placed-wider s (shift a (k (take n (drop a s)))) (omega arith) (omega (arith, length-take n (drop a s), length-drop a s))
    (placed-drop s a 0 (length (take n (drop a s))) (k (take n (drop a s)))
    (placed-take (drop a s) n 0 (length (take n (drop a s))) (k (take n (drop a s))) (h (take n (drop a s)))))

front-places : (f : Reader) (k : Reading) → PlacesRecord f → Places k → Places (front f k)
unfolding front_at Placed
front-places f k g h s = by-head (head_of s) refl
  where
    by-head : (x : Head) → head_of s ≡ x → Placed s 0 (length s) (front_at x f k s)
    by-head (Head.Piece kind n) e =
        let fits : 5 + n ≤ length s = head-fits s kind n refl e in
        placed-then s (f kind (take n (drop 5 s))) (shift (5 + n) (k (drop (5 + n) s))) (omega arith) fits (g s kind n e) (rest-placed (5 + n) s k h fits)
    by-head (Head.Refused x) e = tt

pub ending-places : Places ending
unfolding ending Placed
ending-places [] = tt
ending-places (x ∷ s) = tt

pub repeat-places : (g : Reading → Reading) → ((k : Reading) → Places k → Places (g k)) → Places (repeat g)
unfolding repeat repeat_n Placed
repeat-places g h s = pieces (length s) s
  where
    pieces : (n : ℕ) → Places (repeat_n n g)
    pieces zero u = tt
    pieces (suc n) [] = tt
    pieces (suc n) (x ∷ u) = h (repeat_n n g) (pieces n) (x ∷ u)

records-places : (f : Reader) → PlacesRecord f → Places (records f)
records-places f g = repeat-places (front f) (λ k h. front-places f k g h)

exact-places : (n : ℕ) (f : Reader) → PlacesRecord f → Places (exact n f)
unfolding exact
exact-places zero f g s = ending-places s
exact-places (suc n) f g s = front-places f (exact n f) g (exact-places n f g) s

pub piece-places : (g k : Reading) → Places g → Places k → Places (piece g k)
unfolding piece_at Placed
piece-places g k f h s = by_span (list_of s) refl
  where
    by_span : (x : Span) → list_of s ≡ x → Placed s 0 (length s) (piece_at x g k s)
    by_span (Span.Bytes n) e =
        let fits : 4 + n ≤ length s = list-fits s n refl e in
        let t = g (take n (drop 4 s)) in
        placed-then s (shift 4 t) (shift (4 + n) (k (drop (4 + n) s))) (omega arith) fits
        (placed-wider s (shift 4 t) (omega arith) (omega arith) (part_placed 4 n s g f fits)) (rest-placed (4 + n) s k h fits)
    by_span (Span.Refused x) e = tt

listed-places : (f : Reader) (k : Reading) → PlacesRecord f → Places k → Places (listed f k)
listed-places f k g h = piece-places (records f) k (records-places f g) h

named-places : (k : Reading) → Places k → Places (named k)
unfolding named_at Placed
named-places k h s = by_name (name_of s) refl
  where
    by_name : (x : Span) → name_of s ≡ x → Placed s 0 (length s) (named_at x k s)
    by_name (Span.Bytes n) e = placed-wider s (shift (1 + n) (k (drop (1 + n) s))) (omega arith) (omega arith) (rest-placed (1 + n) s k h (name-fits s n refl e))
    by_name (Span.Refused r) e = tt

pub flagged-places : (j k : Reading) → Places j → Places k → Places (flagged j k)
unfolding flagged_at Placed
flagged-places j k g h s = by_flag (flag_of s) refl
  where
    by_flag : (x : Result Bool Refusal) → flag_of s ≡ x → Placed s 0 (length s) (flagged_at x j k s)
    by_flag (Ok false) e = placed-wider s (shift 1 (j (drop 1 s))) (omega arith) (omega arith) (rest-placed 1 s j g (off-fits s refl e))
    by_flag (Ok true) e = placed-wider s (shift 1 (k (drop 1 s))) (omega arith) (omega arith) (rest-placed 1 s k h (on_fits s refl e))
    by_flag (Err r) e = tt

moded-places : (k : Reading) → Places k → Places (moded k)
unfolding moded Placed
moded-places k h [] = tt
moded-places k h (x ∷ s) = by_mode (ltb x 4)
  where
    by_mode : (a : Bool) → Placed (x ∷ s) 0 (suc (length s)) (pick a (shift 1 (k s)) (refuse Unknown))
    by_mode true = placed-wider (x ∷ s) (shift 1 (k s)) (omega arith) (omega arith) (rest-placed 1 (x ∷ s) k h (omega arith))
    by_mode false = tt

module _ (f : Role → Reader) (g : (r : Role) → PlacesRecord (f r)) where
  last-places : (r : Role) → Places (last r f)
  unfolding last
  last-places r s = listed-places (f r) ending (g r) ending-places s

  arms-places : Places (arms f)
  unfolding arms or_else
  arms-places s = listed-places (f Branch) (or_else f) (g Branch) (flagged-places ending (last Branch f) ending-places (last-places Branch)) s

  options-places : Places (options f)
  unfolding options
  options-places s = listed-places (f Cond) (last Node f) (g Cond) (last-places Node) s

  branch-places : (k : Reading) → Places k → Places (branch f k)
  unfolding branch tested
  branch-places k h s =
      let list = listed-places (f Branch) k (g Branch) h in
      flagged-places (listed (f Branch) k) (front (f Visited) (listed (f Branch) k)) list (front-places (f Visited) (listed (f Branch) k) (g Visited) list) s

  body-places : (b : Body) → Places (body_of b f)
  unfolding body_of
  body-places (body.Exprs n r) s = exact-places n (f r) (g r) s
  body-places body.Single s = named-places ending ending-places s
  body-places (body.Call r) s = named-places (records (f r)) (records-places (f r) (g r)) s
  body-places body.Conditional s = front-places (f Cond) (arms f) (g Cond) arms-places s
  body-places body.Switch s = front-places (f Visited) (repeat (branch f)) (g Visited) (repeat-places (branch f) branch-places) s
  body-places body.Sequence s = repeat-places (listed (f Node)) (λ k h. listed-places (f Node) k (g Node) h) s
  body-places body.Assign s = moded-places (named (exact 1 (f Visited))) (named-places (exact 1 (f Visited)) (exact-places 1 (f Visited) (g Visited))) s
  body-places body.Choice s = flagged-places (options f) (named (options f)) options-places (named-places (options f) options-places) s

  whole-places : (x : Option Body) (role : Role) → PlacesRecord (whole x f role)
  unfolding whole Placed
  whole-places (Some b) role s kind n e =
      let fits : 5 + n ≤ length s = head-fits s kind n refl e in
      let long : length (take n (drop 5 s)) ≡ n = omega (arith, length-take n (drop 5 s), length-drop 5 s) in (
        omega arith,
        record { head = rw (long, e); behind = rw long },
        placed-wider s (shift 5 (body_of b f (take n (drop 5 s)))) (omega arith) (omega arith) (part_placed 5 n s (body_of b f) (body-places b) fits),
      )
  whole-places None role s kind n e = tt

record-places : (left : ℕ) (role : Role) → PlacesRecord (record_of left role)
unfolding record_of too_deep Placed
record-places zero role s kind n e = by_kind (kind_of role kind)
  where
    by_kind : (x : Option Body) → Placed s 0 (5 + n) (too_deep x)
    by_kind (Some b) = tt
    by_kind None = tt
record-places (suc left) role s kind n e = whole-places (record_of left) (record-places left) (kind_of role kind) role s kind n e

pub nodes-places : Places nodes
unfolding nodes
nodes-places s = records-places (record_of 64 Node) (record-places 64 Node) s

-- 4. The records met

-- a record met is one of the trace
pub met-placed : (s : List ℕ) (lo hi b : ℕ) (t : Trace) → Placed s lo hi t → (r : Record) → Memᴰ r (met b t)
    → (p : ℕ) × (r.place ≡ b + p) × ((lo ≤ p) × (p < hi)) × Stands s p r.kind r.payload
unfolding Placed met
met-placed s lo hi b done h r m = absurd (Memᴰ.not-nil m)
met-placed s lo hi b (refuse x) h r m = absurd (Memᴰ.not-nil m)
met-placed s lo hi b (emit role kind p bs t) h r m = by_cases (λ i. met-placed s (suc p) hi b t h.2 r i) (Memᴰ.cases_cons m)
  where
    first : Record
    first = record { role = role; kind = kind; place = b + p; payload = bs }

    by_cases : (Memᴰ r (met b t) → (q : ℕ) × (r.place ≡ b + q) × ((suc p ≤ q) × (q < hi)) × Stands s q r.kind r.payload)
        → (r ≡ first) ⊎ Memᴰ r (met b t) → (q : ℕ) × (r.place ≡ b + q) × ((lo ≤ q) × (q < hi)) × Stands s q r.kind r.payload
    by_cases later (inl e) = (p, ap (λ (x : Record). x.place) e, h.0, subst (λ (x : Record). Stands s p x.kind x.payload) (sym e) h.1)
    by_cases later (inr i) = let x = later i in (x.0, x.1, omega (arith, x.2, h.0), x.3)

-- at an earlier place
abbrev pub Before : Record → Record → Type 0
Before x y = x.place < y.place

pub met-rising : (s : List ℕ) (lo hi b : ℕ) (t : Trace) → Placed s lo hi t → Sorted Before (met b t)
unfolding Placed met
met-rising s lo hi b done h = tt
met-rising s lo hi b (refuse x) h = tt
met-rising s lo hi b (emit role kind p bs t) h =
    (λ y m. let x = met-placed s (suc p) hi b t h.2 y m in omega (arith, x.1, x.2), met-rising s (suc p) hi b t h.2)

-- there are no more records than places for them
pub met-count : (s : List ℕ) (lo hi b : ℕ) (t : Trace) → lo ≤ hi → Placed s lo hi t → lo + length (met b t) ≤ hi
unfolding Placed met
met-count s lo hi b done p h = omega arith
met-count s lo hi b (refuse x) p h = omega arith
met-count s lo hi b (emit role kind a bs t) p h = omega (arith, h.0, met-count s (suc a) hi b t (omega (arith, h.0)) h.2)

-- a payload has no more records than bytes
pub payload-count : (left b : ℕ) (c : Body) (s : List ℕ) → length (met b (body_of c (record_of left) s)) ≤ length s
payload-count left b c s =
    omega (arith, met-count s 0 (length s) b (body_of c (record_of left) s) (omega arith) (body-places (record_of left) (record-places left) c s))

-- places rise strictly
pub places-rise : (b : ℕ) (s : List ℕ) → Sorted Before (met b (nodes s))
places-rise b s = met-rising s 0 (length s) b (nodes s) (nodes-places s)

-- a record lies within the bytes, which stand at b
pub lies_within : (b : ℕ) (s : List ℕ) (r : Record) → Memᴰ r (met b (nodes s)) → (b ≤ r.place) × (r.place + 5 + length r.payload ≤ b + length s)
lies_within b s r m =
    let x = met-placed s 0 (length s) b (nodes s) (nodes-places s) r m in omega (arith, x.1, stands-fits s x.3)

-- its bytes stand in the file at its place, where the bytes read are n of the file from b on
pub stands-in-file : (file : List ℕ) (b n : ℕ) {s : List ℕ} → s ≡ take n (drop b file) → (r : Record) → Memᴰ r (met b (nodes s))
    → Stands file r.place r.kind r.payload
stands-in-file file b n {s} e r m =
    let x = met-placed s 0 (length s) b (nodes s) (nodes-places s) r m in
    rw x.1 (stands-drop b file (stands-take n (drop b file) (subst (λ (u : List ℕ). Stands u x.0 r.kind r.payload) e x.3)))
