-- What holds of every reading of names, nodes and flows: a statement on traces between two places that each way of the grammar to build a reading
-- keeps; and the same of two readings of the same bytes that differ in how they read the records there. Assumes nothing.
use Rattle.std.specs.Prelude.{Result, Option, Ok, Err, Some, None}
use mathlib.Core.Path.{◌≡◌, refl}
use mathlib.Core.Logic.{◌⊎◌, inl, inr}
use mathlib.Core.List.Memᴰ
use mathlib.Core.List.{List, [], ◌∷◌, Memᴰ}
use mathlib.Core.Bool.{Bool, true, false}
use Prim.Native.Nat.{ℕ, zero, suc, ◌+◌, ◌≤◌}
use native.Mathlib.Omega.{arith}
use lib.Dec.{ltb, eqb}
use lib.ListN.{length, get_or, take, drop, length-take, length-drop}
use Rattle.fields.specs.declared.Refusal.{Refusal}
use Rattle.fields.specs.declared.Refusal.TheVariants.{Short, Unknown, Deep}
use Rattle.fields.specs.declared.Role.{Role}
use Rattle.fields.specs.declared.Role.TheVariants.{Node, Branch, Cond, Visited}
use Rattle.fields.specs.declared.Body.{Body}
use Rattle.fields.specs.declared.Body.TheVariants as body
use Rattle.fields.specs.Bytes.{Head, Span, pick, head_of, list_of, name_of, flag_of}
use Rattle.fields.specs.Kinds.{kind_of}
use Rattle.fields.proofs.Laws.{head-fits, list-fits, name-fits, head-refusal, list-refusal, name-refusal, off-fits, on_fits}
use Rattle.records.specs.Trace.{Trace, done, refuse, emit, and_then, shift, Record, met}
use Rattle.records.specs.Grammar.{Reading, Reader, front_at, front, ending, repeat_n, repeat, records, exact, piece_at, listed, named_at, named, flagged_at, flagged, moded, last, or_else, arms, options, tested, branch, body_of, whole, too_deep, record_of, nodes, piece}
use Rattle.story.specs.Flows.{names, names_then, counted, titled, stitch, stitches, flow, flows}

-- 1. The refusals of reading

-- 4, 5 and 6
pub data OfReading : Refusal → Type 0 where
  short : OfReading Short
  unknown : OfReading Unknown
  deep : OfReading Deep

-- a flag is refused by 4 or 5
flag-refusal : (s : List ℕ) (r : Refusal) → flag_of s ≡ Err r → OfReading r
unfolding flag_of
flag-refusal s r e = by_tests (ltb (length s) 1) (eqb (get_or s 0 0) 0) (eqb (get_or s 0 0) 1) e
  where
    by_tests : (a b c : Bool) → pick a (Err Short) (pick b (Ok false) (pick c (Ok true) (Err Unknown))) ≡ Err r → OfReading r
    by_tests true b c f = let same : Short ≡ r = cc in rw (← same) short
    by_tests false true c f = let z : ◌≡◌ {A = ℕ} 0 1 = cc in absurd (omega arith)
    by_tests false false true f = let z : ◌≡◌ {A = ℕ} 0 1 = cc in absurd (omega arith)
    by_tests false false false f = let same : Unknown ≡ r = cc in rw (← same) unknown

-- 2. Two readings of the same bytes

-- the roles that a payload hands to the records directly in it
abbrev pub HandsOut : Body → Role → Type 0
HandsOut (body.Exprs n r) x = x ≡ r
HandsOut body.Single x = ⊥
HandsOut (body.Call r) x = x ≡ r
HandsOut body.Conditional x = (x ≡ Cond) ⊎ (x ≡ Branch)
HandsOut body.Switch x = (x ≡ Visited) ⊎ (x ≡ Branch)
HandsOut body.Sequence x = x ≡ Node
HandsOut body.Assign x = x ≡ Visited
HandsOut body.Choice x = (x ≡ Cond) ⊎ (x ≡ Node)

-- what a statement P on two traces whose places lie between two places has to keep
pub record KeptOfTwo (P : ℕ → ℕ → Trace → Trace → Type 0) : Type 0 where
  pub wider : {lo hi lo' hi' : ℕ} (t u : Trace) → lo' ≤ lo → hi ≤ hi' → P lo hi t u → P lo' hi' t u
  pub none : (lo hi : ℕ) → P lo hi done done
  pub refused : (lo hi : ℕ) (r : Refusal) → OfReading r → P lo hi (refuse r) (refuse r)
  pub both : {lo mid hi : ℕ} (t u t' u' : Trace) → lo ≤ mid → mid ≤ hi → P lo mid t u → P mid hi t' u' → P lo hi (and_then t t') (and_then u u')
  pub further : (a lo hi : ℕ) (t u : Trace) → P lo hi t u → P (a + lo) (a + hi) (shift a t) (shift a u)

module _ (P : ℕ → ℕ → Trace → Trace → Type 0) (kept : KeptOfTwo P) where
  -- P of two readings, whatever the bytes
  abbrev Holds : Reading → Reading → Type 0
  Holds j k = (s : List ℕ) → P 0 (length s) (j s) (k s)

  -- P of two readers of one record
  abbrev HoldsRecord : Reader → Reader → Type 0
  HoldsRecord f g = (kind : ℕ) (s : List ℕ) → P 0 (5 + length s) (f kind s) (g kind s)

  -- what follows a bytes, and a part of n bytes after a
  rest-holds : (a : ℕ) (s : List ℕ) (j k : Reading) → Holds j k → a ≤ length s → P a (length s) (shift a (j (drop a s))) (shift a (k (drop a s)))
  rest-holds a s j k h fits =
      kept.wider (shift a (j (drop a s))) (shift a (k (drop a s))) (omega arith) (omega (arith, length-drop a s))
      (kept.further a 0 (length (drop a s)) (j (drop a s)) (k (drop a s)) (h (drop a s)))

  after_holds : (a : ℕ) (s : List ℕ) (j k : Reading) → Holds j k → a ≤ length s → P 0 (length s) (shift a (j (drop a s))) (shift a (k (drop a s)))
  after_holds a s j k h fits = kept.wider (shift a (j (drop a s))) (shift a (k (drop a s))) (omega arith) (omega arith) (rest-holds a s j k h fits)

  part-holds : (a n : ℕ) (s : List ℕ) (j k : Reading) → Holds j k → a + n ≤ length s → P 0 (a + n) (shift a (j (take n (drop a s)))) (shift a (k (take n (drop a s))))
  part-holds a n s j k h fits =
      let inside = take n (drop a s) in
      kept.wider (shift a (j inside)) (shift a (k inside)) (omega arith) (omega (arith, length-take n (drop a s), length-drop a s))
      (kept.further a 0 (length inside) (j inside) (k inside) (h inside))

  front-holds : (f g : Reader) (j k : Reading) → HoldsRecord f g → Holds j k → Holds (front f j) (front g k)
  unfolding front_at
  front-holds f g j k r h s = by-head (head_of s) refl
    where
      by-head : (x : Head) → head_of s ≡ x → P 0 (length s) (front_at x f j s) (front_at x g k s)
      by-head (Head.Piece kind n) e =
          let fits : 5 + n ≤ length s = head-fits s kind n refl e in
          let inside = take n (drop 5 s) in
          kept.both (f kind inside) (g kind inside) (shift (5 + n) (j (drop (5 + n) s))) (shift (5 + n) (k (drop (5 + n) s))) (omega arith) fits
          (kept.wider (f kind inside) (g kind inside) (omega arith) (omega (arith, length-take n (drop 5 s), length-drop 5 s)) (r kind inside)) (rest-holds (5 + n) s j k h fits)
      by-head (Head.Refused x) e = kept.refused 0 (length s) x (rw (head-refusal s x e) short)

  ending-holds : Holds ending ending
  unfolding ending
  ending-holds [] = kept.none 0 0
  ending-holds (x ∷ s) = kept.refused 0 (suc (length s)) Short short

  repeat-holds : (g h : Reading → Reading) → ((j k : Reading) → Holds j k → Holds (g j) (h k)) → Holds (repeat g) (repeat h)
  unfolding repeat repeat_n
  repeat-holds g h r s = pieces (length s) s
    where
      pieces : (n : ℕ) → Holds (repeat_n n g) (repeat_n n h)
      pieces zero u = kept.none 0 (length u)
      pieces (suc n) [] = kept.none 0 0
      pieces (suc n) (x ∷ u) = r (repeat_n n g) (repeat_n n h) (pieces n) (x ∷ u)

  pub records-hold : (f g : Reader) → HoldsRecord f g → Holds (records f) (records g)
  records-hold f g r = repeat-holds (front f) (front g) (λ j k h. front-holds f g j k r h)

  exact-holds : (n : ℕ) (f g : Reader) → HoldsRecord f g → Holds (exact n f) (exact n g)
  unfolding exact
  exact-holds zero f g r s = ending-holds s
  exact-holds (suc n) f g r s = front-holds f g (exact n f) (exact n g) r (exact-holds n f g r) s

  -- a length and so many bytes by f and by g, then what follows them by j and by k
  piece-holds : (f g j k : Reading) → Holds f g → Holds j k → Holds (piece f j) (piece g k)
  unfolding piece_at
  piece-holds f g j k r h s = by_span (list_of s) refl
    where
      by_span : (x : Span) → list_of s ≡ x → P 0 (length s) (piece_at x f j s) (piece_at x g k s)
      by_span (Span.Bytes n) e =
          let fits : 4 + n ≤ length s = list-fits s n refl e in
          let inside = take n (drop 4 s) in
          kept.both (shift 4 (f inside)) (shift 4 (g inside)) (shift (4 + n) (j (drop (4 + n) s))) (shift (4 + n) (k (drop (4 + n) s))) (omega arith) fits
          (part-holds 4 n s f g r fits) (rest-holds (4 + n) s j k h fits)
      by_span (Span.Refused x) e = kept.refused 0 (length s) x (rw (list-refusal s x e) short)

  listed-holds : (f g : Reader) (j k : Reading) → HoldsRecord f g → Holds j k → Holds (listed f j) (listed g k)
  listed-holds f g j k r h = piece-holds (records f) (records g) j k (records-hold f g r) h

  named-holds : (j k : Reading) → Holds j k → Holds (named j) (named k)
  unfolding named_at
  named-holds j k h s = by_name (name_of s) refl
    where
      by_name : (x : Span) → name_of s ≡ x → P 0 (length s) (named_at x j s) (named_at x k s)
      by_name (Span.Bytes n) e = after_holds (1 + n) s j k h (name-fits s n refl e)
      by_name (Span.Refused r) e = kept.refused 0 (length s) r (rw (name-refusal s r e) short)

  flagged-holds : (j k j' k' : Reading) → Holds j k → Holds j' k' → Holds (flagged j j') (flagged k k')
  unfolding flagged_at
  flagged-holds j k j' k' h h' s = by_flag (flag_of s) refl
    where
      by_flag : (x : Result Bool Refusal) → flag_of s ≡ x → P 0 (length s) (flagged_at x j j' s) (flagged_at x k k' s)
      by_flag (Ok false) e = after_holds 1 s j k h (off-fits s refl e)
      by_flag (Ok true) e = after_holds 1 s j' k' h' (on_fits s refl e)
      by_flag (Err r) e = kept.refused 0 (length s) r (flag-refusal s r e)

  moded-holds : (j k : Reading) → Holds j k → Holds (moded j) (moded k)
  unfolding moded
  moded-holds j k h [] = kept.refused 0 0 Short short
  moded-holds j k h (x ∷ s) = by_mode (ltb x 4)
    where
      by_mode : (a : Bool) → P 0 (suc (length s)) (pick a (shift 1 (j s)) (refuse Unknown)) (pick a (shift 1 (k s)) (refuse Unknown))
      by_mode true = after_holds 1 (x ∷ s) j k h (omega arith)
      by_mode false = kept.refused 0 (suc (length s)) Unknown unknown

  module _ (f g : Role → Reader) where
    last-holds : (r : Role) → HoldsRecord (f r) (g r) → Holds (last r f) (last r g)
    unfolding last
    last-holds r h s = listed-holds (f r) (g r) ending ending h ending-holds s

    arms-holds : HoldsRecord (f Branch) (g Branch) → Holds (arms f) (arms g)
    unfolding arms or_else
    arms-holds h s =
        listed-holds (f Branch) (g Branch) (or_else f) (or_else g) h (flagged-holds ending ending (last Branch f) (last Branch g) ending-holds (last-holds Branch h)) s

    options-holds : HoldsRecord (f Cond) (g Cond) → HoldsRecord (f Node) (g Node) → Holds (options f) (options g)
    unfolding options
    options-holds c h s = listed-holds (f Cond) (g Cond) (last Node f) (last Node g) c (last-holds Node h) s

    branch-holds : HoldsRecord (f Visited) (g Visited) → HoldsRecord (f Branch) (g Branch) → (j k : Reading) → Holds j k → Holds (branch f j) (branch g k)
    unfolding branch tested
    branch-holds v h j k r s =
        let list = listed-holds (f Branch) (g Branch) j k h r in
        flagged-holds (listed (f Branch) j) (listed (g Branch) k) (front (f Visited) (listed (f Branch) j)) (front (g Visited) (listed (g Branch) k)) list
        (front-holds (f Visited) (g Visited) (listed (f Branch) j) (listed (g Branch) k) v list) s

    -- a payload: where P holds of the readers of the roles that it hands out
    pub body-holds : (b : Body) → ((r : Role) → HandsOut b r → HoldsRecord (f r) (g r)) → Holds (body_of b f) (body_of b g)
    unfolding body_of
    body-holds (body.Exprs n r) h s = exact-holds n (f r) (g r) (h r refl) s
    body-holds body.Single h s = named-holds ending ending ending-holds s
    body-holds (body.Call r) h s = named-holds (records (f r)) (records (g r)) (records-hold (f r) (g r) (h r refl)) s
    body-holds body.Conditional h s = front-holds (f Cond) (g Cond) (arms f) (arms g) (h Cond (inl refl)) (arms-holds (h Branch (inr refl))) s
    body-holds body.Switch h s =
        front-holds (f Visited) (g Visited) (repeat (branch f)) (repeat (branch g)) (h Visited (inl refl))
        (repeat-holds (branch f) (branch g) (branch-holds (h Visited (inl refl)) (h Branch (inr refl)))) s
    body-holds body.Sequence h s =
        repeat-holds (listed (f Node)) (listed (g Node)) (λ j k r. listed-holds (f Node) (g Node) j k (h Node refl) r) s
    body-holds body.Assign h s =
        moded-holds (named (exact 1 (f Visited))) (named (exact 1 (g Visited)))
        (named-holds (exact 1 (f Visited)) (exact 1 (g Visited)) (exact-holds 1 (f Visited) (g Visited) (h Visited refl))) s
    body-holds body.Choice h s =
        let lists = options-holds (h Cond (inl refl)) (h Node (inr refl)) in
        flagged-holds (options f) (options g) (named (options f)) (named (options g)) lists (named-holds (options f) (options g) lists) s

-- 3. A statement on each record

-- Q holds of each record of the trace
unfoldable pub Each : (Role → ℕ → List ℕ → Type 0) → Trace → Type 0
Each Q done = Unit {0}
Each Q (refuse r) = Unit {0}
Each Q (emit role kind p bs t) = Q role kind bs × Each Q t

module _ (Q : Role → ℕ → List ℕ → Type 0) where
  pub each-then : (t u : Trace) → Each Q t → Each Q u → Each Q (and_then t u)
  unfolding Each and_then
  each-then done u g h = h
  each-then (refuse r) u g h = tt
  each-then (emit role kind p bs t) u g h = (g.0, each-then t u g.1 h)

  pub each-shift : (k : ℕ) (t : Trace) → Each Q t → Each Q (shift k t)
  unfolding Each shift
  each-shift k done g = tt
  each-shift k (refuse r) g = tt
  each-shift k (emit role kind p bs t) g = (g.0, each-shift k t g.1)

  pub each-met : (b : ℕ) (t : Trace) → Each Q t → (r : Record) → Memᴰ r (met b t) → Q r.role r.kind r.payload
  unfolding Each met
  each-met b done g r m = absurd (Memᴰ.not-nil m)
  each-met b (refuse x) g r m = absurd (Memᴰ.not-nil m)
  each-met b (emit role kind p bs t) g r m = by_cases (each-met b t g.1 r) (Memᴰ.cases_cons m)
    where
      by_cases : (Memᴰ r (met b t) → Q r.role r.kind r.payload)
          → (r ≡ record { role = role; kind = kind; place = b + p; payload = bs }) ⊎ Memᴰ r (met b t) → Q r.role r.kind r.payload
      by_cases later (inl e) = rw e g.0
      by_cases later (inr i) = later i

  -- of the first of two readings
  pub each-kept : KeptOfTwo (λ (lo hi : ℕ) (t u : Trace). Each Q t)
  unfolding Each
  each-kept = record {
    wider = λ t u p q h. h;
    none = λ lo hi. tt;
    refused = λ lo hi x i. tt;
    both = λ t u t' u' p q g h. each-then t t' g h;
    further = λ a lo hi t u h. each-shift a t h;
  }

-- 4. One reading

-- what a statement P on traces whose places lie between two places has to keep
pub record Kept (P : ℕ → ℕ → Trace → Type 0) : Type 0 where
  pub wider : {lo hi lo' hi' : ℕ} (t : Trace) → lo' ≤ lo → hi ≤ hi' → P lo hi t → P lo' hi' t
  pub none : (lo hi : ℕ) → P lo hi done
  pub refused : (lo hi : ℕ) (r : Refusal) → OfReading r → P lo hi (refuse r)
  pub both : {lo mid hi : ℕ} (t u : Trace) → lo ≤ mid → mid ≤ hi → P lo mid t → P mid hi u → P lo hi (and_then t u)
  pub further : (a lo hi : ℕ) (t : Trace) → P lo hi t → P (a + lo) (a + hi) (shift a t)
  pub one : (left kind : ℕ) (role : Role) (s : List ℕ) (b : Body) → kind_of role kind ≡ Some b → P 0 (length s) (body_of b (record_of left) s)
      → P 0 (5 + length s) (emit role kind 0 s (shift 5 (body_of b (record_of left) s)))

module _ (P : ℕ → ℕ → Trace → Type 0) (kept : Kept P) where
  -- of the first of two traces
  abbrev OfFirst : ℕ → ℕ → Trace → Trace → Type 0
  OfFirst lo hi t u = P lo hi t

  of-first : KeptOfTwo OfFirst
  of-first = record {
    wider = λ t u. kept.wider t;
    none = kept.none;
    refused = kept.refused;
    both = λ t u t' u'. kept.both t t';
    further = λ a lo hi t u. kept.further a lo hi t;
  }

  record-holds : (left : ℕ) (role : Role) (kind : ℕ) (s : List ℕ) → P 0 (5 + length s) (record_of left role kind s)
  unfolding record_of too_deep whole
  record-holds zero role kind s = by_kind (kind_of role kind)
    where
      by_kind : (x : Option Body) → P 0 (5 + length s) (too_deep x)
      by_kind (Some b) = kept.refused 0 (5 + length s) Deep deep
      by_kind None = kept.refused 0 (5 + length s) Unknown unknown
  record-holds (suc left) role kind s =
      by_kind (kind_of role kind) refl (λ b. body-holds OfFirst of-first (record_of left) (record_of left) b (λ r h. record-holds left r) s)
    where
      by_kind : (x : Option Body) → kind_of role kind ≡ x → ((b : Body) → P 0 (length s) (body_of b (record_of left) s)) → P 0 (5 + length s) (whole x (record_of left) role kind s)
      by_kind (Some b) e inside = kept.one left kind role s b e (inside b)
      by_kind None e inside = kept.refused 0 (5 + length s) Unknown unknown

  -- a statement that is kept holds of the reading of any nodes
  pub nodes-hold : (s : List ℕ) → P 0 (length s) (nodes s)
  unfolding nodes
  nodes-hold s = records-hold OfFirst of-first (record_of 64 Node) (record_of 64 Node) (record-holds 64 Node) s

  -- P of a reading, whatever the bytes
  abbrev HoldsOf : Reading → Type 0
  HoldsOf k = (s : List ℕ) → P 0 (length s) (k s)

  name-holds : (k : Reading) → HoldsOf k → HoldsOf (named k)
  name-holds k h = named-holds OfFirst of-first k k h

  -- of the reading of any names
  pub names-hold : HoldsOf names
  unfolding names
  names-hold s = repeat-holds OfFirst of-first named named (λ j k. named-holds OfFirst of-first j k) s

  -- and of any flows
  names-then-hold : (n : ℕ) (k : Reading) → HoldsOf k → HoldsOf (names_then n k)
  unfolding names_then
  names-then-hold zero k h s = h s
  names-then-hold (suc n) k h s = name-holds (names_then n k) (names-then-hold n k h) s

  counted-holds : (k : Reading) → HoldsOf k → HoldsOf (counted k)
  unfolding counted
  counted-holds k h [] = kept.refused 0 0 Short short
  counted-holds k h (x ∷ s) = after_holds OfFirst of-first 1 (x ∷ s) (names_then x k) (names_then x k) (names-then-hold x k h) (omega arith)

  titled-holds : (k : Reading) → HoldsOf k → HoldsOf (titled k)
  unfolding titled
  titled-holds k h s =
      let list = listed-holds OfFirst of-first (record_of 64 Node) (record_of 64 Node) k k (record-holds 64 Node) h in
      name-holds (counted (counted (listed (record_of 64 Node) k))) (counted-holds (counted (listed (record_of 64 Node) k)) (counted-holds (listed (record_of 64 Node) k) list)) s

  pieces-hold : (g : Reading) → HoldsOf g → HoldsOf (repeat (piece g))
  pieces-hold g h = repeat-holds OfFirst of-first (piece g) (piece g) (λ j k. piece-holds OfFirst of-first g g j k h)

  pub flows-hold : HoldsOf flows
  unfolding flows flow stitch
  flows-hold s =
      let own = titled-holds stitches (pieces-hold stitch (λ t. titled-holds ending (ending-holds OfFirst of-first) t)) in
      pieces-hold flow (λ t. flagged-holds OfFirst of-first (titled stitches) (titled stitches) (titled stitches) (titled stitches) own own t) s
