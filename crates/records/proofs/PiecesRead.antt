-- A piece read by a callee that answers the place after it: a record, a list, the test of a branch, a branch. Assumes nothing.
use Rattle.std.specs.Prelude.{Result, Ok, Err, true, false, Bool}
use Rattle.std.proofs.Common.{sym, ◌≡◌, ℕ, ◌+◌, ◌-◌, ◌≤◌, List, length, take, drop, refl, ap, ◌∙◌, arith, length-drop}
use Rattle.fields.specs.declared.Refusal.{Refusal}
use Rattle.fields.specs.declared.Role.{Role}
use Rattle.fields.specs.declared.Role.TheVariants.{Branch, Visited}
use Rattle.fields.specs.Bytes.{Head, Span, head_of, read_of_head, list_of, span_reach, flag_of}
use Rattle.fields.proofs.Laws.{same_pair, head-fits, list-fits, off-fits, on_fits, to_end}
use Rattle.records.specs.Trace.{Trace, and_then, shift}
use Rattle.records.specs.Grammar.{Reading, Reader, front_at, front, nothing, records, piece_at, listed, flagged_at, tested, branch}
use Rattle.records.specs.Work.{St, st, Ran, Visitor, run, walk_of, piece_of, Told, ToldTo, head_place, head_end, reach_place, list_end, test_end_of, test_end, branch_end}
use Rattle.records.proofs.Readings.{front-then, branch-tested, branch-then}
use Rattle.records.proofs.Walking.{then-on, then-else, front-alone, sized-alone, flagged-off, flagged-on, flagged-refused, told-done}

-- 1. An answer with a place, and one without

-- so the callee answers
pub piece-answers : (x : Ran St) (to : ℕ) {w : Result ℕ Refusal} {o : List ℕ} → Told x w o → (e : ℕ) {a : Result (ℕ × ℕ) Refusal} → a ≡ piece_of e w → e ≡ to → ToldTo x to a o
piece-answers x to g e q z = record { answer = rw (← z, ← g.answer) q; written = g.written }

pub piece-refused : (x : Ran St) (to : ℕ) {r : Refusal} {o : List ℕ} → Told x (Err r) o → {a : Result (ℕ × ℕ) Refusal} → a ≡ Err r → ToldTo x to a o
unfolding piece_of
piece-refused x to g q = piece-answers x to g to q refl

module _ (x : Ran St) (to : ℕ) {a : Result (ℕ × ℕ) Refusal} {o : List ℕ} (g : ToldTo x to a o) where
  -- so the caller learns it
  piece-told : (e m : ℕ) → a ≡ Ok (e, m) → (e ≡ to) × Told x (Ok m) o
  unfolding piece_of
  piece-told e m q = by-walk (walk_of x) refl g.answer
    where
      by-walk : (w : Result ℕ Refusal) → w ≡ walk_of x → a ≡ piece_of to w → (e ≡ to) × Told x (Ok m) o
      by-walk (Ok n) p i = let parts = same_pair {E = Refusal} (sym q ∙ i) in (parts.0, record { answer = rw parts.1 p; written = g.written })
      by-walk (Err r) p i = let y : ◌≡◌ {A = ℕ} 0 1 = cc in absurd (omega arith)

  piece-told-refused : (r : Refusal) → a ≡ Err r → Told x (Err r) o
  unfolding piece_of
  piece-told-refused r q = by-walk (walk_of x) refl g.answer
    where
      by-walk : (w : Result ℕ Refusal) → w ≡ walk_of x → a ≡ piece_of to w → Told x (Err r) o
      by-walk (Ok n) p i = let y : ◌≡◌ {A = ℕ} 0 1 = cc in absurd (omega arith)
      by-walk (Err r') p i = let same : r ≡ r' = cc in record { answer = rw same p; written = g.written }

-- a piece p of the bytes s, then what follows it: u
module _ (v : Visitor St) (b : ℕ) (s₀ : St) (p : Trace) (to : ℕ) {a : Result (ℕ × ℕ) Refusal} {o : List ℕ} (g : ToldTo (run v b s₀ p) to a o) where
  pub piece-on : (k : Reading) (s : List ℕ) (u : Trace) → u ≡ and_then p (shift to (k (drop to s))) → (e m : ℕ) → a ≡ Ok (e, m)
      → run v b s₀ u ≡ run v (b + e) (st o m) (k (take (length s - e) (drop e s)))
  piece-on k s u then e m q =
      let h = piece-told (run v b s₀ p) to g e m q in
      rw (to_end e s, h.0, then) (then-on v b s₀ p (k (drop to s)) to m h.1 refl)

  pub piece-else : (q u : Trace) → u ≡ and_then p q → (r : Refusal) → a ≡ Err r → Told (run v b s₀ u) (Err r) o
  piece-else q u then r z = rw then (then-else v b s₀ p q (piece-told-refused (run v b s₀ p) to g r z) refl)

-- where the place after is known to be some bytes on, unless reading was refused
pub piece-within : (v : Visitor St) (b : ℕ) (s₀ : St) (p : Trace) (to : ℕ) {a : Result (ℕ × ℕ) Refusal} {o : List ℕ} → ToldTo (run v b s₀ p) to a o
    → (n l : ℕ) → to ≤ l → ((m : ℕ) → Ok m ≡ walk_of (run v b s₀ p) → n ≤ to) → (e m : ℕ) → a ≡ Ok (e, m) → (n ≤ e) × (e ≤ l)
piece-within v b s₀ p to g n l fits some e m q =
    let h = piece-told (run v b s₀ p) to g e m q in
    omega (arith, h.0, fits, some m h.1.answer)

-- 2. The record at the front

head-end : (s : List ℕ) (kind to : ℕ) {r : Result (ℕ × ℕ) Refusal} → r ≡ read_of_head (head_of s) → r ≡ Ok (kind, to) → to ≡ head_end s
unfolding head_place
head-end s kind to e q = rw (← e, q)

head-end-fits : (s : List ℕ) → head_end s ≤ length s
unfolding read_of_head head_place
head-end-fits s = by-head (head_of s) refl
  where
    by-head : (h : Head) → h ≡ head_of s → head_place (read_of_head h) ≤ length s
    by-head (Head.Piece kind n) e = head-fits s kind n e refl
    by-head (Head.Refused r) e = omega arith

module _ (v : Visitor St) (b : ℕ) (s₀ : St) (f : Reader) (s : List ℕ) where
  -- so the callee answers
  pub first-answers : (kind to : ℕ) {r : Result (ℕ × ℕ) Refusal} {w : Result ℕ Refusal} {o : List ℕ} → r ≡ read_of_head (head_of s) → r ≡ Ok (kind, to)
      → Told (run v b s₀ (f kind (take (to - 5) (drop 5 s)))) w o → {a : Result (ℕ × ℕ) Refusal} → a ≡ piece_of to w → ToldTo (run v b s₀ (front f nothing s)) (head_end s) a o
  first-answers kind to e q g z =
      piece-answers (run v b s₀ (front f nothing s)) (head_end s) (front-alone v b s₀ f s kind to e q g) to z (head-end s kind to e q)

  module _ {a : Result (ℕ × ℕ) Refusal} {o : List ℕ} (g : ToldTo (run v b s₀ (front f nothing s)) (head_end s) a o) where
    pub first_fits : (e m : ℕ) → a ≡ Ok (e, m) → (5 ≤ e) × (e ≤ length s)
    unfolding front_at read_of_head head_place run walk_of
    first_fits = piece-within v b s₀ (front f nothing s) (head_end s) g 5 (length s) (head-end-fits s) (λ m. by-head m (head_of s))
      where
        by-head : (m : ℕ) (h : Head) → Ok m ≡ walk_of (run v b s₀ (front_at h f nothing s)) → 5 ≤ head_place (read_of_head h)
        by-head m (Head.Piece kind n) z = omega arith
        by-head m (Head.Refused r) z = let y : ◌≡◌ {A = ℕ} 0 1 = cc in absurd (omega arith)

    pub first_on : (k : Reading) (e m : ℕ) → a ≡ Ok (e, m) → run v b s₀ (front f k s) ≡ run v (b + e) (st o m) (k (take (length s - e) (drop e s)))
    first_on k = piece-on v b s₀ (front f nothing s) (head_end s) g k s (front f k s) (front-then f k s (head_of s))

    pub first_else : (k : Reading) (r : Refusal) → a ≡ Err r → Told (run v b s₀ (front f k s)) (Err r) o
    first_else k = piece-else v b s₀ (front f nothing s) (head_end s) g (shift (head_end s) (k (drop (head_end s) s))) (front f k s) (front-then f k s (head_of s))

-- 3. The list at the front

list-end : (s : List ℕ) (to : ℕ) {r : Result ℕ Refusal} → r ≡ span_reach 4 (list_of s) → r ≡ Ok to → to ≡ list_end s
unfolding reach_place
list-end s to e q = rw (← e, q)

list-end-fits : (s : List ℕ) → list_end s ≤ length s
unfolding span_reach reach_place
list-end-fits s = by_span (list_of s) refl
  where
    by_span : (x : Span) → x ≡ list_of s → reach_place (span_reach 4 x) ≤ length s
    by_span (Span.Bytes n) e = list-fits s n e refl
    by_span (Span.Refused r) e = omega arith

module _ (v : Visitor St) (b : ℕ) (s₀ : St) (f : Reader) (s : List ℕ) where
  -- so the callee answers
  pub list-answers : (to : ℕ) {r : Result ℕ Refusal} {w : Result ℕ Refusal} {o : List ℕ} → r ≡ span_reach 4 (list_of s) → r ≡ Ok to
      → Told (run v (b + 4) s₀ (records f (take (to - 4) (drop 4 s)))) w o → {a : Result (ℕ × ℕ) Refusal} → a ≡ piece_of to w → ToldTo (run v b s₀ (listed f nothing s)) (list_end s) a o
  list-answers to e q g z =
      piece-answers (run v b s₀ (listed f nothing s)) (list_end s) (sized-alone v b s₀ (records f) s to e q g) to z (list-end s to e q)

  module _ {a : Result (ℕ × ℕ) Refusal} {o : List ℕ} (g : ToldTo (run v b s₀ (listed f nothing s)) (list_end s) a o) where
    pub listed-fits : (e m : ℕ) → a ≡ Ok (e, m) → (4 ≤ e) × (e ≤ length s)
    unfolding piece_at span_reach reach_place run walk_of
    listed-fits = piece-within v b s₀ (listed f nothing s) (list_end s) g 4 (length s) (list-end-fits s) (λ m. by_span m (list_of s))
      where
        by_span : (m : ℕ) (x : Span) → Ok m ≡ walk_of (run v b s₀ (piece_at x (records f) nothing s)) → 4 ≤ reach_place (span_reach 4 x)
        by_span m (Span.Bytes n) z = omega arith
        by_span m (Span.Refused r) z = let y : ◌≡◌ {A = ℕ} 0 1 = cc in absurd (omega arith)

-- 4. The test of a branch

test-end-fits : (s : List ℕ) → test_end s ≤ length s
unfolding test_end_of
test-end-fits s = by_flag (flag_of s) refl
  where
    by_flag : (x : Result Bool Refusal) → x ≡ flag_of s → test_end_of x s ≤ length s
    by_flag (Ok false) e = off-fits s e refl
    by_flag (Ok true) e = omega (arith, on_fits s e refl, head-end-fits (drop 1 s), length-drop 1 s)
    by_flag (Err r) e = omega arith

module _ (v : Visitor St) (b : ℕ) (s₀ : St) (f : Role → Reader) (s : List ℕ) {x : Result Bool Refusal} (e : x ≡ flag_of s) where
  -- so the callee answers
  pub test-off-answers : x ≡ (Ok false) → ToldTo (run v b s₀ (tested f nothing s)) (test_end s) (Ok (1, s₀.n)) s₀.out
  unfolding tested test_end_of piece_of
  test-off-answers q =
      piece-answers (run v b s₀ (tested f nothing s)) (test_end s) {w = Ok s₀.n}
      (rw (flagged-off v b s₀ nothing (front (f Visited) nothing) s e q) (told-done v (b + 1) s₀ (nothing (take (length s - 1) (drop 1 s))) refl)) 1 refl (rw (← e, q))

  pub test-flag-refused : (r : Refusal) → x ≡ Err r → ToldTo (run v b s₀ (tested f nothing s)) (test_end s) (Err r) s₀.out
  unfolding tested
  test-flag-refused r q = piece-refused (run v b s₀ (tested f nothing s)) (test_end s) (flagged-refused v b s₀ nothing (front (f Visited) nothing) s r e q) refl

  module _ (q : x ≡ (Ok true)) {a : Result (ℕ × ℕ) Refusal} {o : List ℕ}
      (g : ToldTo (run v (b + 1) s₀ (front (f Visited) nothing (take (length s - 1) (drop 1 s)))) (head_end (take (length s - 1) (drop 1 s))) a o) where
    on-told : {w : Result ℕ Refusal} → Told (run v (b + 1) s₀ (front (f Visited) nothing (take (length s - 1) (drop 1 s)))) w o → Told (run v b s₀ (tested f nothing s)) w o
    unfolding tested
    on-told h = rw (flagged-on v b s₀ nothing (front (f Visited) nothing) s e q) h

    on-end : 1 + head_end (take (length s - 1) (drop 1 s)) ≡ test_end s
    unfolding test_end_of
    on-end = rw (← e, q, to_end 1 s)

    pub test-on-answers : (d m : ℕ) → a ≡ Ok (d, m) → ToldTo (run v b s₀ (tested f nothing s)) (test_end s) (Ok ((1 + d), m)) o
    unfolding piece_of
    test-on-answers d m z =
        let h = piece-told (run v (b + 1) s₀ (front (f Visited) nothing (take (length s - 1) (drop 1 s)))) (head_end (take (length s - 1) (drop 1 s))) g d m z in
        piece-answers (run v b s₀ (tested f nothing s)) (test_end s) (on-told h.1) (1 + d) refl (ap (λ i. 1 + i) h.0 ∙ on-end)

    pub test-on-refused : (r : Refusal) → a ≡ Err r → ToldTo (run v b s₀ (tested f nothing s)) (test_end s) a o
    test-on-refused r z =
        let h = piece-told-refused (run v (b + 1) s₀ (front (f Visited) nothing (take (length s - 1) (drop 1 s)))) (head_end (take (length s - 1) (drop 1 s))) g r z in
        piece-refused (run v b s₀ (tested f nothing s)) (test_end s) (on-told h) z

-- 5. A branch

branch-end-fits : (s : List ℕ) → branch_end s ≤ length s
branch-end-fits s = omega (arith, test-end-fits s, list-end-fits (drop (test_end s) s), length-drop (test_end s) s)

module _ (v : Visitor St) (b : ℕ) (s₀ : St) (f : Role → Reader) (s : List ℕ) where
  -- a test that went well took a byte
  test-some : (m : ℕ) (k : Reading) → Ok m ≡ walk_of (run v b s₀ (tested f k s)) → 1 ≤ test_end s
  unfolding tested flagged_at test_end_of run walk_of
  test-some m k = by_flag (flag_of s)
    where
      by_flag : (x : Result Bool Refusal) → Ok m ≡ walk_of (run v b s₀ (flagged_at x k (front (f Visited) k) s)) → 1 ≤ test_end_of x s
      by_flag (Ok false) z = omega arith
      by_flag (Ok true) z = omega arith
      by_flag (Err r) z = let y : ◌≡◌ {A = ℕ} 0 1 = cc in absurd (omega arith)

  -- so the callee answers, by what it learns of the test
  module _ {a : Result (ℕ × ℕ) Refusal} {o : List ℕ} (g : ToldTo (run v b s₀ (tested f nothing s)) (test_end s) a o) where
    pub test_fits : (e m : ℕ) → a ≡ Ok (e, m) → (1 ≤ e) × (e ≤ length s)
    test_fits = piece-within v b s₀ (tested f nothing s) (test_end s) g 1 (length s) (test-end-fits s) (λ m. test-some m nothing)

    pub branch-test-refused : (r : Refusal) → a ≡ Err r → ToldTo (run v b s₀ (branch f nothing s)) (branch_end s) a o
    branch-test-refused r z =
        piece-refused (run v b s₀ (branch f nothing s)) (branch_end s)
        (piece-else v b s₀ (tested f nothing s) (test_end s) g (shift (test_end s) (listed (f Branch) nothing (drop (test_end s) s))) (branch f nothing s) (branch-tested f nothing s) r z) z

    -- and of the list behind it
    module _ (e m : ℕ) (q : a ≡ Ok (e, m)) {c : Result (ℕ × ℕ) Refusal} {o' : List ℕ}
        (g' : ToldTo (run v (b + e) (st o m) (listed (f Branch) nothing (take (length s - e) (drop e s)))) (list_end (take (length s - e) (drop e s))) c o') where
      all_told : {w : Result ℕ Refusal} → Told (run v (b + e) (st o m) (listed (f Branch) nothing (take (length s - e) (drop e s)))) w o' → Told (run v b s₀ (branch f nothing s)) w o'
      all_told h = rw (piece-on v b s₀ (tested f nothing s) (test_end s) g (listed (f Branch) nothing) s (branch f nothing s) (branch-tested f nothing s) e m q) h

      pub branch-list-refused : (r : Refusal) → c ≡ Err r → ToldTo (run v b s₀ (branch f nothing s)) (branch_end s) c o'
      branch-list-refused r z =
          let rest = take (length s - e) (drop e s) in
          piece-refused (run v b s₀ (branch f nothing s)) (branch_end s)
          (all_told (piece-told-refused (run v (b + e) (st o m) (listed (f Branch) nothing rest)) (list_end rest) g' r z)) z

      pub branch-answers : (d n : ℕ) → c ≡ Ok (d, n) → ToldTo (run v b s₀ (branch f nothing s)) (branch_end s) (Ok ((e + d), n)) o'
      unfolding piece_of
      branch-answers d n z =
          let rest = take (length s - e) (drop e s) in
          let h = piece-told (run v b s₀ (tested f nothing s)) (test_end s) g e m q in
          let i = piece-told (run v (b + e) (st o m) (listed (f Branch) nothing rest)) (list_end rest) g' d n z in
          let there : e + d ≡ e + list_end (drop e s) = rw (i.0, to_end e s) in
          piece-answers (run v b s₀ (branch f nothing s)) (branch_end s) (all_told i.1) (e + d) refl (there ∙ ap (λ j. j + list_end (drop j s)) h.0)

  -- so its caller learns of it
  module _ {a : Result (ℕ × ℕ) Refusal} {o : List ℕ} (g : ToldTo (run v b s₀ (branch f nothing s)) (branch_end s) a o) where
    pub branch_fits : (e m : ℕ) → a ≡ Ok (e, m) → (1 ≤ e) × (e ≤ length s)
    unfolding branch
    branch_fits = piece-within v b s₀ (branch f nothing s) (branch_end s) g 1 (length s) (branch-end-fits s) (λ m z. omega (arith, test-some m (listed (f Branch) nothing) z))

    pub branch-on : (k : Reading) (e m : ℕ) → a ≡ Ok (e, m) → run v b s₀ (branch f k s) ≡ run v (b + e) (st o m) (k (take (length s - e) (drop e s)))
    branch-on k = piece-on v b s₀ (branch f nothing s) (branch_end s) g k s (branch f k s) (branch-then f k s)

    pub branch-else : (k : Reading) (r : Refusal) → a ≡ Err r → Told (run v b s₀ (branch f k s)) (Err r) o
    branch-else k = piece-else v b s₀ (branch f nothing s) (branch_end s) g (shift (branch_end s) (k (drop (branch_end s) s))) (branch f k s) (branch-then f k s)
