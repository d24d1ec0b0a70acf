-- Laws of readings: pieces to the end, and a piece with what follows it. Assumes nothing.
use Rattle.std.specs.Prelude.{Result, Ok, Err, true, false, Bool}
use Rattle.fields.specs.declared.Refusal.{Refusal}
use Rattle.std.proofs.Common.{◌≡◌, ℕ, zero, suc, ◌+◌, ◌-◌, ◌<◌, ◌≤◌, List, [], ◌∷◌, length, take, drop, sym, refl, ap, sub-one, arith, length-drop, drop-drop}
use Rattle.fields.specs.declared.Role.{Role}
use Rattle.fields.specs.declared.Role.TheVariants.{Branch, Visited}
use Rattle.fields.specs.Bytes.{Head, Span, head_of, read_of_head, list_of, span_reach, flag_of}
use Rattle.records.specs.Trace.{done, and_then, shift}
use Rattle.records.specs.Grammar.{Reading, Reader, front_at, front, nothing, repeat_n, repeat, exact, ending, records, piece_at, piece, listed, flagged_at, tested, branch}
use Rattle.records.specs.Work.{head_place, head_end, reach_place, list_end, test_end_of, test_end, branch_end}
use Rattle.records.proofs.Traces.{shift-then, shift-shift, then-assoc, then-done, done-then, refuse-then, shift-done}

-- 1. Pieces to the end

-- g looks at what it is given only where bytes are gone
unfoldable pub Local : (Reading → Reading) → Type 0
Local g = (s : List ℕ) (j k : Reading) → ((a : ℕ) → 0 < a → j (drop a s) ≡ k (drop a s)) → g j s ≡ g k s

pub front-local : (f : Reader) → Local (front f)
unfolding Local front_at
front-local f s j k e = by-head (head_of s)
  where
    by-head : (h : Head) → front_at h f j s ≡ front_at h f k s
    by-head (Head.Piece kind n) = rw (e (5 + n) (omega arith))
    by-head (Head.Refused x) = refl

pub piece-local : (g : Reading) → Local (piece g)
unfolding Local piece_at
piece-local g s j k e = by_span (list_of s)
  where
    by_span : (h : Span) → piece_at h g j s ≡ piece_at h g k s
    by_span (Span.Bytes n) = rw (e (4 + n) (omega arith))
    by_span (Span.Refused x) = refl

pub branch-local : (f : Role → Reader) → Local (branch f)
unfolding Local branch tested flagged_at
branch-local f s j k e = by_flag (flag_of s)
  where
    in_list : (a : ℕ) → listed (f Branch) j (drop a (drop 1 s)) ≡ listed (f Branch) k (drop a (drop 1 s))
    in_list a = piece-local (records (f Branch)) (drop a (drop 1 s)) j k (λ c h. rw (drop-drop a 1 s, drop-drop c (1 + a) s) (e (1 + a + c) (omega arith)))

    by_flag : (x : Result Bool Refusal) → flagged_at x (listed (f Branch) j) (front (f Visited) (listed (f Branch) j)) s
        ≡ flagged_at x (listed (f Branch) k) (front (f Visited) (listed (f Branch) k)) s
    by_flag (Ok false) = ap (shift 1) (in_list 0)
    by_flag (Ok true) = ap (shift 1) (front-local (f Visited) (drop 1 s) (listed (f Branch) j) (listed (f Branch) k) (λ a h. in_list a))
    by_flag (Err r) = refl

-- as many pieces as there are bytes are enough
enough : (g : Reading → Reading) → Local g → (n m : ℕ) (s : List ℕ) → length s ≤ n → length s ≤ m → repeat_n n g s ≡ repeat_n m g s
unfolding repeat_n Local
enough g l zero zero s p q = refl
enough g l zero (suc m) [] p q = refl
enough g l zero (suc m) (x ∷ s) p q = absurd (omega arith)
enough g l (suc n) zero [] p q = refl
enough g l (suc n) zero (x ∷ s) p q = absurd (omega arith)
enough g l (suc n) (suc m) [] p q = refl
enough g l (suc n) (suc m) (x ∷ s) p q =
    l (x ∷ s) (repeat_n n g) (repeat_n m g) (λ a h. enough g l n m (drop a (x ∷ s)) (omega (arith, length-drop a (x ∷ s))) (omega (arith, length-drop a (x ∷ s))))

pub repeat-none : (g : Reading → Reading) (s : List ℕ) → length s ≤ 0 → repeat g s ≡ done
unfolding repeat repeat_n
repeat-none g [] p = refl
repeat-none g (x ∷ s) p = absurd (omega arith)

-- the first piece, then the others
pub repeat-step : (g : Reading → Reading) → Local g → (s : List ℕ) → 0 < length s → repeat g s ≡ g (repeat g) s
unfolding repeat repeat_n Local
repeat-step g l [] p = absurd (omega arith)
repeat-step g l (x ∷ s) p =
    l (x ∷ s) (repeat_n (length s) g) (repeat g) (λ a h. enough g l (length s) (length (drop a (x ∷ s))) (drop a (x ∷ s)) (omega (arith, length-drop a (x ∷ s))) (omega arith))

-- 2. So many records

pub exact-step : (many : ℕ) (f : Reader) (s : List ℕ) → (many ≡ 0 → ⊥) → exact many f s ≡ front f (exact (many - 1) f) s
unfolding exact
exact-step zero f s p = absurd (p refl)
exact-step (suc many) f s p = rw (sub-one (suc many))

pub exact-end : (many : ℕ) (f : Reader) (s : List ℕ) → many ≡ 0 → exact many f s ≡ ending s
unfolding exact
exact-end many f s e = rw e

-- 3. A piece, and what follows it

pub front-then : (f : Reader) (k : Reading) (s : List ℕ) (h : Head) → front_at h f k s ≡ and_then (front_at h f nothing s) (shift (head_place (read_of_head h)) (k (drop (head_place (read_of_head h)) s)))
unfolding front_at read_of_head head_place
front-then f k s (Head.Piece kind n) = rw (shift-done (5 + n), then-done (f kind (take n (drop 5 s))))
front-then f k s (Head.Refused r) = sym (refuse-then r (shift 0 (k (drop 0 s))))

piece_then : (g k : Reading) (s : List ℕ) (x : Span) → piece_at x g k s ≡ and_then (piece_at x g nothing s) (shift (reach_place (span_reach 4 x)) (k (drop (reach_place (span_reach 4 x)) s)))
unfolding piece_at span_reach reach_place
piece_then g k s (Span.Bytes n) = rw (shift-done (4 + n), then-done (shift 4 (g (take n (drop 4 s)))))
piece_then g k s (Span.Refused r) = sym (refuse-then r (shift 0 (k (drop 0 s))))

-- the test of a branch, then the rest
tested-then : (f : Role → Reader) (k : Reading) (s : List ℕ) → tested f k s ≡ and_then (tested f nothing s) (shift (test_end s) (k (drop (test_end s) s)))
unfolding tested flagged_at test_end_of
tested-then f k s = by_flag (flag_of s)
  where
    by_flag : (x : Result Bool Refusal) → flagged_at x k (front (f Visited) k) s
        ≡ and_then (flagged_at x nothing (front (f Visited) nothing) s) (shift (test_end_of x s) (k (drop (test_end_of x s) s)))
    by_flag (Ok false) = rw (shift-done 1) (sym (done-then (shift 1 (k (drop 1 s)))))
    by_flag (Ok true) =
        let n = head_end (drop 1 s) in
        rw (front-then (f Visited) k (drop 1 s) (head_of (drop 1 s)), shift-then 1 (front (f Visited) nothing (drop 1 s)) (shift n (k (drop n (drop 1 s)))), shift-shift 1 n (k (drop n (drop 1 s))), drop-drop n 1 s)
    by_flag (Err r) = sym (refuse-then r (shift 0 (k (drop 0 s))))

-- a branch is its test, then its list and the rest
pub branch-tested : (f : Role → Reader) (k : Reading) (s : List ℕ) → branch f k s ≡ and_then (tested f nothing s) (shift (test_end s) (listed (f Branch) k (drop (test_end s) s)))
unfolding branch
branch-tested f k s = tested-then f (listed (f Branch) k) s

pub branch-then : (f : Role → Reader) (k : Reading) (s : List ℕ) → branch f k s ≡ and_then (branch f nothing s) (shift (branch_end s) (k (drop (branch_end s) s)))
branch-then f k s =
    let t = test_end s in
    let rest = drop t s in
    let l = list_end rest in
    let one = tested f nothing s in
    let two = listed (f Branch) nothing rest in
    rw (branch-tested f k s, branch-tested f nothing s, piece_then (records (f Branch)) k rest (list_of rest), shift-then t two (shift l (k (drop l rest))), shift-shift t l (k (drop l rest)), drop-drop l t s)
    (sym (then-assoc one (shift t two) (shift (t + l) (k (drop (t + l) s)))))
