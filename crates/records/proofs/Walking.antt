-- The readings as the walk goes through them, the bytes at b and the state s₀. Each law has its facts as the code learns them: what a callee
-- answered and wrote, and the part that it was handed. The run goes on (-on), or is refused at the front (-refused) or inside (-else).
-- Assumes nothing.
use Rattle.std.specs.Prelude.{Result, Option, Ok, Err, Some, None, true, false, Bool}
use Rattle.std.proofs.Common.{◌≡◌, ℕ, zero, suc, ◌+◌, ◌-◌, ◌<◌, ◌≤◌, List, [], ◌∷◌, length, get_or, take, drop, sym, refl, ap, ◌∙◌, add-zero, sub-one, arith, length-take, le-ltb, lt-ltb}
use Rattle.fields.specs.declared.Refusal.{Refusal}
use Rattle.fields.specs.declared.Refusal.TheVariants.{Short, Unknown, Deep}
use Rattle.fields.specs.declared.Role.{Role}
use Rattle.fields.specs.declared.Body.{Body}
use Rattle.fields.specs.Bytes.{head_of, list_of, name_of, flag_of, span_reach, read_of_head}
use Rattle.fields.specs.Kinds.{kind_of}
use Rattle.fields.proofs.Laws.{span_to, span-refused, head-to, head-refused, to_end}
use Rattle.records.specs.Trace.{Trace, done, refuse, and_then, shift}
use Rattle.records.specs.Grammar.{Reading, Reader, front_at, front, nothing, ending, records, repeat, piece_at, piece, named_at, named, flagged_at, flagged, moded, body_of, whole, too_deep, record_of}
use Rattle.records.specs.Work.{St, st, Ran, ended, broke, Visitor, bind, run, walk_of, Written, Told, end_of}
use Rattle.records.proofs.Traces.{then-done, shift-done, run-then, run-shift}
use Rattle.records.proofs.Readings.{repeat-none, repeat-step, piece-local}

-- 1. What an answer and what was written say. `x` is the run of a part, and `k` what follows it.

pub told-ended : (x : Ran St) {w : Result ℕ Refusal} {o : List ℕ} {m : ℕ} → Told x w o → w ≡ Ok m → x ≡ ended (st o m)
unfolding walk_of Written
told-ended x {w} {o} {m} h e = by_end x h.answer h.written
  where
    by_end : (y : Ran St) → w ≡ walk_of y → Written y o → y ≡ ended (st o m)
    by_end (ended s) p q = let z : s.n ≡ m = cc in ap ended (λ i. record { out = sym q i; n = z i })
    by_end (broke s r) p q = let z : ◌≡◌ {A = ℕ} 0 1 = cc in absurd (omega arith)

bind-else : (x : Ran St) (k : St → Ran St) {w : Result ℕ Refusal} {o : List ℕ} → Told x w o → {y : Refusal} → w ≡ Err y → Told (bind x k) w o
unfolding bind walk_of Written
bind-else (ended s) k h e = let answer = h.answer in let z : ◌≡◌ {A = ℕ} 0 1 = cc in absurd (omega arith)
bind-else (broke s r) k h e = record { answer = h.answer; written = h.written }

pub told-done : (v : Visitor St) (b : ℕ) (s₀ : St) (t : Trace) → t ≡ done → Told (run v b s₀ t) (Ok s₀.n) s₀.out
unfolding run walk_of Written
told-done v b s₀ t e = rw e (record { answer = refl; written = refl })

-- 2. The bytes from the front

module _ (v : Visitor St) (b : ℕ) (s₀ : St) where
  pub told-refused : (t : Trace) (r : Refusal) → t ≡ refuse r → Told (run v b s₀ t) (Err r) s₀.out
  unfolding run walk_of Written
  told-refused t r e = rw e (record { answer = refl; written = refl })

  -- a piece, then what follows it
  pub then-on : (p q : Trace) (e m : ℕ) {w : Result ℕ Refusal} {o : List ℕ} → Told (run v b s₀ p) w o → w ≡ Ok m → run v b s₀ (and_then p (shift e q)) ≡ run v (b + e) (st o m) q
  unfolding bind
  then-on p q e m g z = rw (run-then v b s₀ p (shift e q), told-ended (run v b s₀ p) g z) (run-shift v b e (st _ m) q)

  pub then-else : (p q : Trace) {w : Result ℕ Refusal} {o : List ℕ} → Told (run v b s₀ p) w o → {x : Refusal} → w ≡ Err x → Told (run v b s₀ (and_then p q)) w o
  then-else p q g e = rw (run-then v b s₀ p q) (bind-else (run v b s₀ p) (λ u. run v b u q) g e)

  -- a record
  pub front-refused : (f : Reader) (k : Reading) (s : List ℕ) (x : Refusal) {r : Result (ℕ × ℕ) Refusal} → r ≡ read_of_head (head_of s) → r ≡ Err x
      → Told (run v b s₀ (front f k s)) (Err x) s₀.out
  unfolding front_at
  front-refused f k s x e q = told-refused (front f k s) x (rw (head-refused (head_of s) e x q))

  front-at : (f : Reader) (k : Reading) (s : List ℕ) (kind to : ℕ) {r : Result (ℕ × ℕ) Refusal} → r ≡ read_of_head (head_of s) → r ≡ Ok (kind, to)
      → front f k s ≡ and_then (f kind (take (to - 5) (drop 5 s))) (shift to (k (drop to s)))
  unfolding front_at
  front-at f k s kind to e q = let h = head-to (head_of s) e kind to q in rw (h.0, h.1)

  pub front-on : (f : Reader) (k : Reading) (s : List ℕ) (kind to m : ℕ) {r : Result (ℕ × ℕ) Refusal} {w : Result ℕ Refusal} {o : List ℕ} → r ≡ read_of_head (head_of s) → r ≡ Ok (kind, to)
      → Told (run v b s₀ (f kind (take (to - 5) (drop 5 s)))) w o → w ≡ Ok m
      → run v b s₀ (front f k s) ≡ run v (b + to) (st o m) (k (take (length s - to) (drop to s)))
  front-on f k s kind to m e q g z =
      rw (to_end to s, front-at f k s kind to e q) (then-on (f kind (take (to - 5) (drop 5 s))) (k (drop to s)) to m g z)

  -- a refusal inside it is the whole's
  pub front-else : (f : Reader) (k : Reading) (s : List ℕ) (kind to : ℕ) {r : Result (ℕ × ℕ) Refusal} {w : Result ℕ Refusal} {o : List ℕ} → r ≡ read_of_head (head_of s) → r ≡ Ok (kind, to)
      → Told (run v b s₀ (f kind (take (to - 5) (drop 5 s)))) w o → {x : Refusal} → w ≡ Err x
      → Told (run v b s₀ (front f k s)) w o
  front-else f k s kind to e q g z =
      rw (front-at f k s kind to e q) (then-else (f kind (take (to - 5) (drop 5 s))) (shift to (k (drop to s))) g z)

  -- the record alone
  pub front-alone : (f : Reader) (s : List ℕ) (kind to : ℕ) {r : Result (ℕ × ℕ) Refusal} {w : Result ℕ Refusal} {o : List ℕ} → r ≡ read_of_head (head_of s) → r ≡ Ok (kind, to)
      → Told (run v b s₀ (f kind (take (to - 5) (drop 5 s)))) w o → Told (run v b s₀ (front f nothing s)) w o
  front-alone f s kind to e q g = rw (front-at f nothing s kind to e q, shift-done to, then-done (f kind (take (to - 5) (drop 5 s)))) g

  -- a piece behind its length, read by g
  pub sized-refused : (g k : Reading) (s : List ℕ) (x : Refusal) {r : Result ℕ Refusal} → r ≡ span_reach 4 (list_of s) → r ≡ Err x
      → Told (run v b s₀ (piece g k s)) (Err x) s₀.out
  unfolding piece_at
  sized-refused g k s x e q = told-refused (piece g k s) x (rw (span-refused 4 (list_of s) e x q))

  sized-at : (g k : Reading) (s : List ℕ) (to : ℕ) {r : Result ℕ Refusal} → r ≡ span_reach 4 (list_of s) → r ≡ Ok to
      → piece g k s ≡ and_then (shift 4 (g (take (to - 4) (drop 4 s)))) (shift to (k (drop to s)))
  unfolding piece_at
  sized-at g k s to e q = let h = span_to 4 (list_of s) e to q in rw (h.0, h.1)

  in-sized : (g : Reading) (s : List ℕ) (to : ℕ) {w : Result ℕ Refusal} {o : List ℕ} → Told (run v (b + 4) s₀ (g (take (to - 4) (drop 4 s)))) w o
      → Told (run v b s₀ (shift 4 (g (take (to - 4) (drop 4 s))))) w o
  in-sized g s to h = rw (run-shift v b 4 s₀ (g (take (to - 4) (drop 4 s)))) h

  pub sized_on : (g k : Reading) (s : List ℕ) (to m : ℕ) {r : Result ℕ Refusal} {w : Result ℕ Refusal} {o : List ℕ} → r ≡ span_reach 4 (list_of s) → r ≡ Ok to
      → Told (run v (b + 4) s₀ (g (take (to - 4) (drop 4 s)))) w o → w ≡ Ok m
      → run v b s₀ (piece g k s) ≡ run v (b + to) (st o m) (k (take (length s - to) (drop to s)))
  sized_on g k s to m e q h z =
      rw (to_end to s, sized-at g k s to e q) (then-on (shift 4 (g (take (to - 4) (drop 4 s)))) (k (drop to s)) to m (in-sized g s to h) z)

  pub sized-else : (g k : Reading) (s : List ℕ) (to : ℕ) {r : Result ℕ Refusal} {w : Result ℕ Refusal} {o : List ℕ} → r ≡ span_reach 4 (list_of s) → r ≡ Ok to
      → Told (run v (b + 4) s₀ (g (take (to - 4) (drop 4 s)))) w o → {x : Refusal} → w ≡ Err x
      → Told (run v b s₀ (piece g k s)) w o
  sized-else g k s to e q h z =
      rw (sized-at g k s to e q) (then-else (shift 4 (g (take (to - 4) (drop 4 s)))) (shift to (k (drop to s))) (in-sized g s to h) z)

  -- the piece alone
  pub sized-alone : (g : Reading) (s : List ℕ) (to : ℕ) {r : Result ℕ Refusal} {w : Result ℕ Refusal} {o : List ℕ} → r ≡ span_reach 4 (list_of s) → r ≡ Ok to
      → Told (run v (b + 4) s₀ (g (take (to - 4) (drop 4 s)))) w o → Told (run v b s₀ (piece g nothing s)) w o
  sized-alone g s to e q h = rw (sized-at g nothing s to e q, shift-done to, then-done (shift 4 (g (take (to - 4) (drop 4 s))))) (in-sized g s to h)

  -- such pieces to the end
  module _ (g : Reading) (s : List ℕ) where
    pub pieces_none : length s ≤ 0 → Told (run v b s₀ (repeat (piece g) s)) (Ok s₀.n) s₀.out
    pieces_none none = told-done v b s₀ (repeat (piece g) s) (repeat-none (piece g) s none)

    module _ (some : 0 < length s) {r : Result ℕ Refusal} (e : r ≡ span_reach 4 (list_of s)) where
      pub pieces-refused : (x : Refusal) → r ≡ Err x → Told (run v b s₀ (repeat (piece g) s)) (Err x) s₀.out
      pieces-refused x q = rw (repeat-step (piece g) (piece-local g) s some) (sized-refused g (repeat (piece g)) s x e q)

      module _ (to : ℕ) {w : Result ℕ Refusal} {o : List ℕ} (q : r ≡ Ok to) (h : Told (run v (b + 4) s₀ (g (take (to - 4) (drop 4 s)))) w o) where
        pub pieces-on : (m : ℕ) → w ≡ Ok m → run v b s₀ (repeat (piece g) s) ≡ run v (b + to) (st o m) (repeat (piece g) (take (length s - to) (drop to s)))
        pieces-on m z = rw (repeat-step (piece g) (piece-local g) s some) (sized_on g (repeat (piece g)) s to m e q h z)

        pub pieces-else : {x : Refusal} → w ≡ Err x → Told (run v b s₀ (repeat (piece g) s)) w o
        pieces-else z = rw (repeat-step (piece g) (piece-local g) s some) (sized-else g (repeat (piece g)) s to e q h z)

  -- a name
  pub named-refused : (k : Reading) (s : List ℕ) (x : Refusal) {r : Result ℕ Refusal} → r ≡ span_reach 1 (name_of s) → r ≡ Err x
      → Told (run v b s₀ (named k s)) (Err x) s₀.out
  unfolding named_at
  named-refused k s x e q = told-refused (named k s) x (rw (span-refused 1 (name_of s) e x q))

  pub named-on : (k : Reading) (s : List ℕ) (to : ℕ) {r : Result ℕ Refusal} → r ≡ span_reach 1 (name_of s) → r ≡ Ok to
      → run v b s₀ (named k s) ≡ run v (b + to) s₀ (k (take (length s - to) (drop to s)))
  unfolding named_at
  named-on k s to e q =
      let h = span_to 1 (name_of s) e to q in
      rw (to_end to s, h.0, h.1) (run-shift v b to s₀ (k (drop to s)))

  -- a name, and no record after it
  pub named_none : (f : Reader) (s : List ℕ) (to : ℕ) {r : Result ℕ Refusal} → r ≡ span_reach 1 (name_of s) → r ≡ Ok to → to ≡ length s
      → Told (run v b s₀ (named (records f) s)) (Ok s₀.n) s₀.out
  named_none f s to e q z =
      let rest = take (length s - to) (drop to s) in
      rw (named-on (records f) s to e q)
      (told-done v (b + to) s₀ (records f rest) (repeat-none (front f) rest (omega (arith, length-take (length s - to) (drop to s), z))))

  -- a flag
  pub flagged-refused : (j k : Reading) (s : List ℕ) (x : Refusal) {r : Result Bool Refusal} → r ≡ flag_of s → r ≡ Err x → Told (run v b s₀ (flagged j k s)) (Err x) s₀.out
  unfolding flagged_at
  flagged-refused j k s x e q = told-refused (flagged j k s) x (rw (← e, q))

  pub flagged-off : (j k : Reading) (s : List ℕ) {r : Result Bool Refusal} → r ≡ flag_of s → r ≡ (Ok false) → run v b s₀ (flagged j k s) ≡ run v (b + 1) s₀ (j (take (length s - 1) (drop 1 s)))
  unfolding flagged_at
  flagged-off j k s e q = rw (to_end 1 s, ← e, q) (run-shift v b 1 s₀ (j (drop 1 s)))

  pub flagged-on : (j k : Reading) (s : List ℕ) {r : Result Bool Refusal} → r ≡ flag_of s → r ≡ (Ok true) → run v b s₀ (flagged j k s) ≡ run v (b + 1) s₀ (k (take (length s - 1) (drop 1 s)))
  unfolding flagged_at
  flagged-on j k s e q = rw (to_end 1 s, ← e, q) (run-shift v b 1 s₀ (k (drop 1 s)))

  -- a flag that decides nothing
  pub flagged-same : (k : Reading) (s : List ℕ) (x : Bool) {r : Result Bool Refusal} → r ≡ flag_of s → r ≡ Ok x → run v b s₀ (flagged k k s) ≡ run v (b + 1) s₀ (k (take (length s - 1) (drop 1 s)))
  flagged-same k s false e q = flagged-off k k s e q
  flagged-same k s true e q = flagged-on k k s e q

  -- a mode
  pub moded-short : (k : Reading) (s : List ℕ) → length s ≤ 0 → Told (run v b s₀ (moded k s)) (Err Short) s₀.out
  unfolding moded
  moded-short k [] p = told-refused (refuse Short) Short refl
  moded-short k (x ∷ s) p = absurd (omega arith)

  pub moded-on : (k : Reading) (s : List ℕ) → 0 < length s → get_or s 0 0 < 4 → run v b s₀ (moded k s) ≡ run v (b + 1) s₀ (k (take (length s - 1) (drop 1 s)))
  unfolding moded
  moded-on k [] p e = absurd (omega arith)
  moded-on k (x ∷ s) p e = rw (to_end 1 (x ∷ s), lt-ltb x 4 e) (run-shift v b 1 s₀ (k s))

  pub moded-no : (k : Reading) (s : List ℕ) → 0 < length s → 4 ≤ get_or s 0 0 → Told (run v b s₀ (moded k s)) (Err Unknown) s₀.out
  unfolding moded
  moded-no k [] p e = absurd (omega arith)
  moded-no k (x ∷ s) p e = rw (le-ltb x 4 e) (told-refused (refuse Unknown) Unknown refl)

  -- the end, as `at_end` answers
  pub told-end : (s : List ℕ) {w : Result ℕ Refusal} → w ≡ end_of s₀.n s → Told (run v b s₀ (ending s)) w s₀.out
  unfolding end_of ending
  told-end [] e = rw e (told-done v b s₀ done refl)
  told-end (x ∷ s) e = rw e (told-refused (refuse Short) Short refl)

  -- a record of a known kind: noted, then its payload
  whole_run : (c : Body) (f : Role → Reader) (role : Role) (kind : ℕ) (s : List ℕ)
      → run v b s₀ (whole (Some c) f role kind s) ≡ run v (b + 5) (v s₀ role kind b s) (body_of c f s)
  unfolding run whole
  whole_run c f role kind s =
      run-shift v b 5 (v s₀ role kind (b + 0) s) (body_of c f s)
      ∙ ap (λ p. run v (b + 5) (v s₀ role kind p s) (body_of c f s)) (add-zero b)

  record-step : (left : ℕ) (role : Role) (kind : ℕ) (s : List ℕ) (c : Body) {r : Option Body} → r ≡ kind_of role kind → r ≡ Some c → (left ≡ 0 → ⊥)
      → record_of left role kind s ≡ whole (Some c) (record_of (left - 1)) role kind s
  unfolding record_of
  record-step zero role kind s c e q p = absurd (p refl)
  record-step (suc left) role kind s c e q p = rw (sub-one (suc left), ← e, q)

  pub record-none : (left : ℕ) (role : Role) (kind : ℕ) (s : List ℕ) {r : Option Body} → r ≡ kind_of role kind → r ≡ None
      → Told (run v b s₀ (record_of left role kind s)) (Err Unknown) s₀.out
  unfolding record_of too_deep whole
  record-none zero role kind s e q = rw (← e, q) (told-refused (refuse Unknown) Unknown refl)
  record-none (suc left) role kind s e q = rw (← e, q) (told-refused (refuse Unknown) Unknown refl)

  pub record-deep : (left : ℕ) (role : Role) (kind : ℕ) (s : List ℕ) (c : Body) {r : Option Body} → r ≡ kind_of role kind → r ≡ Some c → left ≡ 0
      → Told (run v b s₀ (record_of left role kind s)) (Err Deep) s₀.out
  unfolding record_of too_deep
  record-deep left role kind s c e q p = rw (p, ← e, q) (told-refused (refuse Deep) Deep refl)

  pub record-on : (left : ℕ) (role : Role) (kind : ℕ) (s : List ℕ) (c : Body) {r : Option Body} {u : St} → r ≡ kind_of role kind → r ≡ Some c → (left ≡ 0 → ⊥)
      → u ≡ v s₀ role kind b s
      → run v b s₀ (record_of left role kind s) ≡ run v (b + 5) u (body_of c (record_of (left - 1)) s)
  record-on left role kind s c e q p g = rw (record-step left role kind s c e q p, g) (whole_run c (record_of (left - 1)) role kind s)

-- 3. What `at_end` answers

pub end_none : (n : ℕ) (s : List ℕ) → length s ≤ 0 → Ok n ≡ end_of n s
unfolding end_of
end_none n [] p = refl
end_none n (x ∷ s) p = absurd (omega arith)

pub end-some : (n : ℕ) (s : List ℕ) → 0 < length s → Err Short ≡ end_of n s
unfolding end_of
end-some n [] p = absurd (omega arith)
end-some n (x ∷ s) p = refl
