-- Nodes that leave, and the bit for it in the number of a choice, which is kept before its nodes are read. Assumes nothing.
use Rattle.std.specs.Prelude.{Result, Ok}
use Rattle.fields.specs.declared.Refusal.{Refusal}
use Rattle.std.proofs.Common.{◌≡◌, ℕ, zero, suc, ◌+◌, ◌-◌, ◌%◌, ◌^◌, ◌<◌, ◌≤◌, Bool, true, false, eqb, List, [], ◌∷◌, length, get_or, take, drop, set, sym, refl, ap, ◌∙◌, arith, length-drop, length-set, get_or-set_other}
use lib.Seq.{set_comm}
use Rattle.fields.specs.declared.Body.{Body}
use Rattle.fields.specs.Bytes.{Head, pick, head_of, read_of_head}
use Rattle.fields.proofs.Laws.{head-to, to_end}
use Rattle.records.specs.Trace.{Trace, done, refuse, emit, met}
use Rattle.records.specs.Grammar.{body_of, record_of}
use Rattle.records.specs.declared.sorts.Sort.TheVariants.{Plain as plain}
use Rattle.records.specs.Items.{is, Item, item_of, leaving, ending_at, ending_n, end_with_divert}
use Rattle.records.specs.Numbers.{number_of}
use Rattle.records.specs.Work.{Ran, ended, broke, St, st, run, keep, keeping, last_slot, leaves_at, put_leaves}
use Rattle.records.proofs.Places.{payload-count}

-- 1. The last node that is no Newline

-- as many records as there are bytes are enough
enough : (n m : ℕ) (sofar : Bool) (s : List ℕ) → length s ≤ n → length s ≤ m → ending_n n sofar s ≡ ending_n m sofar s
unfolding ending_n ending_at head_of
enough zero zero sofar s p q = refl
enough zero (suc m) sofar [] p q = refl
enough zero (suc m) sofar (x ∷ s) p q = absurd (omega arith)
enough (suc n) zero sofar [] p q = refl
enough (suc n) zero sofar (x ∷ s) p q = absurd (omega arith)
enough (suc n) (suc m) sofar s p q =
    by-head (head_of s) (λ after a. enough n m after (drop (5 + a) s) (omega (arith, length-drop (5 + a) s)) (omega (arith, length-drop (5 + a) s)))
  where
    by-head : (h : Head) → ((after : Bool) (a : ℕ) → ending_n n after (drop (5 + a) s) ≡ ending_n m after (drop (5 + a) s))
        → ending_at h (ending_n n) sofar s ≡ ending_at h (ending_n m) sofar s
    by-head (Head.Piece kind a) rest = rest (pick (eqb kind 1) sofar (leaving kind)) a
    by-head (Head.Refused x) rest = refl

-- the rest decides, where so far the last record leaves or not (a record, so that all is found at each use)
pub record Left (s : List ℕ) (sofar : Bool) (rest : List ℕ) : Type 0 where
  pub decides : end_with_divert s ≡ ending_n (length rest) sofar rest

pub left-start : (s : List ℕ) → Left s false s
unfolding end_with_divert
left-start s = record { decides = refl }

-- no record more
pub left_end : {s : List ℕ} {sofar : Bool} {rest : List ℕ} → Left s sofar rest → length rest ≤ 0 → sofar ≡ end_with_divert s
unfolding ending_n
left_end {sofar = sofar} {rest = []} left p = sym left.decides
left_end {rest = x ∷ rest} left p = absurd (omega arith)

-- a record more
module _ {s : List ℕ} {sofar : Bool} {rest : List ℕ} (left : Left s sofar rest) {h : Result (ℕ × ℕ) Refusal} (read : h ≡ read_of_head (head_of rest)) where
  one_more : (kind to n : ℕ) → h ≡ Ok (kind, to) → ending_n (suc n) sofar rest ≡ ending_n n (pick (eqb kind 1) sofar (leaving kind)) (drop to rest)
  unfolding ending_n ending_at
  one_more kind to n e =
      let piece = head-to (head_of rest) read kind to e in
      rw piece.0 (ap (λ i. ending_n n (pick (eqb kind 1) sofar (leaving kind)) (drop i rest)) piece.1)

  pub left-next : (kind to : ℕ) → h ≡ Ok (kind, to) → {after : Bool} → after ≡ pick (eqb kind 1) sofar (leaving kind)
      → Left s after (take (length rest - to) (drop to rest))
  left-next kind to e l = record {
    decides =
        left.decides
        ∙ enough (length rest) (suc (length rest)) sofar rest (omega arith) (omega arith)
        ∙ one_more kind to (length rest) e
        ∙ rw (l, to_end to rest) (enough (length rest) (length (drop to rest)) (pick (eqb kind 1) sofar (leaving kind)) (drop to rest) (omega (arith, length-drop to rest)) (omega arith));
  }

-- 2. The bit in a slot, and a walk that writes into others

leaves-set : (slot other x : ℕ) (out : List ℕ) → (slot ≡ other → ⊥) → leaves_at slot (set out other x) ≡ set (leaves_at slot out) other x
unfolding leaves_at
leaves-set slot other x out h =
    rw (get_or-set_other out other slot x 0 h) (set_comm out other slot x ((get_or out slot 0 + 67108864) % 2 ^ 32) (λ e. h (sym e)))

-- the run, its buffer changed at the end
unfoldable pub on_out : (List ℕ → List ℕ) → Ran St → Ran St
on_out f (ended s) = ended (st (f s.out) s.n)
on_out f (broke s r) = broke (st (f s.out) s.n) r

-- the slot is none of the first c from that of the counts n on
abbrev Apart : ℕ → ℕ → ℕ → Type 0
Apart slot n c = (i : ℕ) → i < c → slot ≡ (n + i) % 4294967296 → ⊥

slot-met : (n i : ℕ) → ((n + 4294967296) % 2 ^ 64 + i) % 4294967296 ≡ (n + i) % 4294967296
slot-met n i = omega arith

slot_kept : (n i : ℕ) → ((n + 4294967297) % 2 ^ 64 + i) % 4294967296 ≡ (n + suc i) % 4294967296
slot_kept n i = omega arith

-- in such a slot the bit may as well be put afterwards
run-leaves-at : (b slot : ℕ) (t : Trace) (out : List ℕ) (n : ℕ) → Apart slot n (length (met b t))
    → run keeping b (st (leaves_at slot out) n) t ≡ on_out (leaves_at slot) (run keeping b (st out n) t)
unfolding run met on_out keeping keep
run-leaves-at b slot done out n p = refl
run-leaves-at b slot (refuse r) out n p = refl
run-leaves-at b slot (emit role kind place bs t) out n p =
    by-test (is plain item.what)
    (run-leaves-at b slot t out ((n + 4294967296) % 2 ^ 64) (λ i h e. p i (omega arith) (e ∙ slot-met n i)))
    (run-leaves-at b slot t (set out (n % 4294967296) (number_of item)) ((n + 4294967297) % 2 ^ 64) (λ i h e. p (suc i) (omega arith) (e ∙ slot_kept n i)))
  where
    item : Item
    item = item_of (record { role = role; kind = kind; place = b + place; payload = bs })

    there : leaves_at slot (set out (n % 4294967296) (number_of item)) ≡ set (leaves_at slot out) (n % 4294967296) (number_of item)
    there = leaves-set slot (n % 4294967296) (number_of item) out (λ e. p 0 (omega arith) (omega (arith, e)))

    by-test : (x : Bool)
        → run keeping b (st (leaves_at slot out) ((n + 4294967296) % 2 ^ 64)) t ≡ on_out (leaves_at slot) (run keeping b (st out ((n + 4294967296) % 2 ^ 64)) t)
        → run keeping b (st (leaves_at slot (set out (n % 4294967296) (number_of item))) ((n + 4294967297) % 2 ^ 64)) t
        ≡ on_out (leaves_at slot) (run keeping b (st (set out (n % 4294967296) (number_of item)) ((n + 4294967297) % 2 ^ 64)) t)
        → run keeping b (pick x (st (leaves_at slot out) ((n + 4294967296) % 2 ^ 64)) (st (set (leaves_at slot out) (n % 4294967296) (number_of item)) ((n + 4294967297) % 2 ^ 64))) t
        ≡ on_out (leaves_at slot) (run keeping b (pick x (st out ((n + 4294967296) % 2 ^ 64)) (st (set out (n % 4294967296) (number_of item)) ((n + 4294967297) % 2 ^ 64))) t)
    by-test true g h = g
    by-test false g h = ap (λ (o : List ℕ). run keeping b (st o ((n + 4294967297) % 2 ^ 64)) t) (sym there) ∙ h

-- 3. The bit in the number that was kept last, and the payload behind it

last_apart : (n c : ℕ) → c ≤ 1048576 → Apart (last_slot n) n c
unfolding last_slot
last_apart n c h i p e = omega (arith, e)

same-run : (n : ℕ) (x : Ran St) → x ≡ on_out (put_leaves false n) x
unfolding on_out put_leaves
same-run n (ended s) = refl
same-run n (broke s r) = refl

pub run-put-leaves : (leaves : Bool) (b n left : ℕ) (c : Body) (s out : List ℕ) → length s ≤ 1048576
    → run keeping b (st (put_leaves leaves n out) n) (body_of c (record_of left) s) ≡ on_out (put_leaves leaves n) (run keeping b (st out n) (body_of c (record_of left) s))
unfolding put_leaves
run-put-leaves true b n left c s out h =
    let t = body_of c (record_of left) s in
    run-leaves-at b (last_slot n) t out n (last_apart n (length (met b t)) (omega (arith, payload-count left b c s)))
run-put-leaves false b n left c s out h = same-run n (run keeping b (st out n) (body_of c (record_of left) s))

pub put-leaves-length : (leaves : Bool) (n : ℕ) (out : List ℕ) → length (put_leaves leaves n out) ≡ length out
unfolding put_leaves leaves_at
put-leaves-length true n out = length-set out (last_slot n) ((get_or out (last_slot n) 0 + 67108864) % 2 ^ 32)
put-leaves-length false n out = refl
