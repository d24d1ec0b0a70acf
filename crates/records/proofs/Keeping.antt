-- What a walk keeps: it counts the records that it meets and those that are not plain, and writes the numbers of these. Assumes nothing.
use Rattle.std.specs.Prelude.{Result}
use Rattle.fields.specs.declared.Refusal.{Refusal}
use Rattle.std.proofs.Common.{◌≡◌, ℕ, zero, suc, ◌+◌, ◌%◌, ◌^◌, ◌<◌, ◌≤◌, Bool, true, false, List, [], ◌∷◌, length, set, refl, ap, ◌∙◌, subst, add-zero, arith, length-set, take-append-drop, take_all}
use Rattle.fields.specs.declared.Role.{Role}
use Rattle.fields.specs.Bytes.{pick}
use Rattle.records.specs.Trace.{Trace, done, refuse, emit, met, Ending, well, refused, ends}
use Rattle.records.specs.declared.sorts.Sort.TheVariants.{Plain as plain}
use Rattle.records.specs.Items.{is, Item, item_of}
use Rattle.records.specs.Numbers.{number_of, kept_numbers}
use Rattle.records.specs.Buffers.{fill}
use Rattle.records.specs.Work.{Ran, ended, broke, St, st, run, counts, keep, keeping, walk_of, Written, Told, walked, items_of, Walked}

-- 1. Numbers in a buffer from slot k on

fill_none : (k : ℕ) (out : List ℕ) → fill k [] out ≡ out
unfolding fill
fill_none k out = rw (add-zero k, take-append-drop k out) (take_all (length out) out (omega arith))

-- one number in its slot, then the others
fill-next : (k x : ℕ) (xs out : List ℕ) → fill k (x ∷ xs) out ≡ fill (suc k) xs (set out k x)
unfolding fill
fill-next k x xs [] = refl
fill-next zero x xs (y ∷ out) =
    let e : 0 + suc (length xs) ≡ suc (length xs) = omega arith in let f : 1 + length xs ≡ suc (length xs) = omega arith in rw (e, f)
fill-next (suc k) x xs (y ∷ out) =
    let e : suc k + suc (length xs) ≡ suc (k + suc (length xs)) = omega arith in
    let f : suc (suc k) + length xs ≡ suc (suc k + length xs) = omega arith in
    rw (e, f) (ap (λ (l : List ℕ). y ∷ l) (fill-next k x xs out))

-- 2. The counts

module _ (k m : ℕ) where
  slot_of : k < 4294967296 → counts k m % 4294967296 ≡ k
  unfolding counts
  slot_of p = omega arith

  met-more : k < 4294967296 → suc m < 4294967296 → (counts k m + 4294967296) % 2 ^ 64 ≡ counts k (suc m)
  unfolding counts
  met-more p q = omega arith

  kept_more : suc k < 4294967296 → suc m < 4294967296 → (counts k m + 4294967297) % 2 ^ 64 ≡ counts (suc k) (suc m)
  unfolding counts
  kept_more p q = omega arith

-- one item
keep-step : (out : List ℕ) (k m : ℕ) (i : Item) → suc k < 4294967296 → suc m < 4294967296
    → keep (st out (counts k m)) i ≡ pick (is plain i.what) (st out (counts k (suc m))) (st (set out k (number_of i)) (counts (suc k) (suc m)))
unfolding keep
keep-step out k m i p q = rw (met-more k m (omega arith) q, kept_more k m p q, slot_of k m (omega arith))

keeping_step : (out : List ℕ) (k m : ℕ) (role : Role) (kind place : ℕ) (bs : List ℕ) → suc k < 4294967296 → suc m < 4294967296
    → keeping (st out (counts k m)) role kind place bs
    ≡ pick (is plain (item_of (record { role = role; kind = kind; place = place; payload = bs })).what) (st out (counts k (suc m)))
    (st (set out k (number_of (item_of (record { role = role; kind = kind; place = place; payload = bs })))) (counts (suc k) (suc m)))
unfolding keeping
keeping_step out k m role kind place bs p q = keep-step out k m (item_of (record { role = role; kind = kind; place = place; payload = bs })) p q

-- 3. A walk

-- the state at the end, by how reading ended
unfoldable pub ran : Ending → St → Ran St
ran well s = ended s
ran (refused r) s = broke s r

module _ (b : ℕ) where
  pub walks : (t : Trace) (out : List ℕ) (k m : ℕ) → k + length (items_of b t) < 4294967296 → m + length (items_of b t) < 4294967296
      → run keeping b (st out (counts k m)) t
      ≡ ran (ends t) (st (fill k (kept_numbers (items_of b t)) out) (counts (k + length (kept_numbers (items_of b t))) (m + length (items_of b t))))
  unfolding run met ends kept_numbers ran
  walks done out k m p q = rw (fill_none k out, add-zero k, add-zero m)
  walks (refuse r) out k m p q = rw (fill_none k out, add-zero k, add-zero m)
  walks (emit role kind place bs t) out k m p q =
      rw (keeping_step out k m role kind (b + place) bs (omega arith) (omega arith), more) (by-test (is plain item.what) (walks t out k (suc m) (omega arith) (omega arith)) (walks t (set out k (number_of item)) (suc k) (suc m) (omega arith) (omega arith)))
    where
      item : Item
      item = item_of (record { role = role; kind = kind; place = b + place; payload = bs })

      more : m + suc (length (items_of b t)) ≡ suc m + length (items_of b t)
      more = omega arith

      rest : List ℕ
      rest = kept_numbers (items_of b t)

      all : ℕ
      all = suc m + length (items_of b t)

      by-test : (x : Bool) → run keeping b (st out (counts k (suc m))) t ≡ ran (ends t) (st (fill k rest out) (counts (k + length rest) all))
          → run keeping b (st (set out k (number_of item)) (counts (suc k) (suc m))) t ≡ ran (ends t) (st (fill (suc k) rest (set out k (number_of item))) (counts (suc k + length rest) all))
          → run keeping b (pick x (st out (counts k (suc m))) (st (set out k (number_of item)) (counts (suc k) (suc m)))) t
          ≡ ran (ends t) (st (fill k (pick x rest (number_of item ∷ rest)) out) (counts (k + length (pick x rest (number_of item ∷ rest))) all))
      by-test true g h = g
      by-test false g h =
          let e : k + suc (length rest) ≡ suc k + length rest = omega arith in
          rw (fill-next k (number_of item) rest out, e) h

-- 4. What stands in a buffer after it

pub fill-length : (k : ℕ) (xs out : List ℕ) → length (fill k xs out) ≡ length out
fill-length k [] out = ap length (fill_none k out)
fill-length k (x ∷ xs) out = ap length (fill-next k x xs out) ∙ fill-length (suc k) xs (set out k x) ∙ length-set out k x

-- 5. What a walk answers and writes, after k records kept and m met

pub walked_all : (t : Trace) (base k m : ℕ) {w : Result ℕ Refusal} {before after : List ℕ} → k + length (items_of base t) < 4294967296 → m + length (items_of base t) < 4294967296
    → Told (run keeping base (st before (counts k m)) t) w after → Walked t base k m before w after
unfolding ran walk_of Written walked
walked_all t base k m {before = before} {after = after} p q h =
    let e = walks base t before k m p q in
    let there = subst (λ (x : Ran St). Written x after) e h.written in
    record {
      answer = h.answer ∙ ap walk_of e ∙ by_answer (ends t);
      written = by_written (ends t) there;
      same_length = by_length (ends t) there ∙ fill-length k kept before;
    }
  where
    kept : List ℕ
    kept = kept_numbers (items_of base t)

    last : ℕ
    last = counts (k + length kept) (m + length (items_of base t))

    by_answer : (x : Ending) → walk_of (ran x (st (fill k kept before) last)) ≡ walked x last
    by_answer well = refl
    by_answer (refused r) = refl

    by_written : (x : Ending) → Written (ran x (st (fill k kept before) last)) after → x ≡ well → after ≡ fill k kept before
    by_written well g e = g
    by_written (refused r) g e = let z : ◌≡◌ {A = ℕ} 0 1 = cc in absurd (omega arith)

    by_length : (x : Ending) → Written (ran x (st (fill k kept before) last)) after → length after ≡ length (fill k kept before)
    by_length well g = ap length g
    by_length (refused r) g = g

-- 6. No more are kept than there are

pub kept-fewer : (l : List Item) → length (kept_numbers l) ≤ length l
unfolding kept_numbers
kept-fewer [] = omega arith
kept-fewer (i ∷ l) = by-test (is plain i.what) (kept-fewer l)
  where
    by-test : (x : Bool) → length (kept_numbers l) ≤ length l → length (pick x (kept_numbers l) (number_of i ∷ kept_numbers l)) ≤ suc (length l)
    by-test true h = omega (arith, h)
    by-test false h = omega (arith, h)
