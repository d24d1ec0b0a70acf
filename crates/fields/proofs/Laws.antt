-- What was read at the front of some bytes lies within them; and the place after it, or the refusal, as the code learns them. Assumes nothing.
use Rattle.std.specs.Prelude.{Result, Ok, Err}
use mathlib.Core.Path.{◌≡◌, refl, sym, ap, ◌∙◌}
use mathlib.Core.List.{List}
use mathlib.Core.Bool.{Bool, true, false}
use Prim.Native.Nat.{ℕ, suc, ◌+◌, ◌-◌, ◌≤◌, ◌<◌}
use native.Mathlib.Omega.{arith}
use lib.Dec.{ltb, eqb}
use lib.ListN.{length, get_or, take, drop, length-take, length-drop}
use lib.Seq.{take_all, get_or-take}
use lib.Arith.{lt_of_le-ne}
use borrow.Author.Tests.{eqb-true, ltb-false, lt-ltb, le-ltb}
use Rattle.std.specs.Result.{IsErrAnd}
use Rattle.std.proofs.lemmas.Result.{err_from_is_err_and}
use Rattle.fields.specs.declared.Refusal.{Refusal}
use Rattle.fields.specs.declared.Refusal.TheVariants.{Short, Unknown}
use Rattle.fields.specs.Bytes.{Head, Span, pick, le32_at, head_of, list_of, name_of, flag_of, span_reach, read_of_head}

-- w bytes, then the m bytes that they announce: an answer z that is not the refusal x is y, and they fit
module _ {A : Type 0} (x y z : A) (s : List ℕ) (w m : ℕ) where
  counted : (x ≡ z → ⊥) → pick (ltb (length s) w) x (pick (ltb (length s - w) m) x y) ≡ z → (y ≡ z) × (w + m ≤ length s)
  counted refused e = by_tests (ltb (length s) w) (ltb (length s - w) m) refl refl e
    where
      by_tests : (i j : Bool) → ltb (length s) w ≡ i → ltb (length s - w) m ≡ j → pick i x (pick j x y) ≡ z → (y ≡ z) × (w + m ≤ length s)
      by_tests true j p q r = absurd (refused r)
      by_tests false true p q r = absurd (refused r)
      by_tests false false p q r = (r, omega (arith, ltb-false (length s) w p, ltb-false (length s - w) m q))

  -- an answer z that is not y is the refusal x
  counted-refused : (y ≡ z → ⊥) → pick (ltb (length s) w) x (pick (ltb (length s - w) m) x y) ≡ z → x ≡ z
  counted-refused whole e = by_tests (ltb (length s) w) (ltb (length s - w) m) e
    where
      by_tests : (i j : Bool) → pick i x (pick j x y) ≡ z → x ≡ z
      by_tests true j r = r
      by_tests false true r = r
      by_tests false false r = absurd (whole r)

-- they do not fit, and they fit
module _ {A : Type 0} (x y : A) (s : List ℕ) (w m : ℕ) where
  counted-short : length s < w + m → pick (ltb (length s) w) x (pick (ltb (length s - w) m) x y) ≡ x
  counted-short h = by-test (ltb (length s) w) refl
    where
      by-test : (i : Bool) → ltb (length s) w ≡ i → pick i x (pick (ltb (length s - w) m) x y) ≡ x
      by-test true p = refl
      by-test false p = rw (lt-ltb (length s - w) m (omega (arith, ltb-false (length s) w p)))

  counted-whole : w + m ≤ length s → pick (ltb (length s) w) x (pick (ltb (length s - w) m) x y) ≡ y
  counted-whole h = rw (le-ltb (length s) w (omega arith), le-ltb (length s - w) m (omega arith))

pub head-short : (s : List ℕ) → length s < 5 + le32_at s 1 → head_of s ≡ Head.Refused Short
unfolding head_of
head-short s h = counted-short (Head.Refused Short) (Head.Piece (get_or s 0 0) (le32_at s 1)) s 5 (le32_at s 1) h

pub head-whole : (s : List ℕ) → 5 + le32_at s 1 ≤ length s → head_of s ≡ Head.Piece (get_or s 0 0) (le32_at s 1)
unfolding head_of
head-whole s h = counted-whole (Head.Refused Short) (Head.Piece (get_or s 0 0) (le32_at s 1)) s 5 (le32_at s 1) h

pub list-short : (s : List ℕ) → length s < 4 + le32_at s 0 → list_of s ≡ Span.Refused Short
unfolding list_of
list-short s h = counted-short (Span.Refused Short) (Span.Bytes (le32_at s 0)) s 4 (le32_at s 0) h

pub list-whole : (s : List ℕ) → 4 + le32_at s 0 ≤ length s → list_of s ≡ Span.Bytes (le32_at s 0)
unfolding list_of
list-whole s h = counted-whole (Span.Refused Short) (Span.Bytes (le32_at s 0)) s 4 (le32_at s 0) h

pub name-short : (s : List ℕ) → length s < 1 + get_or s 0 0 → name_of s ≡ Span.Refused Short
unfolding name_of
name-short s h = counted-short (Span.Refused Short) (Span.Bytes (get_or s 0 0)) s 1 (get_or s 0 0) h

pub name-whole : (s : List ℕ) → 1 + get_or s 0 0 ≤ length s → name_of s ≡ Span.Bytes (get_or s 0 0)
unfolding name_of
name-whole s h = counted-whole (Span.Refused Short) (Span.Bytes (get_or s 0 0)) s 1 (get_or s 0 0) h

head-answer : (s : List ℕ) (k n : ℕ) → head_of s ≡ Head.Piece k n → (Head.Piece (get_or s 0 0) (le32_at s 1) ≡ Head.Piece k n) × (5 + le32_at s 1 ≤ length s)
unfolding head_of
head-answer s k n e =
    counted (Head.Refused Short) (Head.Piece (get_or s 0 0) (le32_at s 1)) (Head.Piece k n) s 5 (le32_at s 1) (λ p. let z : ◌≡◌ {A = ℕ} 0 1 = cc in omega arith) e

pub head-fits : (s : List ℕ) (k n : ℕ) {r : Head} → r ≡ head_of s → r ≡ Head.Piece k n → 5 + n ≤ length s
head-fits s k n e q = let h = head-answer s k n (sym e ∙ q) in let z : le32_at s 1 ≡ n = cc h.0 in omega (arith, h.1)

pub list-fits : (s : List ℕ) (n : ℕ) {r : Span} → r ≡ list_of s → r ≡ Span.Bytes n → 4 + n ≤ length s
unfolding list_of
list-fits s n e q =
    let h = counted (Span.Refused Short) (Span.Bytes (le32_at s 0)) (Span.Bytes n) s 4 (le32_at s 0) (λ p. let z : ◌≡◌ {A = ℕ} 0 1 = cc in omega arith) (sym e ∙ q) in
    let z : le32_at s 0 ≡ n = cc h.0 in omega (arith, h.1)

pub name-fits : (s : List ℕ) (n : ℕ) {r : Span} → r ≡ name_of s → r ≡ Span.Bytes n → 1 + n ≤ length s
unfolding name_of
name-fits s n e q =
    let h = counted (Span.Refused Short) (Span.Bytes (get_or s 0 0)) (Span.Bytes n) s 1 (get_or s 0 0) (λ p. let z : ◌≡◌ {A = ℕ} 0 1 = cc in omega arith) (sym e ∙ q) in
    let z : get_or s 0 0 ≡ n = cc h.0 in omega (arith, h.1)

-- the count byte of a name that is read
pub name-count : (s : List ℕ) (n : ℕ) {r : Span} → r ≡ name_of s → r ≡ Span.Bytes n → get_or s 0 0 ≡ n
unfolding name_of
name-count s n e q =
    let h = counted (Span.Refused Short) (Span.Bytes (get_or s 0 0)) (Span.Bytes n) s 1 (get_or s 0 0) (λ p. let z : ◌≡◌ {A = ℕ} 0 1 = cc in omega arith) (sym e ∙ q) in cc h.0

-- a head, a list and a name are refused for want of bytes only
pub head-refusal : (s : List ℕ) (r : Refusal) → head_of s ≡ Head.Refused r → r ≡ Short
unfolding head_of
head-refusal s r e =
    let same = counted-refused (Head.Refused Short) (Head.Piece (get_or s 0 0) (le32_at s 1)) (Head.Refused r) s 5 (le32_at s 1) (λ p. let z : ◌≡◌ {A = ℕ} 0 1 = cc in omega arith) e in
    cc

pub list-refusal : (s : List ℕ) (r : Refusal) → list_of s ≡ Span.Refused r → r ≡ Short
unfolding list_of
list-refusal s r e =
    let same = counted-refused (Span.Refused Short) (Span.Bytes (le32_at s 0)) (Span.Refused r) s 4 (le32_at s 0) (λ p. let z : ◌≡◌ {A = ℕ} 0 1 = cc in omega arith) e in
    cc

pub name-refusal : (s : List ℕ) (r : Refusal) → name_of s ≡ Span.Refused r → r ≡ Short
unfolding name_of
name-refusal s r e =
    let same = counted-refused (Span.Refused Short) (Span.Bytes (get_or s 0 0)) (Span.Refused r) s 1 (get_or s 0 0) (λ p. let z : ◌≡◌ {A = ℕ} 0 1 = cc in omega arith) e in
    cc

-- the head of a record that stands whole in the first n bytes is the head in all bytes
pub head-take : (n : ℕ) (s : List ℕ) (k m : ℕ) → head_of (take n s) ≡ Head.Piece k m → head_of s ≡ Head.Piece k m
head-take n s k m e =
    let h = head-answer (take n s) k m e in
    let fits : 5 + le32_at (take n s) 1 ≤ length (take n s) = h.1 in
    let long : 5 ≤ n = omega (arith, length-take n s) in
    let size : le32_at (take n s) 1 ≡ le32_at s 1
    = simp (get_or-take n s 1 0 (omega arith), get_or-take n s 2 0 (omega arith), get_or-take n s 3 0 (omega arith), get_or-take n s 4 0 (omega arith)) in
    let kind : get_or (take n s) 0 0 ≡ get_or s 0 0 = get_or-take n s 0 0 (omega arith) in
    head-whole s (omega (arith, size, length-take n s)) ∙ rw (← size, ← kind) h.0

-- a part to the end of a slice
pub to_end : (a : ℕ) (s : List ℕ) → take (length s - a) (drop a s) ≡ drop a s
to_end a s = take_all (length s - a) (drop a s) (omega (arith, length-drop a s))

-- the place after a list or a name, and the refusal, as the code learns them
module _ (w : ℕ) (x : Span) {r : Result ℕ Refusal} (e : r ≡ span_reach w x) where
  pub span_to : (to : ℕ) → r ≡ Ok to → (x ≡ Span.Bytes (to - w)) × (w + (to - w) ≡ to)
  unfolding span_reach
  span_to to q = by_span x e
    where
      by_span : (y : Span) → r ≡ span_reach w y → (y ≡ Span.Bytes (to - w)) × (w + (to - w) ≡ to)
      by_span (Span.Bytes n) p = let z : w + n ≡ to = cc in let back : n ≡ to - w = omega (arith, z) in (ap Span.Bytes back, omega (arith, z))
      by_span (Span.Refused y) p = let z : ◌≡◌ {A = ℕ} 0 1 = cc in absurd (omega arith)

  pub span-refused : (y : Refusal) → r ≡ Err y → x ≡ Span.Refused y
  unfolding span_reach
  span-refused y q = by_span x e
    where
      by_span : (z : Span) → r ≡ span_reach w z → z ≡ Span.Refused y
      by_span (Span.Bytes n) p = let z : ◌≡◌ {A = ℕ} 0 1 = cc in absurd (omega arith)
      by_span (Span.Refused z) p = ap Span.Refused cc

-- what a `?` hands on is the refusal that it met
pub handed_on : {T : Type 0} {x : Refusal} (r : Result T Refusal) → IsErrAnd r (λ e. e ≡ x) → r ≡ Err x
handed_on r h = let p = err_from_is_err_and r h in rw (p.1, p.2)

-- two pairs that are the same in a result have the same parts
pub same_pair : {A B E : Type 0} {a c : A} {b d : B} → ◌≡◌ {A = Result (A × B) E} (Ok (a, b)) (Ok (c, d)) → (a ≡ c) × (b ≡ d)
same_pair {A} {B} {E} {a} {c} {b} {d} e = let z : ◌≡◌ {A = A × B} (a, b) (c, d) = cc in (ap (λ p. p.0) z, ap (λ p. p.1) z)

-- the place after a record, and the refusal, as the code learns them
module _ (x : Head) {r : Result (ℕ × ℕ) Refusal} (e : r ≡ read_of_head x) where
  pub head-to : (kind to : ℕ) → r ≡ Ok (kind, to) → (x ≡ Head.Piece kind (to - 5)) × (5 + (to - 5) ≡ to)
  unfolding read_of_head
  head-to kind to q = by-head x e
    where
      by-head : (y : Head) → r ≡ read_of_head y → (y ≡ Head.Piece kind (to - 5)) × (5 + (to - 5) ≡ to)
      by-head (Head.Piece j n) p =
          let parts = same_pair {E = Refusal} (sym p ∙ q) in
          let z : 5 + n ≡ to = parts.1 in
          let same : j ≡ kind = parts.0 in
          let back : n ≡ to - 5 = omega (arith, z) in
          (rw (same, back), omega (arith, z))
      by-head (Head.Refused y) p = let z : ◌≡◌ {A = ℕ} 0 1 = cc in absurd (omega arith)

  pub head-refused : (y : Refusal) → r ≡ Err y → x ≡ Head.Refused y
  unfolding read_of_head
  head-refused y q = by-head x e
    where
      by-head : (z : Head) → r ≡ read_of_head z → z ≡ Head.Refused y
      by-head (Head.Piece j n) p = let z : ◌≡◌ {A = ℕ} 0 1 = cc in absurd (omega arith)
      by-head (Head.Refused z) p = ap Head.Refused cc

-- the place after lies within the bytes
pub name-within : (s : List ℕ) (to : ℕ) {r : Result ℕ Refusal} → r ≡ span_reach 1 (name_of s) → r ≡ Ok to → (1 ≤ to) × (to ≤ length s)
name-within s to e q = let h = span_to 1 (name_of s) e to q in omega (arith, h.1, name-fits s (to - 1) refl h.0)

pub list-within : (s : List ℕ) (to : ℕ) {r : Result ℕ Refusal} → r ≡ span_reach 4 (list_of s) → r ≡ Ok to → (4 ≤ to) × (to ≤ length s)
list-within s to e q = let h = span_to 4 (list_of s) e to q in omega (arith, h.1, list-fits s (to - 4) refl h.0)

pub head-within : (s : List ℕ) (kind to : ℕ) {r : Result (ℕ × ℕ) Refusal} → r ≡ read_of_head (head_of s) → r ≡ Ok (kind, to) → (5 ≤ to) × (to ≤ length s)
head-within s kind to e q = let h = head-to (head_of s) e kind to q in omega (arith, h.1, head-fits s kind (to - 5) refl h.0)

-- where there is a flag, there is a byte
flag-fits : (s : List ℕ) (r : Result Bool Refusal) → r ≡ flag_of s → ((x : Refusal) → r ≡ Err x → ⊥) → 1 ≤ length s
unfolding flag_of
flag-fits s r e told = by-test (ltb (length s) 1) refl e
  where
    by-test : (i : Bool) → ltb (length s) 1 ≡ i
        → r ≡ pick i (Err Short) (pick (eqb (get_or s 0 0) 0) (Ok false) (pick (eqb (get_or s 0 0) 1) (Ok true) (Err Unknown))) → 1 ≤ length s
    by-test true p q = absurd (told Short q)
    by-test false p q = ltb-false (length s) 1 p

pub off-fits : (s : List ℕ) {r : Result Bool Refusal} → r ≡ flag_of s → r ≡ (Ok false) → 1 ≤ length s
off-fits s {r} e q = flag-fits s r e (λ x p. let z : ◌≡◌ {A = ℕ} 0 1 = cc in omega arith)

pub on_fits : (s : List ℕ) {r : Result Bool Refusal} → r ≡ flag_of s → r ≡ (Ok true) → 1 ≤ length s
on_fits s {r} e q = flag-fits s r e (λ x p. let z : ◌≡◌ {A = ℕ} 0 1 = cc in omega arith)

pub flag-within : (s : List ℕ) (b : Bool) {r : Result Bool Refusal} → r ≡ flag_of s → r ≡ Ok b → 1 ≤ length s
flag-within s b {r} e q = flag-fits s r e (λ x p. let z : ◌≡◌ {A = ℕ} 0 1 = cc in omega arith)

-- the flag as a test
pub flag_off : (s : List ℕ) → flag_of s ≡ (Ok false) → eqb (get_or s 0 0) 1 ≡ false
unfolding flag_of
flag_off s e = by_tests (ltb (length s) 1) (eqb (get_or s 0 0) 0) (eqb (get_or s 0 0) 1) refl e
  where
    by_tests : (i j k : Bool) → eqb (get_or s 0 0) 0 ≡ j → pick i (Err Short) (pick j (Ok false) (pick k (Ok true) (Err Unknown))) ≡ (Ok false)
        → eqb (get_or s 0 0) 1 ≡ false
    by_tests true j k p q = let z : ◌≡◌ {A = ℕ} 0 1 = cc in absurd (omega arith)
    by_tests false true k p q = rw (eqb-true (get_or s 0 0) 0 p)
    by_tests false false true p q = let z : ◌≡◌ {A = ℕ} 0 1 = cc in absurd (omega arith)
    by_tests false false false p q = let z : ◌≡◌ {A = ℕ} 0 1 = cc in absurd (omega arith)

pub flag-on : (s : List ℕ) → flag_of s ≡ (Ok true) → eqb (get_or s 0 0) 1 ≡ true
unfolding flag_of
flag-on s e = by_tests (ltb (length s) 1) (eqb (get_or s 0 0) 0) (eqb (get_or s 0 0) 1) e
  where
    by_tests : (i j k : Bool) → pick i (Err Short) (pick j (Ok false) (pick k (Ok true) (Err Unknown))) ≡ (Ok true) → k ≡ true
    by_tests true j k q = let z : ◌≡◌ {A = ℕ} 0 1 = cc in absurd (omega arith)
    by_tests false true k q = let z : ◌≡◌ {A = ℕ} 0 1 = cc in absurd (omega arith)
    by_tests false false true q = refl
    by_tests false false false q = let z : ◌≡◌ {A = ℕ} 0 1 = cc in absurd (omega arith)

-- a number that is not n, and n at least, is more
pub past : {n k : ℕ} → n ≤ k → (k ≡ n → ⊥) → suc n ≤ k
past h r = lt_of_le-ne h (λ e. r (sym e))
