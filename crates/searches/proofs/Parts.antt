-- Parts of parts of the bytes, and names that stand whole in a part. Assumes nothing.
use Rattle.std.specs.Prelude.{Ok}
use mathlib.Core.Path.{◌≡◌, refl, ◌∙◌}
use mathlib.Core.List.{List, [], ◌∷◌}
use Prim.Native.Nat.{ℕ, zero, suc, ◌+◌, ◌-◌, ◌≤◌, ◌<◌}
use native.Mathlib.Nat.{add-zero}
use native.Mathlib.Omega.{arith}
use lib.ListN.{length, get_or, take, drop, length-take}
use lib.Seq.{take-take, drop-drop, get_or-take, get_or-drop}
use Rattle.fields.specs.Bytes.{Span, name_of}
use Rattle.fields.proofs.Laws.{name-fits, name-count}
use Rattle.names.specs.Counted.{name_at}
use Rattle.records.proofs.Places.{drop-take}
use Rattle.story.specs.Headings.{reach_at, names_reach, counted_reach}
use Rattle.records.specs.Items.{name_in}
use Rattle.story.specs.Flows.{names_n, counted_in, part}
use Rattle.story.proofs.Reaches.{counted-read}

-- 1. Parts

part-open : (a b : ℕ) (s : List ℕ) → part a b s ≡ take (b - a) (drop a s)
unfolding part
part-open a b s = refl

pub part-drop : (k a b : ℕ) (s : List ℕ) → drop k (part a b s) ≡ part (a + k) b s
unfolding part
part-drop k a b s = let same : b - a - k ≡ b - (a + k) = omega arith in drop-take k (b - a) (drop a s) ∙ rw (drop-drop k a s, same)

pub part-take : (n a b : ℕ) (s : List ℕ) → a + n ≤ b → take n (part a b s) ≡ part a (a + n) s
unfolding part
part-take n a b s h = let same : a + n - a ≡ n = omega arith in take-take n (b - a) (drop a s) (omega arith) ∙ rw same

pub part-part : (i j a b : ℕ) (s : List ℕ) → i ≤ j → a + j ≤ b → part i j (part a b s) ≡ part (a + i) (a + j) s
part-part i j a b s h k =
    let same : a + i + (j - i) ≡ a + j = omega arith in
    part-open i j (part a b s) ∙ rw (part-drop i a b s, part-take (j - i) (a + i) b s (omega arith), same)

-- the piece after a length of 4 bytes
pub part-piece : (n a b : ℕ) (s : List ℕ) → a + (4 + n) ≤ b → take n (drop 4 (part a b s)) ≡ part (a + 4) (a + (4 + n)) s
part-piece n a b s h =
    let same : a + 4 + n ≡ a + (4 + n) = omega arith in rw (part-drop 4 a b s, part-take n (a + 4) b s (omega arith), same)

-- a part that ends before it begins
pub part_none : (a b : ℕ) (s : List ℕ) → b ≤ a → part a b s ≡ []
unfolding part
part_none a b s h = let none : b - a ≡ 0 = omega arith in rw none

pub part-short : (a b : ℕ) (s : List ℕ) → length (part a b s) ≤ b - a
unfolding part
part-short a b s = simp length-take (omega arith)

-- the first byte of a part
pub part-first : (a b : ℕ) (s : List ℕ) → a < b → get_or (part a b s) 0 0 ≡ get_or s a 0
unfolding part
part-first a b s h = get_or-take (b - a) (drop a s) 0 0 (omega arith) ∙ rw (get_or-drop a s 0 0, add-zero a)

-- 2. Names that stand whole in the first m bytes

past_first : (k x : ℕ) (s : List ℕ) → drop (1 + k) (x ∷ s) ≡ drop k s
past_first k x s = let one : 1 + k ≡ suc k = omega arith in rw one

-- the first of several names
name-step : (n a m : ℕ) (w : List ℕ) (k : ℕ) → Span.Bytes k ≡ name_of (take m w)
    → names_n n (a + (1 + k)) (drop (1 + k) (take m w)) ≡ names_n n (a + (1 + k)) (drop (1 + k) w) → names_n (suc n) a (take m w) ≡ names_n (suc n) a w
unfolding names_n
name-step n a zero w k e more = absurd (omega (arith, name-fits [] k e refl))
name-step n a (suc m) [] k e more = refl
name-step n a (suc m) (x ∷ w) k e more =
    let same : x ≡ k = name-count (x ∷ take m w) k e refl in
    let fits : 1 + k ≤ suc (length (take m w)) = name-fits (x ∷ take m w) k e refl in
    let bytes : take x (take m w) ≡ take x w = take-take x m w (omega (arith, length-take m w)) in
    let rest : names_n n (a + (1 + x)) (drop x (take m w)) ≡ names_n n (a + (1 + x)) (drop x w) = rw (← same, past_first x x (take m w), past_first x x w) at more in
    rw (bytes, rest)

pub names-whole : (n m a at : ℕ) (u : List ℕ) {e : ℕ} → names_reach (take m u) n at ≡ Ok e → names_n n a (drop at (take m u)) ≡ names_n n a (drop at u)
unfolding names_reach reach_at names_n
names-whole zero m a at u q = refl
names-whole (suc n) m a at u {e} q = by_name (name_of (drop at (take m u))) refl (λ k. names-whole n m (a + (1 + k)) (at + (1 + k)) u) q
  where
    by_name : (r : Span) → r ≡ name_of (drop at (take m u))
        → ((k : ℕ) → names_reach (take m u) n (at + (1 + k)) ≡ Ok e
        → names_n n (a + (1 + k)) (drop (at + (1 + k)) (take m u)) ≡ names_n n (a + (1 + k)) (drop (at + (1 + k)) u))
        → reach_at r (names_reach (take m u) n) at ≡ Ok e → names_n (suc n) a (drop at (take m u)) ≡ names_n (suc n) a (drop at u)
    by_name (Span.Bytes k) p more q =
        let cut = drop-take at m u in
        rw cut
        (name-step n a (m - at) (drop at u) k (rw cut at p)
        (rw (← cut, drop-drop (1 + k) at (take m u), drop-drop (1 + k) at u) (more k q)))
    by_name (Span.Refused r) p more q = let z : ◌≡◌ {A = ℕ} 0 1 = cc in absurd (omega arith)

pub counted-whole : (m a at : ℕ) (u : List ℕ) {e : ℕ} → counted_reach (take m u) at ≡ Ok e → counted_in a (drop at (take m u)) ≡ counted_in a (drop at u)
unfolding counted_in
counted-whole m a at u q =
    let c = counted-read (take m u) at q in
    let count : get_or (take m u) at 0 ≡ get_or u at 0 = get_or-take m u at 0 (omega (arith, c.0, length-take m u)) in
    rw (get_or-drop at (take m u) 0 0, get_or-drop at u 0 0, add-zero at, ← count, drop-drop 1 at (take m u), drop-drop 1 at u)
    (names-whole (get_or (take m u) at 0) m (a + 1) (at + 1) u c.1)

-- 3. Names that stand whole in a part of the file

module _ (file : List ℕ) (p e : ℕ) where
  pub name-in-part : (k : ℕ) → name_of (part p e file) ≡ Span.Bytes k → name_in (part p e file) ≡ name_at file p
  unfolding part name_in name_at
  name-in-part k told =
      let fits = name-fits (take (e - p) (drop p file)) k refl told in
      let first = name-count (take (e - p) (drop p file)) k refl told in
      let long = length-take (e - p) (drop p file) in
      let count : get_or (take (e - p) (drop p file)) 0 0 ≡ get_or (drop p file) 0 0 = get_or-take (e - p) (drop p file) 0 0 (omega arith) in
      rw (count, drop-take 1 (e - p) (drop p file), drop-drop 1 p file) (take-take (get_or (drop p file) 0 0) (e - p - 1) (drop (p + 1) file) (omega arith))

  pub counted-in-part : (a at : ℕ) {x : ℕ} → counted_reach (part p e file) at ≡ Ok x
      → counted_in a (drop at (part p e file)) ≡ counted_in a (drop (p + at) file)
  unfolding part
  counted-in-part a at q = counted-whole (e - p) a at (drop p file) q ∙ rw (drop-drop at p file)
