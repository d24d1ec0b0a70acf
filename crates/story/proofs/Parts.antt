-- What is read in a part of the bytes is what is read in the bytes, where it lies in the part. Assumes nothing.
use Rattle.std.specs.Prelude.{Ok}
use mathlib.Core.Path.{◌≡◌, refl, sym, ◌∙◌}
use mathlib.Core.List.{List}
use Prim.Native.Nat.{ℕ, zero, suc, ◌+◌, ◌-◌, ◌≤◌}
use native.Mathlib.Nat.{add-zero}
use native.Mathlib.Numerals.{sub-one}
use native.Mathlib.Omega.{arith}
use lib.ListN.{length, get_or, take, drop, length-take, length-drop}
use lib.Seq.{take-take, drop-drop, get_or-take, get_or-drop}
use Rattle.fields.specs.Bytes.{Span, name_of}
use Rattle.fields.proofs.Laws.{name-fits, name-whole, name-count}
use Rattle.records.proofs.Places.{drop-take}
use Rattle.story.specs.Headings.{reach_at, names_reach, counted_reach}
use Rattle.story.specs.Flows.{names_n, counted_in, part}
use Rattle.story.proofs.Reaches.{names-fit, counted-read}
use Rattle.story.proofs.Unfolding.{front, names-n-step}

-- how long a part is
pub part_length : (a b : ℕ) (s : List ℕ) → b ≤ length s → length (part a b s) ≡ b - a
unfolding part
part_length a b s h = simp (length-take, length-drop) (omega arith)

-- a name in the first m bytes
pub name-part : (m : ℕ) (t : List ℕ) (k : ℕ) → name_of t ≡ Span.Bytes k → 1 + k ≤ m → name_of (take m t) ≡ Span.Bytes k
name-part m t k e h =
    let count : get_or (take m t) 0 0 ≡ k = get_or-take m t 0 0 (omega arith) ∙ name-count t k refl e in
    rw (← count) (name-whole (take m t) (omega (arith, count, length-take m t, name-fits t k refl e)))

-- it is the name in all bytes
front-part : (at m k : ℕ) (t : List ℕ) → 1 + k ≤ m → front at k (take m t) ≡ front at k t
front-part at m k t h = rw (drop-take 1 m t, take-take k (m - 1) (drop 1 t) (omega arith))

-- names in the bytes that they take
pub names-part : (n b m at : ℕ) (s : List ℕ) {e : ℕ} → at ≤ length s → names_reach s n at ≡ Ok e → e ≤ at + m → names_n n b (take m (drop at s)) ≡ names_n n b (drop at s)
unfolding names_reach reach_at names_n
names-part zero b m at s h q f = refl
names-part (suc n) b m at s {e} h q f = by_name (name_of (drop at s)) refl q (λ k. names-part n (b + (1 + k)) (m - (1 + k)) (at + (1 + k)) s)
  where
    by_name : (r : Span) → name_of (drop at s) ≡ r → reach_at r (names_reach s n) at ≡ Ok e
        → ((k : ℕ) → at + (1 + k) ≤ length s → names_reach s n (at + (1 + k)) ≡ Ok e → e ≤ at + (1 + k) + (m - (1 + k))
        → names_n n (b + (1 + k)) (take (m - (1 + k)) (drop (at + (1 + k)) s)) ≡ names_n n (b + (1 + k)) (drop (at + (1 + k)) s))
        → names_n (suc n) b (take m (drop at s)) ≡ names_n (suc n) b (drop at s)
    by_name (Span.Bytes k) p q later =
        let within : at + (1 + k) ≤ length s = omega (arith, name-fits (drop at s) k refl p, length-drop at s) in
        let reaches : at + (1 + k) ≤ e = (names-fit s n (at + (1 + k)) within q).0 in
        let fits : 1 + k ≤ m = omega arith in
        names-n-step (suc n) b k (take m (drop at s)) (omega arith) refl (name-part m (drop at s) k p fits)
        ∙ rw (front-part b m k (drop at s) fits, drop-take (1 + k) m (drop at s), drop-drop (1 + k) at s, sub-one (suc n), later k within q (omega arith))
        (sym (names-n-step (suc n) b k (drop at s) (omega arith) refl p ∙ rw (sub-one (suc n), drop-drop (1 + k) at s)))
    by_name (Span.Refused x) p q later = let z : ◌≡◌ {A = ℕ} 0 1 = cc in absurd (omega arith)

-- a count byte and so many names, in the bytes that they take
pub counted-part : (b at : ℕ) (s : List ℕ) {e : ℕ} → counted_reach s at ≡ Ok e → counted_in b (part at e s) ≡ counted_in b (drop at s)
unfolding counted_in part
counted-part b at s {e} q =
    let c = counted-read s at q in
    let f = names-fit s (get_or s at 0) (at + 1) (omega (arith, c.0)) c.1 in
    let count : get_or (drop at s) 0 0 ≡ get_or s at 0 = get_or-drop at s 0 0 ∙ rw (add-zero at) in
    rw (get_or-take (e - at) (drop at s) 0 0 (omega arith), count, drop-take 1 (e - at) (drop at s), drop-drop 1 at s)
    (names-part (get_or s at 0) (b + 1) (e - at - 1) (at + 1) s (omega (arith, c.0)) c.1 (omega arith))
