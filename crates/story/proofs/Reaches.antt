-- How far names, lists and headings reach: within the bytes, and as the code learns of it. Assumes nothing.
use Rattle.std.specs.Prelude.{Result, Ok, Err}
use mathlib.Core.Path.{◌≡◌, refl, sym, ◌∙◌}
use mathlib.Core.List.{List}
use mathlib.Core.Bool.{Bool, true, false}
use Prim.Native.Nat.{ℕ, zero, suc, ◌+◌, ◌-◌, ◌≤◌, ◌<◌}
use native.Mathlib.Nat.{add-sub_cancel, add-sub_cancel_left}
use native.Mathlib.Numerals.{sub-one}
use native.Mathlib.Omega.{arith}
use lib.Dec.{ltb}
use lib.ListN.{length, get_or, take, drop, length-drop}
use borrow.Author.Tests.{ltb-true}
use Rattle.fields.specs.declared.Refusal.{Refusal}
use Rattle.fields.specs.declared.Refusal.TheVariants.{Short}
use Rattle.fields.specs.Bytes.{Span, pick, list_of, name_of, span_reach}
use Rattle.fields.proofs.Laws.{name-fits, list-fits, span_to, span-refused, to_end}
use Rattle.story.specs.declared.Heading.{Heading}
use Rattle.story.specs.Headings.{reach_at, names_reach, counted_reach, list_at, marks_at, params_at, name_then, heading_of}

-- 1. Within the bytes

-- from an offset within the bytes, names reach no further than the bytes, and not back
pub names-fit : (s : List ℕ) (n at : ℕ) {e : ℕ} → at ≤ length s → names_reach s n at ≡ Ok e → (at ≤ e) × (e ≤ length s)
unfolding names_reach reach_at
names-fit s zero at {e} h q = let same : at ≡ e = cc in omega arith
names-fit s (suc n) at {e} h q = by_name (name_of (drop at s)) refl (λ k. names-fit s n (at + (1 + k))) q
  where
    by_name : (r : Span) → r ≡ name_of (drop at s) → ((k : ℕ) → at + (1 + k) ≤ length s → names_reach s n (at + (1 + k)) ≡ Ok e → (at + (1 + k) ≤ e) × (e ≤ length s))
        → reach_at r (names_reach s n) at ≡ Ok e → (at ≤ e) × (e ≤ length s)
    by_name (Span.Bytes k) p more q =
        let f = name-fits (drop at s) k p refl in
        let g = more k (omega (arith, length-drop at s)) q in
        omega arith
    by_name (Span.Refused r) p more q = let z : ◌≡◌ {A = ℕ} 0 1 = cc in absurd (omega arith)

-- where a count byte and so many names are read, the byte is there and the names are read
pub counted-read : (s : List ℕ) (at : ℕ) {e : ℕ} → counted_reach s at ≡ Ok e → (at < length s) × (names_reach s (get_or s at 0) (at + 1) ≡ Ok e)
unfolding counted_reach
counted-read s at {e} q = by-test (ltb at (length s)) refl q
  where
    by-test : (i : Bool) → ltb at (length s) ≡ i → pick i (names_reach s (get_or s at 0) (at + 1)) (Err Short) ≡ Ok e
        → (at < length s) × (names_reach s (get_or s at 0) (at + 1) ≡ Ok e)
    by-test true t q = (ltb-true at (length s) t, q)
    by-test false t q = let z : ◌≡◌ {A = ℕ} 0 1 = cc in absurd (omega arith)

-- they take a byte at least
pub counted-fits : (s : List ℕ) (at : ℕ) {e : ℕ} {r : Result ℕ Refusal} → r ≡ counted_reach s at → r ≡ Ok e → (at < e) × (e ≤ length s)
counted-fits s at p q = let c = counted-read s at (sym p ∙ q) in omega (arith, names-fit s (get_or s at 0) (at + 1) (omega (arith, c.0)) c.1)

-- the parts of a title stand in this order within the bytes, and each is read where it stands
pub record Laid (h : Heading) (s : List ℕ) : Type 0 where
  pub some : 1 ≤ h.params
  pub params : h.params < h.marks
  pub marks : h.marks + 5 ≤ h.nodes
  pub nodes : h.nodes ≤ h.end
  pub within : h.end ≤ length s
  pub name-read : name_of s ≡ Span.Bytes (h.params - 1)
  pub params-read : counted_reach s h.params ≡ Ok h.marks
  pub marks-read : counted_reach s h.marks ≡ Ok (h.nodes - 4)
  pub list_read : list_of (drop (h.nodes - 4) s) ≡ Span.Bytes (h.end - h.nodes)

module _ (s : List ℕ) (h : Heading) where
  list-laid : (k marks list : ℕ) (r : Span) → name_of s ≡ Span.Bytes k → counted_reach s (1 + k) ≡ Ok marks → counted_reach s marks ≡ Ok list → r ≡ list_of (drop list s)
      → list_at (1 + k) marks list r ≡ Ok h → Laid h s
  unfolding list_at
  list-laid k marks list (Span.Bytes n) named params-to marks-to p q =
      let same : record { params = 1 + k; marks = marks; nodes = list + 4; end = list + 4 + n } ≡ h = cc in
      let a = counted-fits s (1 + k) refl params-to in
      let b = counted-fits s marks refl marks-to in
      let f = list-fits (drop list s) n p refl in
      rw (← same) (record {
        some = omega arith;
        params = a.0;
        marks = omega (arith, b.0);
        nodes = omega arith;
        within = omega (arith, f, b.1, length-drop list s);
        name-read = rw (add-sub_cancel_left 1 k) named;
        params-read = params-to;
        marks-read = rw (add-sub_cancel list 4) marks-to;
        list_read = rw (add-sub_cancel list 4, add-sub_cancel_left (list + 4) n) (sym p);
      })
  list-laid k marks list (Span.Refused x) named params-to marks-to p q = let z : ◌≡◌ {A = ℕ} 0 1 = cc in absurd (omega arith)

  marks-laid : (k marks : ℕ) (r : Result ℕ Refusal) → name_of s ≡ Span.Bytes k → counted_reach s (1 + k) ≡ Ok marks → counted_reach s marks ≡ r → marks_at (1 + k) marks r s ≡ Ok h → Laid h s
  unfolding marks_at
  marks-laid k marks (Ok list) named params-to p q = list-laid k marks list (list_of (drop list s)) named params-to p refl q
  marks-laid k marks (Err x) named params-to p q = let z : ◌≡◌ {A = ℕ} 0 1 = cc in absurd (omega arith)

  params-laid : (k : ℕ) (r : Result ℕ Refusal) → name_of s ≡ Span.Bytes k → counted_reach s (1 + k) ≡ r → params_at (1 + k) r s ≡ Ok h → Laid h s
  unfolding params_at
  params-laid k (Ok marks) named p q = marks-laid k marks (counted_reach s marks) named p refl q
  params-laid k (Err x) named p q = let z : ◌≡◌ {A = ℕ} 0 1 = cc in absurd (omega arith)

  name-laid : (r : Span) → name_of s ≡ r → name_then r s ≡ Ok h → Laid h s
  unfolding name_then
  name-laid (Span.Bytes k) p q = params-laid k (counted_reach s (1 + k)) p refl q
  name-laid (Span.Refused x) p q = let z : ◌≡◌ {A = ℕ} 0 1 = cc in absurd (omega arith)

  pub heading-laid : {r : Result Heading Refusal} → r ≡ heading_of s → r ≡ Ok h → Laid h s
  unfolding heading_of
  heading-laid p q = name-laid (name_of s) refl (sym p ∙ q)

-- 2. One name further

pub reach-on : (s : List ℕ) (many at to : ℕ) {r : Result ℕ Refusal} → 0 < many → r ≡ span_reach 1 (name_of (take (length s - at) (drop at s))) → r ≡ Ok to
    → names_reach s many at ≡ names_reach s (many - 1) (at + to)
unfolding names_reach reach_at
reach-on s zero at to h p q = absurd (omega arith)
reach-on s (suc many) at to h p q =
    let first = span_to 1 (name_of (take (length s - at) (drop at s))) p to q in
    rw (sub-one (suc many), ← to_end at s, first.0, first.1)

-- a refusal is the whole's
pub reach-refused : (s : List ℕ) (many at : ℕ) (x : Refusal) {r : Result ℕ Refusal} → 0 < many → r ≡ span_reach 1 (name_of (take (length s - at) (drop at s))) → r ≡ Err x
    → r ≡ names_reach s many at
unfolding names_reach reach_at
reach-refused s zero at x h p q = absurd (omega arith)
reach-refused s (suc many) at x h p q = rw (← to_end at s, span-refused 1 (name_of (take (length s - at) (drop at s))) p x q) q

pub reach-end : (s : List ℕ) (many at : ℕ) → many ≤ 0 → Ok at ≡ names_reach s many at
unfolding names_reach
reach-end s zero at h = refl
reach-end s (suc many) at h = absurd (omega arith)

-- 3. A heading's name and its list, as the code learns of them

module _ (x : Span) {r : Result ℕ Refusal} where
  pub name-then : (s : List ℕ) (to : ℕ) → r ≡ span_reach 1 x → r ≡ Ok to → name_then x s ≡ params_at to (counted_reach s to) s
  unfolding name_then
  name-then s to e q =
      let h = span_to 1 x e to q in
      rw (h.0, h.1)

  pub name-then-refused : (s : List ℕ) (y : Refusal) → r ≡ span_reach 1 x → r ≡ Err y → Err y ≡ name_then x s
  unfolding name_then
  name-then-refused s y e q = rw (span-refused 1 x e y q)

  pub list-at : (params marks list to : ℕ) → r ≡ span_reach 4 x → r ≡ Ok to
      → Ok (record { params = params; marks = marks; nodes = list + 4; end = list + to }) ≡ list_at params marks list x
  unfolding list_at
  list-at params marks list to e q =
      let h = span_to 4 x e to q in
      let ends : list + 4 + (to - 4) ≡ list + to = omega (arith, h.1) in
      rw (h.0, ends)

  pub list-at-refused : (params marks list : ℕ) (y : Refusal) → r ≡ span_reach 4 x → r ≡ Err y → Err y ≡ list_at params marks list x
  unfolding list_at
  list-at-refused params marks list y e q = rw (span-refused 4 x e y q)
