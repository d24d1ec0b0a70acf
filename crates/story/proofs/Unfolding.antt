-- Names and pieces as the rules see them, one at a time. Assumes nothing.
use Rattle.std.specs.Prelude.{Result, Ok}
use mathlib.Core.Path.{◌≡◌, refl, sym, ◌∙◌, ap}
use mathlib.Core.List.{List, [], ◌∷◌}
use Prim.Native.Nat.{ℕ, zero, suc, ◌+◌, ◌-◌, ◌≤◌, ◌<◌}
use native.Mathlib.Numerals.{sub-one}
use native.Mathlib.Omega.{arith}
use lib.Dec.{eqb}
use lib.ListN.{length, get_or, take, drop, length-drop}
use Rattle.fields.specs.declared.Refusal.{Refusal}
use Rattle.fields.specs.Bytes.{Span, list_of, name_of}
use Rattle.fields.proofs.Laws.{list-fits, name-count, name-fits}
use Rattle.story.specs.declared.Heading.{Heading}
use Rattle.story.specs.Story.{Name}
use Rattle.records.specs.Items.{name_in, items_in}
use Rattle.story.specs.Headings.{heading_of}
use Rattle.story.specs.Flows.{names_n, counted_in, part, titled_at, titled_in, pieces_at, pieces_n, pieces_in, stitch_in, title_end, flow_in}

one_more : (n : ℕ) → 1 + n ≡ suc n
one_more n = omega arith

-- 1. Names

-- the name at the front, k bytes long
abbrev pub front : ℕ → ℕ → List ℕ → Name
front at k t = record { at = at; bytes = take k (drop 1 t) }

pub names-n-zero : (n at : ℕ) (t : List ℕ) → n ≤ 0 → names_n n at t ≡ []
unfolding names_n
names-n-zero zero at t h = refl
names-n-zero (suc n) at t h = absurd (omega arith)

pub names-n-none : (n at : ℕ) (t : List ℕ) → length t ≤ 0 → names_n n at t ≡ []
unfolding names_n
names-n-none zero at [] h = refl
names-n-none (suc n) at [] h = refl
names-n-none n at (x ∷ t) h = absurd (omega arith)

-- the first of at most n names, then the others
pub names-n-step : (n at k : ℕ) (t : List ℕ) {r : Span} → 0 < n → r ≡ name_of t → r ≡ Span.Bytes k
    → names_n n at t ≡ front at k t ∷ names_n (n - 1) (at + (1 + k)) (drop (1 + k) t)
unfolding names_n
names-n-step zero at k t h p q = absurd (omega arith)
names-n-step (suc n) at k [] h p q = absurd (omega (arith, name-fits [] k p q))
names-n-step (suc n) at k (x ∷ t) h p q = rw (name-count (x ∷ t) k p q, sub-one (suc n), one_more k)

-- 2. Pieces

module _ {A : Type 0} (f : ℕ → List ℕ → A) where
  no_pieces : (n at : ℕ) (t : List ℕ) → length t ≤ 0 → pieces_n n f at t ≡ []
  unfolding pieces_n pieces_at list_of
  no_pieces zero at t h = refl
  no_pieces (suc n) at [] h = refl
  no_pieces (suc n) at (x ∷ t) h = absurd (omega arith)

  pieces-enough : (n m at : ℕ) (t : List ℕ) → length t ≤ n → length t ≤ m → pieces_n n f at t ≡ pieces_n m f at t
  unfolding pieces_n pieces_at
  pieces-enough zero m at t p q = no_pieces zero at t p ∙ sym (no_pieces m at t p)
  pieces-enough (suc n) zero at t p q = no_pieces (suc n) at t q
  pieces-enough (suc n) (suc m) at t p q = by_span (list_of t) refl (λ k. pieces-enough n m (at + (4 + k)) (drop (4 + k) t))
    where
      by_span : (r : Span) → r ≡ list_of t → ((k : ℕ) → length (drop (4 + k) t) ≤ n → length (drop (4 + k) t) ≤ m → pieces_n n f (at + (4 + k)) (drop (4 + k) t) ≡ pieces_n m f (at + (4 + k)) (drop (4 + k) t))
          → pieces_at r f (pieces_n n f) at t ≡ pieces_at r f (pieces_n m f) at t
      by_span (Span.Bytes k) e later =
          let fits = list-fits t k e refl in
          rw (later k (omega (arith, length-drop (4 + k) t)) (omega (arith, length-drop (4 + k) t)))
      by_span (Span.Refused x) e later = refl

  pub pieces-in-none : (at : ℕ) (t : List ℕ) → length t ≤ 0 → pieces_in f at t ≡ []
  unfolding pieces_in pieces_n
  pieces-in-none at [] h = refl
  pieces-in-none at (x ∷ t) h = absurd (omega arith)

  pub pieces-in-refused : (at : ℕ) (t : List ℕ) {x : Refusal} {r : Span} → r ≡ list_of t → r ≡ Span.Refused x → pieces_in f at t ≡ []
  unfolding pieces_in pieces_n pieces_at
  pieces-in-refused at [] p q = refl
  pieces-in-refused at (y ∷ t) p q = rw (← p, q)

  -- the first piece, then the others
  pub pieces-in-step : (at n : ℕ) (t : List ℕ) {r : Span} → r ≡ list_of t → r ≡ Span.Bytes n
      → pieces_in f at t ≡ f at (take n (drop 4 t)) ∷ pieces_in f (at + (4 + n)) (drop (4 + n) t)
  unfolding pieces_in pieces_n pieces_at
  pieces-in-step at n [] p q = absurd (omega (arith, list-fits [] n p q))
  pieces-in-step at n (x ∷ t) p q =
      rw (← p, q)
      (ap (λ (l : List A). f at (take n (drop 4 (x ∷ t))) ∷ l) (pieces-enough (length t) (length (drop (4 + n) (x ∷ t))) (at + (4 + n)) (drop (4 + n) (x ∷ t)) (omega (arith, length-drop (4 + n) (x ∷ t))) (omega arith)))

-- 3. A stitch and a flow, by their headings

module _ (at : ℕ) (s : List ℕ) (h : Heading) {r : Result Heading Refusal} where
  pub titled-in : r ≡ heading_of s → r ≡ Ok h
      → titled_in at s
      ≡ record {
        name = record { at = at; bytes = name_in s };
        params = counted_in (at + h.params) (drop h.params s);
        marks = counted_in (at + h.marks) (drop h.marks s);
        body = items_in (at + h.nodes) (part h.nodes h.end s);
      }
  unfolding titled_in titled_at
  titled-in p q = rw (← p, q)

  pub flow-in : r ≡ heading_of (drop 1 s) → r ≡ Ok h
      → flow_in at s
      ≡ record {
        at = at;
        function = eqb (get_or s 0 0) 1;
        name = record { at = at + 5; bytes = name_in (drop 1 s) };
        params = counted_in (at + 5 + h.params) (drop h.params (drop 1 s));
        marks = counted_in (at + 5 + h.marks) (drop h.marks (drop 1 s));
        body = items_in (at + 5 + h.nodes) (part h.nodes h.end (drop 1 s));
        stitches = pieces_in stitch_in (at + (5 + h.end)) (drop (1 + h.end) s);
      }
  unfolding flow_in titled_in titled_at title_end
  flow-in p q = rw (← p, q)
