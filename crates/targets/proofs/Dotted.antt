-- A target answers a spelling exactly if it is one of its dotted ends; and which ends a spelling of several names has. Assumes nothing.
use mathlib.Core.Path.{◌≡◌, refl, sym, ◌∙◌, ap}
use mathlib.Core.Bool.{Bool, true, false}
use mathlib.Core.List.{List, [], ◌∷◌, ◌++◌, append-nil}
use Prim.Native.Nat.{ℕ, zero, suc, ◌+◌, ◌-◌, ◌<◌}
use native.Mathlib.Omega.{arith}
use lib.Dec.{eqb}
use lib.ListN.{length, get_or, take, drop, length-drop}
use native.Mathlib.Decide.{ℕ_discrete}
use Rattle.std.specs.Prelude.{Some, None, count_by, cond}
use Rattle.std.proofs.lemmas.List.Recursion.{is_count_by}
use borrow.Author.Tests.{ne_eqb}
use Rattle.fields.specs.Bytes.{pick}
use Rattle.fields.proofs.Laws.{to_end}
use Rattle.names.specs.Words.{Bytes, same, only, one_of, ends}
use Rattle.names.specs.Counted.{name_at}
use Rattle.names.proofs.Any.{any_append, any-only}
use Rattle.symbols.specs.declared.Places.{Places}
use Rattle.symbols.specs.Numbers.{absent}
use Rattle.symbols.specs.Rows.{dotted_in, spelling_in}
use Rattle.symbols.specs.Fits.{answers}
use Rattle.targets.specs.Ends.{after_dots, dotted_ends, end_at, before}
use Rattle.targets.specs.Slots.{place_of, after}
use Rattle.targets.specs.Entries.{ends_from}

-- 1. What a target answers

-- a word ends in a dot and the target exactly if the target follows one of its dots
after-dots : (t s : Bytes) → ends (46 ∷ t) s ≡ one_of t (after_dots s)
unfolding after_dots
after-dots t [] = refl
after-dots t (x ∷ s) =
    rw (any_append (same t) (only (eqb 46 x) s) (after_dots s), any-only (same t) (eqb 46 x) s, after-dots t s)

-- THE LAW OF DOTTED ENDS
pub answers-ends : (t s : Bytes) → answers t s ≡ one_of t (dotted_ends s)
unfolding dotted_ends
answers-ends t s = rw (after-dots t s)

-- 2. Which ends there are

-- what follows the dots of two words with a dot between them
after-joined : (a b : Bytes) → after_dots (a ++ (46 ∷ b)) ≡ before (46 ∷ b) (after_dots a) ++ dotted_ends b
unfolding after_dots dotted_ends
after-joined [] b = refl
after-joined (x ∷ a) b = by-dot (after-joined a b) (eqb 46 x)
  where
    by-dot : after_dots (a ++ (46 ∷ b)) ≡ before (46 ∷ b) (after_dots a) ++ dotted_ends b → (d : Bool)
        → only d (a ++ (46 ∷ b)) ++ after_dots (a ++ (46 ∷ b)) ≡ before (46 ∷ b) (only d a ++ after_dots a) ++ dotted_ends b
    by-dot more true = ap (λ (l : List Bytes). (a ++ (46 ∷ b)) ∷ l) more
    by-dot more false = more

-- of two words with a dot between them: the ends of the first, each with the dot and the second after it, and the ends of the second
pub ends-joined : (a b : Bytes) → dotted_ends (a ++ (46 ∷ b)) ≡ before (46 ∷ b) (dotted_ends a) ++ dotted_ends b
unfolding dotted_ends
ends-joined a b = ap (λ (l : List Bytes). (a ++ (46 ∷ b)) ∷ l) (after-joined a b)

-- nothing after each
before-none : (l : List Bytes) → before [] l ≡ l
before-none [] = refl
before-none (e ∷ l) = rw (append-nil e, before-none l)

module _ (file : List ℕ) where
  -- of a name, if there is one, before a word
  ends-dotted : (at : ℕ) (rest : Bytes) → dotted_ends (dotted_in file at rest) ≡ ends_from file (place_of at) (46 ∷ rest) ++ dotted_ends rest
  ends-dotted at rest = by_name (eqb at absent)
    where
      by_name : (b : Bool) → dotted_ends (pick b rest (name_at file at ++ (46 ∷ rest))) ≡ ends_from file (pick b None (Some at)) (46 ∷ rest) ++ dotted_ends rest
      by_name true = refl
      by_name false = ends-joined (name_at file at) rest

  -- a dot and the name at a place
  after-there : (at : ℕ) → (at ≡ absent → ⊥) → after file (place_of at) ≡ 46 ∷ name_at file at
  unfolding after
  after-there at h = rw (ne_eqb at absent h)

  -- what follows a flow's name
  after_both : (stitch own : ℕ) → (own ≡ absent → ⊥) → after file (place_of stitch) ++ after file (place_of own) ≡ 46 ∷ dotted_in file stitch (name_at file own)
  unfolding after
  after_both stitch own h = rw (after-there own h) (by_name (eqb stitch absent))
    where
      by_name : (b : Bool) → after file (pick b None (Some stitch)) ++ (46 ∷ name_at file own) ≡ 46 ∷ pick b (name_at file own) (name_at file stitch ++ (46 ∷ name_at file own))
      by_name true = refl
      by_name false = refl

  -- of an entry: those that begin in its flow's name, in its stitch's name, and in its own
  pub ends-spelling : (p : Places) → (p.own ≡ absent → ⊥)
      → ends_from file (place_of p.flow) (after file (place_of p.stitch) ++ after file (place_of p.own))
      ++ (ends_from file (place_of p.stitch) (after file None ++ after file (place_of p.own)) ++ ends_from file (place_of p.own) (after file None ++ after file None))
      ≡ dotted_ends (spelling_in file p)
  unfolding spelling_in after
  ends-spelling p h =
      rw (
        after_both p.stitch p.own h,
        after-there p.own h,
        ne_eqb p.own absent h,
        before-none (dotted_ends (name_at file p.own)),
        ends-dotted p.flow (dotted_in file p.stitch (name_at file p.own)),
        ends-dotted p.stitch (name_at file p.own),
      )

-- 3. One of the ends

-- what follows the dots, by their number
after-nth : (w : Bytes) (d : ℕ) → get_or (after_dots w) d [] ≡ end_at (suc d) w
unfolding after_dots end_at
after-nth [] d = refl
after-nth (x ∷ w) d = by-dot (eqb 46 x) d (after-nth w)
  where
    by-dot : (b : Bool) (d : ℕ) → ((k : ℕ) → get_or (after_dots w) k [] ≡ end_at (suc k) w)
        → get_or (only b w ++ after_dots w) d [] ≡ pick b (end_at d w) (end_at (suc d) w)
    by-dot true zero more = refl
    by-dot true (suc k) more = more k
    by-dot false d more = more d

-- the ends by their number
pub ends-nth : (w : Bytes) (d : ℕ) → get_or (dotted_ends w) d [] ≡ end_at d w
unfolding dotted_ends end_at
ends-nth w zero = refl
ends-nth w (suc d) = after-nth w d

-- one more than there are dots
pub ends-count : (w : Bytes) → length (dotted_ends w) ≡ suc (length (after_dots w))
unfolding dotted_ends
ends-count w = refl

-- 4. Dots counted, and passed

-- as many ends follow dots as there are dots
dots-more : (x : ℕ) (w : Bytes) → length (after_dots (x ∷ w)) ≡ cond (eqb x 46) (1 + length (after_dots w)) (length (after_dots w))
unfolding after_dots
dots-more x w = by-dot (ℕ_discrete x 46)
  where
    by-dot : Dec (x ≡ 46) → length (only (eqb 46 x) w ++ after_dots w) ≡ cond (eqb x 46) (1 + length (after_dots w)) (length (after_dots w))
    by-dot (yes e) = rw e (omega arith)
    by-dot (no n) = rw (ne_eqb x 46 n, ne_eqb 46 x (λ e. n (sym e)))

pub dots-counted : (w : Bytes) → length (after_dots w) ≡ count_by (λ (x : ℕ). eqb x 46) w
unfolding after_dots
dots-counted w = is_count_by (λ (v : Bytes). length (after_dots v)) (λ (x : ℕ). eqb x 46) refl dots-more w

-- what follows the dots of the word follows so many dots of the rest
pub record Passing (w : Bytes) (dots : ℕ) (rest : Bytes) (left : ℕ) : Type 0 where
  pub same_end : end_at left rest ≡ end_at dots w

-- no byte was passed
pub passing-start : (w : Bytes) (dots : ℕ) → Passing w dots w dots
passing-start w dots = record { same_end = refl }

module _ {w rest : Bytes} {dots left : ℕ} (p : Passing w dots rest left) where
  -- no dot is left to pass
  pub passing-end : left ≡ 0 → rest ≡ end_at dots w
  unfolding end_at
  passing-end z = rw z at p.same_end

  -- the word has fewer dots
  pub passing-short : length rest ≡ 0 → rest ≡ end_at dots w
  unfolding end_at
  passing-short z = by_end rest left z p.same_end
    where
      by_end : (r : Bytes) (d : ℕ) → length r ≡ 0 → end_at d r ≡ end_at dots w → r ≡ end_at dots w
      by_end [] zero z e = e
      by_end [] (suc d) z e = e
      by_end (x ∷ r) d z e = absurd (omega arith)

  module _ (l : length rest ≡ 0 → ⊥) (z : 0 < left) where
    -- a dot is passed
    pub passing-dot : get_or rest 0 0 ≡ 46 → Passing w dots (take (length rest - 1) (drop 1 rest)) (left - 1)
    unfolding end_at
    passing-dot d = record { same_end = rw (to_end 1 rest) (by-rest rest left l z d) ∙ p.same_end }
      where
        by-rest : (r : Bytes) (k : ℕ) → (length r ≡ 0 → ⊥) → 0 < k → get_or r 0 0 ≡ 46 → end_at (k - 1) (drop 1 r) ≡ end_at k r
        by-rest [] k l z d = absurd (l refl)
        by-rest (x ∷ r) zero l z d = absurd (omega arith)
        by-rest (x ∷ r) (suc k) l z d = let e : suc k - 1 ≡ k = omega arith in rw (e, d)

    -- another byte is passed
    pub passing-other : (get_or rest 0 0 ≡ 46 → ⊥) → Passing w dots (take (length rest - 1) (drop 1 rest)) left
    unfolding end_at
    passing-other n = record { same_end = rw (to_end 1 rest) (by-rest rest left l z n) ∙ p.same_end }
      where
        by-rest : (r : Bytes) (k : ℕ) → (length r ≡ 0 → ⊥) → 0 < k → (get_or r 0 0 ≡ 46 → ⊥) → end_at k (drop 1 r) ≡ end_at k r
        by-rest [] k l z n = absurd (l refl)
        by-rest (x ∷ r) zero l z n = absurd (omega arith)
        by-rest (x ∷ r) (suc k) l z n = rw (ne_eqb 46 x (λ e. n (sym e)))

-- the rest without its first byte is shorter
pub cut-shorter : (rest : Bytes) → (length rest ≡ 0 → ⊥) → length (take (length rest - 1) (drop 1 rest)) < length rest
cut-shorter rest l = rw (to_end 1 rest) (omega (arith, length-drop 1 rest))
