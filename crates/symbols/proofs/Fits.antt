-- How a target fits a spelling q.p: by what stands before .p in it, or within p. Assumes nothing.
use mathlib.Core.Path.{◌≡◌, sym, ◌∙◌, ap}
use mathlib.Core.Bool.{Bool, false}
use mathlib.Core.List.{[], ◌∷◌, ◌++◌, append_assoc, append_cancel_right}
use Prim.Native.Nat.{ℕ, suc, ◌+◌, ◌-◌, ◌≤◌, ◌<◌}
use native.Mathlib.Omega.{arith}
use native.Mathlib.Decide.{dec_le}
use lib.Dec.{T}
use lib.ListN.{length, get_or, take, drop, length-append, length-drop}
use lib.Seq.{drop-cons, take_all, take_at}
use borrow.Author.Tests.{ne_eqb}
use Rattle.names.specs.Words.{Bytes, same, ends}
use Rattle.names.proofs.Bools.{bool-ext, is_false}
use Rattle.names.proofs.Words.{same-eq, eq-same, same-lengths, ends-split, ends_join, ends-after, ends-short, ends_last, ends_at}
use Rattle.symbols.specs.declared.Fit.{Fit}
use Rattle.symbols.specs.Fits.{fit_of, answers, end_fit}

-- 1. An ending with its dot

module _ (s end : Bytes) (h : length end < length s) where
  -- where the dot would stand
  abbrev dot : ℕ
  dot = length s - length end - 1

  -- the byte there, and those after it
  dot_at : ends (46 ∷ end) s ≡ same (46 ∷ end) (get_or s dot 0 ∷ drop (dot + 1) s)
  dot_at =
      let m : length s - suc (length end) ≡ dot = omega arith in
      let e : suc dot ≡ dot + 1 = omega arith in
      ends_at (46 ∷ end) s (omega arith) ∙ rw (m, drop-cons s dot 0 (omega arith), e)

  -- another byte than the dot
  pub dot-other : (get_or s dot 0 ≡ 46 → ⊥) → false ≡ ends (46 ∷ end) s
  dot-other d = rw (dot_at, ne_eqb 46 (get_or s dot 0) (λ e. d (sym e)))

  -- the dot: the last bytes decide
  pub dot-there : get_or s dot 0 ≡ 46 → {r : Bool} → r ≡ same end (take (length s - (dot + 1)) (drop (dot + 1) s)) → r ≡ ends (46 ∷ end) s
  dot-there d e = e ∙ rw (dot_at, d, take_all (length s - (dot + 1)) (drop (dot + 1) s) (simp length-drop (omega arith)))

-- 2. Words with the same end

pub same-both : (a b x : Bytes) → same (a ++ x) (b ++ x) ≡ same a b
same-both a b x =
    bool-ext (same (a ++ x) (b ++ x)) (same a b)
    (λ t. eq-same a b (append_cancel_right a b x (same-eq (a ++ x) (b ++ x) t)))
    (λ t. eq-same (a ++ x) (b ++ x) (ap (λ (l : Bytes). l ++ x) (same-eq a b t)))

pub ends-both : (a b x : Bytes) → ends (a ++ x) (b ++ x) ≡ ends a b
ends-both a b x =
    bool-ext (ends (a ++ x) (b ++ x)) (ends a b)
    (λ t. let s = ends-split (a ++ x) (b ++ x) t in ends_join a b s.0 (append_cancel_right b (s.0 ++ a) x (s.1 ∙ sym (append_assoc s.0 a x))))
    (λ t. let s = ends-split a b t in ends_join (a ++ x) (b ++ x) s.0 (ap (λ (l : Bytes). l ++ x) s.1 ∙ append_assoc s.0 a x))

-- 3. A target at a spelling q.p

module _ (t p : Bytes) (e : T (ends (46 ∷ p) t)) where
  -- it ends in .p, and before that stands
  pub before : take (length t - length p - 1) t ++ (46 ∷ p) ≡ t
  before =
      let s = ends-split (46 ∷ p) t e in
      let l : length s.0 ≡ length t - length p - 1 = omega (arith, simp length-append at (ap length s.1)) in
      ap (λ (w : Bytes). take (length t - length p - 1) w ++ (46 ∷ p)) s.1
      ∙ rw (take_at s.0 (46 ∷ p) (length t - length p - 1) l) (sym s.1)

module _ (t p q : Bytes) (n : T (ends (46 ∷ p) t) → ⊥) where
  -- where it does not end in .p it is not q.p,
  not_same : same t (q ++ (46 ∷ p)) ≡ false
  not_same = is_false (same t (q ++ (46 ∷ p))) (λ e. n (ends_join (46 ∷ p) t q (same-eq t (q ++ (46 ∷ p)) e)))

  -- and q.p ends in the dotted target where the target fits within p
  within : ends (46 ∷ t) (q ++ (46 ∷ p)) ≡ answers t p
  within = by_length (dec_le (length t) (length p))
    where
      long : length p < length t → T (ends (46 ∷ t) (q ++ (46 ∷ p))) → ⊥
      long h e =
          let s = ends-split (46 ∷ t) (q ++ (46 ∷ p)) e in
          n (rw (← ends_last (46 ∷ p) (s.0 ++ (46 ∷ [])) t (omega arith), append_assoc s.0 (46 ∷ []) t, ← s.1) (ends-after (46 ∷ p) q))

      by_length : Dec (length t ≤ length p) → ends (46 ∷ t) (q ++ (46 ∷ p)) ≡ answers t p
      by_length (yes h) = ends_last (46 ∷ t) q (46 ∷ p) (omega arith)
      by_length (no h) =
          is_false (ends (46 ∷ t) (q ++ (46 ∷ p))) (long (omega arith))
          ∙ rw (same-lengths t p (λ e. h (omega arith)), ends-short (46 ∷ t) p (omega arith))

-- 4. The same, from what stands in the target before .p, or from the test r whether it ends so, and an answer f by what that showed

module _ (t p q : Bytes) where
  pub reach-fit : (w : Bytes) → w ++ (46 ∷ p) ≡ t → {f : Fit} → f ≡ fit_of w q → f ≡ fit_of t (q ++ (46 ∷ p))
  reach-fit w e a =
      a ∙ sym (ap (λ (x : Bytes). fit_of x (q ++ (46 ∷ p))) (sym e) ∙ rw (same-both w q (46 ∷ p), ends-both (46 ∷ w) q (46 ∷ p)))

  pub within-fit : {r : Bool} → r ≡ ends (46 ∷ p) t → r ≡ false → {f : Fit} → f ≡ end_fit t p → f ≡ fit_of t (q ++ (46 ∷ p))
  within-fit e h a =
      let n : T (ends (46 ∷ p) t) → ⊥ = λ x. rw (← e, h) at x in
      a ∙ rw (not_same t p q n, within t p q n)
