-- Where places rise, the numbers with places before another stand first: so the place in one slot says whether they reach beyond it, and a run of places is cut out. Assumes nothing.
use mathlib.Core.Path.{◌≡◌, refl, sym, ◌∙◌}
use mathlib.Core.Bool.{Bool, true, false, not, ◌&&◌}
use mathlib.Core.List.Memᴰ
use mathlib.Core.List.{List, [], ◌∷◌, Memᴰ}
use mathlib.Core.Logic.{◌⊎◌, inl, inr}
use Prim.Native.Nat.{ℕ, zero, suc, ◌+◌, ◌-◌, ◌≤◌, ◌<◌}
use native.Mathlib.Omega.{arith}
use lib.Dec.{ltb}
use lib.ListN.{length, get_or, take, drop, length-take, length-drop}
use lib.Seq.{take_all}
use borrow.Author.Tests.{ltb-true, ltb-false, lt-ltb, le-ltb}
use Rattle.fields.specs.Bytes.{pick}
use Rattle.records.specs.Numbers.{place_in, between}
use Rattle.story.specs.Flows.{part}
use Rattle.items.specs.Bodies.{Rising}
use Rattle.items.specs.Runs.{number_before, numbers_from}

-- 1. How many have a place before p

module _ (p : ℕ) where
  -- all the places are from p on
  abbrev Onward : List ℕ → Type 0
  Onward xs = (y : ℕ) → Memᴰ y xs → p ≤ place_in y

  pub number_fits : (xs : List ℕ) → number_before p xs ≤ length xs
  unfolding number_before
  number_fits [] = omega arith
  number_fits (x ∷ xs) = by-test (ltb (place_in x) p) (number_fits xs)
    where
      by-test : (b : Bool) → number_before p xs ≤ length xs → pick b (suc (number_before p xs)) (number_before p xs) ≤ suc (length xs)
      by-test true h = omega arith
      by-test false h = omega arith

  number-none : (xs : List ℕ) → Onward xs → number_before p xs ≡ 0
  unfolding number_before
  number-none [] h = refl
  number-none (x ∷ xs) h = rw (le-ltb (place_in x) p (h x (Memᴰ.head refl))) (number-none xs (λ y m. h y (Memᴰ.tail m)))

  -- all that follow one from p on are from p on
  onward-after : (x : ℕ) (xs : List ℕ) → Rising (x ∷ xs) → p ≤ place_in x → Onward xs
  onward-after x xs h q y m = omega (arith, h.0 y m)

  onward-all : (x : ℕ) (xs : List ℕ) → Rising (x ∷ xs) → p ≤ place_in x → Onward (x ∷ xs)
  onward-all x xs h q y m = by-case (Memᴰ.cases_cons m)
    where
      by-case : (y ≡ x) ⊎ Memᴰ y xs → p ≤ place_in y
      by-case (inl e) = rw e q
      by-case (inr i) = onward-after x xs h q y i

  -- a slot whose place is before p is one of the first, and one whose place is from p on is none of them
  slot-before : (xs : List ℕ) → Rising xs → (i : ℕ) → i < length xs → place_in (get_or xs i 0) < p → i < number_before p xs
  unfolding number_before
  slot-before [] h i q less = absurd (omega arith)
  slot-before (x ∷ xs) h zero q less = rw (lt-ltb (place_in x) p less) (omega arith)
  slot-before (x ∷ xs) h (suc i) q less = by-test (ltb (place_in x) p) refl (slot-before xs h.1 i (omega arith) less)
    where
      by-test : (b : Bool) → ltb (place_in x) p ≡ b → i < number_before p xs → suc i < pick b (suc (number_before p xs)) (number_before p xs)
      by-test true e r = omega arith
      by-test false e r = absurd (omega (arith, r, number-none xs (onward-after x xs h (ltb-false (place_in x) p e))))

  slot-onward : (xs : List ℕ) → Rising xs → (i : ℕ) → i < length xs → p ≤ place_in (get_or xs i 0) → number_before p xs ≤ i
  unfolding number_before
  slot-onward [] h i q more = absurd (omega arith)
  slot-onward (x ∷ xs) h zero q more = rw (le-ltb (place_in x) p more, number-none xs (onward-after x xs h more)) (omega arith)
  slot-onward (x ∷ xs) h (suc i) q more = by-test (ltb (place_in x) p) (slot-onward xs h.1 i (omega arith) more)
    where
      by-test : (b : Bool) → number_before p xs ≤ i → pick b (suc (number_before p xs)) (number_before p xs) ≤ suc i
      by-test true r = omega arith
      by-test false r = omega arith

-- by the place in a slot, as the code reads it, they reach beyond the slot or do not
pub reach-beyond : (p : ℕ) (xs : List ℕ) (i : ℕ) {x : ℕ} → Rising xs → i < length xs → x ≡ place_in (get_or xs i 0) → x < p → i < number_before p xs
reach-beyond p xs i h q e less = slot-before p xs h i q (omega (arith, e))

pub reach-upto : (p : ℕ) (xs : List ℕ) (i : ℕ) {x : ℕ} → Rising xs → i < length xs → x ≡ place_in (get_or xs i 0) → p ≤ x → number_before p xs ≤ i
reach-upto p xs i h q e more = slot-onward p xs h i q (omega (arith, e))

-- 2. A run of places

module _ (from to : ℕ) where
  onward-run : (xs : List ℕ) → Rising xs → Onward from xs → take (number_before to xs) xs ≡ between from to xs
  unfolding number_before between
  onward-run [] h on = refl
  onward-run (x ∷ xs) h on = rw (le-ltb (place_in x) from (on x (Memᴰ.head refl))) (by-test (ltb (place_in x) to) refl (onward-run xs h.1 (λ y m. on y (Memᴰ.tail m))))
    where
      by-test : (b : Bool) → ltb (place_in x) to ≡ b → take (number_before to xs) xs ≡ between from to xs
          → take (pick b (suc (number_before to xs)) (number_before to xs)) (x ∷ xs) ≡ pick b (x ∷ between from to xs) (between from to xs)
      by-test true e r = rw r
      by-test false e r = let none = number-none to xs (onward-after to x xs h (ltb-false (place_in x) to e)) in rw none (rw none at r)

  rising-run : (xs : List ℕ) → Rising xs → take (number_before to (numbers_from from xs)) (numbers_from from xs) ≡ between from to xs
  unfolding number_before between
  rising-run [] h = refl
  rising-run (x ∷ xs) h = by-test (ltb (place_in x) from) refl (rising-run xs h.1)
    where
      run : List ℕ → List ℕ
      run ys = take (number_before to ys) ys

      by-test : (b : Bool) → ltb (place_in x) from ≡ b → run (numbers_from from xs) ≡ between from to xs
          → run (drop (pick b (suc (number_before from xs)) (number_before from xs)) (x ∷ xs)) ≡ pick (not b && ltb (place_in x) to) (x ∷ between from to xs) (between from to xs)
      by-test true e r = r
      by-test false e r =
          let on = ltb-false (place_in x) from e in
          rw (number-none from xs (onward-after from x xs h on)) (rw e at (onward-run (x ∷ xs) h (onward-all from x xs h on)))

-- 3. The numbers from a place on

-- all of them are from the place on
from-onward : (p : ℕ) (xs : List ℕ) → Rising xs → Onward p (numbers_from p xs)
unfolding number_before
from-onward p [] h = λ y m. absurd (Memᴰ.not-nil m)
from-onward p (x ∷ xs) h = by-test (ltb (place_in x) p) refl (from-onward p xs h.1)
  where
    by-test : (b : Bool) → ltb (place_in x) p ≡ b → Onward p (numbers_from p xs) → Onward p (drop (pick b (suc (number_before p xs)) (number_before p xs)) (x ∷ xs))
    by-test true e r = r
    by-test false e r =
        let on = ltb-false (place_in x) p e in
        rw (number-none p xs (onward-after p x xs h on)) (onward-all p x xs h on)

rising-drop : (n : ℕ) (xs : List ℕ) → Rising xs → Rising (drop n xs)
rising-drop zero xs h = h
rising-drop (suc n) [] h = h
rising-drop (suc n) (x ∷ xs) h = rising-drop n xs h.1

pub from-rising : (p : ℕ) (xs : List ℕ) → Rising xs → Rising (numbers_from p xs)
from-rising p xs h = rising-drop (number_before p xs) xs h

-- a run that begins at the place is the same run of them
pub from-run : (p to : ℕ) (xs : List ℕ) → Rising xs → between p to (numbers_from p xs) ≡ between p to xs
from-run p to xs h =
    let rest = numbers_from p xs in
    sym (onward-run p to rest (from-rising p xs h) (from-onward p xs h)) ∙ rising-run p to xs h

-- 4. What the code cuts: of those from a place on, as many as have a place before the second

-- all from a slot on
rest_all : (n : ℕ) (xs : List ℕ) → take (length xs - n) (drop n xs) ≡ drop n xs
rest_all n xs = take_all (length xs - n) (drop n xs) (omega (arith, length-drop n xs))

pub from_cut : (p : ℕ) (xs : List ℕ) {n : ℕ} → n ≡ number_before p xs → take (length xs - n) (drop n xs) ≡ numbers_from p xs
from_cut p xs {n} q = rw (rest_all n xs, q)

pub cut-length : (to : ℕ) (ys : List ℕ) {m : ℕ} → m ≡ number_before to ys → m ≡ length (take m ys)
cut-length to ys {m} q = omega (arith, q, number_fits to ys, length-take m ys)

pub cut-run : (from to : ℕ) (xs : List ℕ) → Rising xs → {ys : List ℕ} {m : ℕ} → ys ≡ numbers_from from xs → m ≡ number_before to ys → take m ys ≡ between from to xs
cut-run from to xs h p q = rw (q, p) (rising-run from to xs h)

-- 5. A run by the numbers of its first and of the one after its last

module _ (p : ℕ) where
  -- after some of those that have a place before p there are so many fewer
  pub number-drop : (n : ℕ) (xs : List ℕ) → Rising xs → n ≤ number_before p xs → n + number_before p (drop n xs) ≡ number_before p xs
  unfolding number_before
  number-drop zero xs h q = omega arith
  number-drop (suc n) [] h q = absurd (omega arith)
  number-drop (suc n) (x ∷ xs) h q = by-test (ltb (place_in x) p) refl (λ r. number-drop n xs h.1 r) q
    where
      by-test : (b : Bool) → ltb (place_in x) p ≡ b → (n ≤ number_before p xs → n + number_before p (drop n xs) ≡ number_before p xs)
          → suc n ≤ pick b (suc (number_before p xs)) (number_before p xs) → suc n + number_before p (drop n xs) ≡ pick b (suc (number_before p xs)) (number_before p xs)
      by-test true e later r = omega (arith, later (omega arith))
      by-test false e later r = absurd (omega (arith, r, number-none p xs (onward-after p x xs h (ltb-false (place_in x) p e))))

module _ (from to : ℕ) (ordered : from ≤ to) where
  -- a later place has no fewer before it
  pub number-rises : (xs : List ℕ) → number_before from xs ≤ number_before to xs
  unfolding number_before
  number-rises [] = omega arith
  number-rises (x ∷ xs) = by-test (ltb (place_in x) from) refl (number-rises xs)
    where
      later : (b : Bool) → number_before from xs ≤ number_before to xs → number_before from xs ≤ pick b (suc (number_before to xs)) (number_before to xs)
      later true r = omega arith
      later false r = omega arith

      by-test : (b : Bool) → ltb (place_in x) from ≡ b → number_before from xs ≤ number_before to xs
          → pick b (suc (number_before from xs)) (number_before from xs) ≤ pick (ltb (place_in x) to) (suc (number_before to xs)) (number_before to xs)
      by-test true e r = rw (lt-ltb (place_in x) to (omega (arith, ltb-true (place_in x) from e))) (omega arith)
      by-test false e r = later (ltb (place_in x) to) r

  -- THE RUN from the one place to the other
  pub run-by-numbers : (xs : List ℕ) → Rising xs → part (number_before from xs) (number_before to xs) xs ≡ between from to xs
  unfolding part
  run-by-numbers xs h =
      let first = number_before from xs in
      cut-run from to xs h {ys = drop first xs} {m = number_before to xs - first} refl (omega (arith, number-drop to first xs h (number-rises xs)))

-- counted on from a slot, as the code does
pub number-on : (p start : ℕ) (xs : List ℕ) {n : ℕ} → Rising xs → start ≤ number_before p xs → n ≡ number_before p (take (length xs - start) (drop start xs)) → start + n ≡ number_before p xs
number-on p start xs h q e = rw (e, rest_all start xs) (number-drop p start xs h q)

-- the places from a slot on rise
pub rest-rising : (start : ℕ) (xs : List ℕ) → Rising xs → Rising (take (length xs - start) (drop start xs))
rest-rising start xs h = rw (rest_all start xs) (rising-drop start xs h)
