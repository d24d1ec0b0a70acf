-- Putting ends into a set of targets: the walk to an empty slot, one end, and ends one after the other. Assumes nothing.
use mathlib.Core.Path.{◌≡◌, refl, sym, ◌∙◌, ap}
use mathlib.Core.Bool.{Bool, true, false, ◌||◌, or-false}
use mathlib.Core.List.{List, [], ◌∷◌, ◌++◌}
use mathlib.Core.Logic.{⊎_elim}
use Prim.Native.Nat.{ℕ, suc, ◌+◌, ◌-◌, ◌*◌, ◌/◌, ◌%◌, ◌≤◌, ◌<◌}
use native.Mathlib.Omega.{arith}
use native.Mathlib.Numerals.{add-one}
use lib.Dec.{T}
use lib.ListN.{length, get_or, set, take, drop, take-append-drop, length-map, get_or-map}
use lib.Seq.{take-suc, take_all}
use Rattle.std.specs.Prelude.{Option, Some}
use Rattle.names.specs.Words.{Bytes, same, one_of}
use Rattle.names.specs.Counted.{name_at}
use Rattle.names.proofs.Bools.{is_true, or_cases, or_left, or_right}
use Rattle.names.proofs.Words.{eq-same}
use Rattle.names.proofs.Any.{any_append}
use Rattle.sets.specs.declared.Sought.{Sought}
use Rattle.sets.specs.declared.Sought.TheVariants as sought
use Rattle.sets.specs.Hashes.{home_of}
use Rattle.sets.specs.Sets.{Slots, held, Reachable, Room, Walked}
use Rattle.sets.proofs.Held.{held_at}
use Rattle.sets.proofs.Putting.{put-known, reachable-after, holds_after}
use Rattle.targets.specs.declared.DottedEnd.{DottedEnd}
use Rattle.targets.specs.Ends.{after_dots, dotted_ends}
use Rattle.targets.specs.Slots.{numbered, after, end_word, slot_end, InSlot, end_slots}
use Rattle.targets.specs.Put.{EndFits, Compared, Probed, Gained}
use Rattle.targets.specs.Entries.{ends_with}
use Rattle.targets.proofs.Dotted.{ends-nth, ends-count}

-- an answer is not both
pub never : {A : Type 0} → false ≡ true → A
never q = absurd (let z : ◌≡◌ {A = ℕ} 0 1 = cc in omega arith)

-- 1. The walk

-- a walk from a word's home that compares the names of each slot
pub walked-probed : (k : Slots) (slots : List ℕ) (w : Bytes) {home : ℕ} → home ≡ home_of (length slots) w → (x : Sought) → Walked (Compared k slots w) home (length slots) x → Probed k slots w x
walked-probed k slots w e sought.Found h =
    is_true (one_of w (held k slots)) (held_at k w slots h.0 h.2.0 (eq-same w (k.word (get_or slots h.0 0)) h.2.1))
walked-probed k slots w e (sought.Vacant s) h = record { inside = h.2; empty = h.3; home = rw (← e) h.1; between = λ j g l. h.0.other j (rw e g) l }
walked-probed k slots w e sought.Exhausted h = tt

-- 2. Words one after the other

module _ (k : Slots) {before : List ℕ} (r : Reachable k before) where
  -- none, where there is none to put
  pub gained-none : Gained k [] before before false
  gained-none = record { reachable = r; all = λ _ t. refl; sound = λ t h. h; kept = λ t h. h }

  -- none, where there is no room
  pub gained-full : (ws : List Bytes) → Gained k ws before before true
  gained-full ws = record { reachable = r; all = λ q. never (sym q); sound = λ t. or_right (one_of t ws) (one_of t (held k before)); kept = λ t h. h }

-- all of them
gained-all : (k : Slots) (ws : List Bytes) {before after : List ℕ} → Reachable k after
    → ((t : Bytes) → one_of t (held k after) ≡ one_of t ws || one_of t (held k before)) → Gained k ws before after false
gained-all k ws {before} r e = record {
  reachable = r;
  all = λ _. e;
  sound = λ t h. rw (e t) at h;
  kept = λ t h. rw (e t) (or_right (one_of t ws) (one_of t (held k before)) h);
}

-- neither: not the first
pub or-false-left : (a b : Bool) → a || b ≡ false → a ≡ false
or-false-left true b q = never (sym q)
or-false-left false b q = refl

-- neither: not the second
pub or-false-right : (a b : Bool) → a || b ≡ false → b ≡ false
or-false-right true b q = never (sym q)
or-false-right false b q = q

-- what the first of two sets of words gained, and then the second
pub regroup : (x y b : Bool) → y || (x || b) ≡ (x || y) || b
regroup true true b = refl
regroup true false b = refl
regroup false true b = refl
regroup false false b = refl

-- what follows from the second of two
pub or-widen : (a b c : Bool) → (T b → T c) → T (a || b) → T (a || c)
or-widen true b c f t = tt
or-widen false b c f t = f t

-- some, and then others
pub gained-append : {k : Slots} {xs ys : List Bytes} {before middle after : List ℕ} {left right : Bool} → Gained k xs before middle left
    → Gained k ys middle after right → Gained k (xs ++ ys) before after (left || right)
gained-append {k} {xs} {ys} {before} {middle} {left = left} {right} g h = record {
  reachable = h.reachable;
  all = λ q t.
      rw (
        h.all (or-false-right left right q) t,
        g.all (or-false-left left right q) t,
        any_append (same t) xs ys,
        regroup (one_of t xs) (one_of t ys) (one_of t (held k before)),
      );
  sound = λ t s.
      rw (any_append (same t) xs ys, ← regroup (one_of t xs) (one_of t ys) (one_of t (held k before)))
      (or-widen (one_of t ys) (one_of t (held k middle)) (one_of t xs || one_of t (held k before)) (g.sound t) (h.sound t s));
  kept = λ t s. h.kept t (g.kept t s);
}

-- the first of them are some of them
pub gained-front : {k : Slots} (n : ℕ) (ws : List Bytes) {before after : List ℕ} {left : Bool} → Gained k (take n ws) before after left → Gained k ws before after true
gained-front {k} n ws {before} g = record {
  reachable = g.reachable;
  all = λ q. never (sym q);
  sound = λ t h.
      ⊎_elim (λ i. or_left (one_of t ws) (one_of t (held k before)) (front-in t i)) (or_right (one_of t ws) (one_of t (held k before)))
      (or_cases (one_of t (take n ws)) (one_of t (held k before)) (g.sound t h));
  kept = g.kept;
}
  where
    front-in : (t : Bytes) → T (one_of t (take n ws)) → T (one_of t ws)
    front-in t i =
        let e : one_of t ws ≡ one_of t (take n ws) || one_of t (drop n ws) = ap (one_of t) (sym (take-append-drop n ws)) ∙ any_append (same t) (take n ws) (drop n ws) in
        rw e (or_left (one_of t (take n ws)) (one_of t (drop n ws)) i)

-- 3. One end

-- the low 20 bits
low : (a b : ℕ) → a < 1048576 → (a + b * 1048576) % 1048576 ≡ a
low a b h = omega arith

-- the slot that has an end, by the numbers of its places
pub slot-has : (e : DottedEnd) {second third : ℕ} → EndFits e → numbered second ≡ e.second → second < 1048576 → numbered third ≡ e.third → third < 1048576
    → InSlot (1 + (e.first + second * 1048576 + third * 1099511627776 + e.dots * 1152921504606846976)) (Some e)
slot-has e {second = s} {third = t} h p l q m =
    let n = e.first + s * 1048576 + t * 1099511627776 + e.dots * 1152921504606846976 in
    let back : 1 + n - 1 ≡ n = omega arith in
    let first : n % 1048576 ≡ e.first = omega (arith, h.parts.first_fits) in
    let past_first : n / 1048576 ≡ s + (t + e.dots * 1048576) * 1048576 = omega (arith, h.parts.first_fits) in
    let second : n / 1048576 % 1048576 ≡ s = rw past_first (low s (t + e.dots * 1048576) l) in
    let past-second : n / 1099511627776 ≡ t + e.dots * 1048576 = omega (arith, h.parts.first_fits, l) in
    let third : n / 1099511627776 % 1048576 ≡ t = rw past-second (low t e.dots m) in
    let dots : n / 1152921504606846976 ≡ e.dots = omega (arith, h.parts.first_fits, l, m) in
    (λ z. omega arith, rw (back, first, second, third, dots, p, q))

-- by where the walk over the slots of the end stopped
module _ (file slots : List ℕ) (e : DottedEnd) (r : Reachable (end_slots file) slots) {x : Sought}
    (t : Probed (end_slots file) slots (end_word file e) x) where
  -- at the same names
  pub found-gained : x ≡ sought.Found → Gained (end_slots file) (end_word file e ∷ []) slots slots false
  found-gained q =
      gained-all (end_slots file) (end_word file e ∷ []) r
      (λ v. rw (or-false (same v (end_word file e))) ((put-known (end_slots file) slots (end_word file e) r (sym (rw q at t))).holds refl v))

  -- past the last slot
  pub exhausted-gained : x ≡ sought.Exhausted → Gained (end_slots file) (end_word file e ∷ []) slots slots true
  exhausted-gained q = gained-full (end_slots file) r (end_word file e ∷ [])

  -- at an empty slot
  pub vacant-room : {s : ℕ} → x ≡ sought.Vacant s → Room slots (end_word file e) s
  vacant-room q = rw q at t

  -- at an empty slot, in which the end is stored
  pub vacant-gained : {s v : ℕ} → x ≡ sought.Vacant s → InSlot v (Some e) → Gained (end_slots file) (end_word file e ∷ []) slots (set slots s v) false
  vacant-gained {s} {v} q h =
      let named : end_word file (slot_end v) ≡ end_word file e = rw (← h.1) in
      gained-all (end_slots file) (end_word file e ∷ [])
      (reachable-after (end_slots file) slots r (end_word file e) v s (vacant-room q) h.0 named refl)
      (λ w. rw (or-false (same w (end_word file e))) (holds_after (end_slots file) slots r (end_word file e) v s (vacant-room q) h.0 named refl w))

-- 4. The ends that begin in a name

module _ (file : List ℕ) (first : ℕ) (second third : Option ℕ) where
  -- what follows the name
  abbrev rest : Bytes
  rest = after file second ++ after file third

  -- all ends that begin in it
  abbrev all-ends : List Bytes
  all-ends = ends_with file first rest

  -- the first so many were put
  pub record EndsPut (before set : List ℕ) (d : ℕ) : Type 0 where
    pub inside : d ≤ length all-ends
    pub gained : Gained (end_slots file) (take d all-ends) before set false

  -- none was put
  pub ends-start : {set : List ℕ} → Reachable (end_slots file) set → EndsPut set set 0
  ends-start r = record { inside = omega arith; gained = gained-none (end_slots file) r }

  -- how many there are
  count : {name : Bytes} {dots : ℕ} → name ≡ name_at file first → dots ≡ length (after_dots name) → length all-ends ≡ suc dots
  count e q = length-map (dotted_ends (name_at file first)) (λ (w : Bytes). w ++ rest) ∙ ends-count (name_at file first) ∙ rw (q, e)

  -- the end of this number
  nth : (d : ℕ) → d < length all-ends → take (d + 1) all-ends ≡ take d all-ends ++ (end_word file (record { first = first; second = second; third = third; dots = d }) ∷ [])
  unfolding end_word
  nth d h =
      rw (
        add-one d,
        take-suc all-ends d ([] ++ rest) h,
        get_or-map (λ (w : Bytes). w ++ rest) (dotted_ends (name_at file first)) d [],
        ends-nth (name_at file first) d,
      )

  module _ {name : Bytes} {dots : ℕ} (e : name ≡ name_at file first) (q : dots ≡ length (after_dots name)) {before set : List ℕ} {d : ℕ} (p : EndsPut before set d) where
    module _ {after : List ℕ} {r : Bool} (h : d ≤ dots)
        (g : Gained (end_slots file) (end_word file (record { first = first; second = second; third = third; dots = d }) ∷ []) set after r) where
      -- the end of the number d was put, or there was no room for it
      one_more : Gained (end_slots file) (take (d + 1) all-ends) before after r
      one_more = rw (nth d (omega (arith, count e q))) (gained-append p.gained g)

      -- one more was put
      pub ends_next : r ≡ false → EndsPut before after (d + 1)
      ends_next f = record { inside = omega (arith, count e q); gained = rw f at one_more }

      -- there was no room for it
      pub ends-stop : r ≡ true → Gained (end_slots file) all-ends before after true
      ends-stop f = gained-front (d + 1) all-ends one_more

    -- there are more than a slot can tell apart
    pub ends-many : Gained (end_slots file) all-ends before set true
    ends-many = gained-front d all-ends p.gained

    -- none is left
    pub ends-end : dots < d → Gained (end_slots file) all-ends before set false
    ends-end h = rw (take_all d all-ends (omega (arith, count e q))) at p.gained
