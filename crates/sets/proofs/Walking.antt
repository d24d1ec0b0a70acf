-- The walk over the slots of a word: what is known while it goes on, and what its end says. Assumes nothing.
use mathlib.Core.Path.{◌≡◌, refl, sym, ◌∙◌}
use mathlib.Core.Bool.{Bool, true, false}
use mathlib.Core.List.{List, ◌∷◌}
use Prim.Native.Nat.{ℕ, ◌+◌, ◌*◌, ◌/◌, ◌%◌, ◌≤◌, ◌<◌}
use native.Mathlib.Omega.{arith}
use native.Mathlib.Decide.{dec_lt}
use lib.ListN.{length, get_or}
use borrow.Author.Tests.{eq-eqb}
use Rattle.names.specs.Words.{Bytes, same, one_of}
use Rattle.names.proofs.Bools.{is_true, is_false}
use Rattle.names.proofs.Words.{same-eq}
use Rattle.sets.specs.declared.Sought.{Sought}
use Rattle.sets.specs.declared.Sought.TheVariants as sought
use Rattle.sets.specs.Hashes.{hash_of, tag_of, homes, home_of}
use Rattle.sets.specs.declared.Class.{Class}
use Rattle.sets.specs.declared.Class.TheVariants.{Global, External, Flow, Function, Label, Temp, Gather}
use Rattle.sets.specs.Sets.{number_of, Slots, held, Reachable, Room, Others, Walked, Looked, Ended}
use Rattle.sets.proofs.Held.{slot-inside, Holds, held_at, held-some}

-- the home of a word by its hash
pub home-of : (slots : ℕ) (w : Bytes) {hash home : ℕ} → hash ≡ hash_of w → home ≡ hash * homes slots / 4294967296 → home ≡ home_of slots w
unfolding home_of
home-of slots w p q = rw (q, p)

module _ {k : Slots} {slots : List ℕ} (w : Bytes) {home s : ℕ} (e : home ≡ home_of (length slots) w) (o : Others (Looked k slots w) home s) where
  -- the slot s is empty, or there is none
  absent : Reachable k slots → (s < length slots → (home ≤ s) × (get_or slots s 0 ≡ 0)) → one_of w (held k slots) ≡ false
  absent r h = is_false (one_of w (held k slots)) (λ t. not-held (held-some k w slots t))
    where
      not-held : Holds k w slots → ⊥
      not-held m =
          let q : w ≡ k.word (get_or slots m.at 0) = same-eq w (k.word (get_or slots m.at 0)) m.name in
          let from : home ≤ m.at = rw (e, q) (r.home m.at m.filled) in
          by-slot (dec_lt m.at s) (dec_lt s m.at) q from
        where
          by-slot : Dec (m.at < s) → Dec (s < m.at) → w ≡ k.word (get_or slots m.at 0) → home ≤ m.at → ⊥
          by-slot (yes l) g q from = rw (o.other m.at from l).1 at m.name
          by-slot (no l) (yes g) q from =
              let here = h (omega (arith, slot-inside slots m.at m.filled)) in
              let start : home_of (length slots) (k.word (get_or slots m.at 0)) ≤ s = rw (← q, ← e) here.0 in
              r.between m.at s m.filled start g here.1
          by-slot (no l) (no g) q from =
              let p : m.at ≡ s = omega arith in
              m.filled (rw p (h (omega (arith, slot-inside slots m.at m.filled))).1)

-- a walk from a word's home that says of each slot whether it has the word
pub walked-ended : (k : Slots) (slots : List ℕ) (w : Bytes) {home : ℕ} → home ≡ home_of (length slots) w → Reachable k slots
    → (x : Sought) → Walked (Looked k slots w) home (length slots) x → Ended k slots w x
walked-ended k slots w e r sought.Found h =
    is_true (one_of w (held k slots)) (held_at k w slots h.0 h.2.0 (rw h.2.1 tt))
walked-ended k slots w e r (sought.Vacant s) h =
    (absent w e h.0 r (λ _. (h.1, h.3)), record { inside = h.2; empty = h.3; home = rw (← e) h.1; between = λ j g l. (h.0.other j (rw e g) l).0 })
walked-ended k slots w e r sought.Exhausted h = absent w e h r (λ g. absurd (omega arith))

-- a slot whose mark is not the word's has another name
pub marks-differ : (k : Slots) (w : Bytes) (slot : ℕ) {mark : ℕ} → mark ≡ k.mark_of w → k.mark slot ≡ k.mark_of (k.word slot) → (k.mark slot ≡ mark → ⊥)
    → false ≡ same w (k.word slot)
marks-differ k w slot p q d = sym (is_false (same w (k.word slot)) (λ t. d (q ∙ rw (p, ← same-eq w (k.word slot) t))))

-- the tag of a name in a class by its hash
pub tag-of : (class : ℕ) (w : Bytes) {hash : ℕ} → hash ≡ hash_of (class ∷ w) → class + 4 * (hash % 512) ≡ tag_of (class ∷ w)
unfolding tag_of
tag-of class w p = rw p

-- the tag of a name in a class begins with the class
pub tag_class : (class : ℕ) (w : Bytes) {tag : ℕ} → class < 4 → tag ≡ tag_of (class ∷ w) → tag % 4 ≡ class
unfolding tag_of
tag_class class w h p = omega arith

-- a slot with the tag of a name in a class has the class
pub class_of : (class : ℕ) (w n : Bytes) (number : ℕ) {tag : ℕ} {r : Bool} → class < 4 → tag ≡ tag_of (class ∷ w) → number / 1048576 ≡ tag → r ≡ same w n
    → r ≡ same (class ∷ w) (number / 1048576 % 4 ∷ n)
unfolding tag_of
class_of class w n number h p q e = let own : number / 1048576 % 4 ≡ class = omega arith in rw (own, eq-eqb class class refl) e

-- what the end of a walk says to the one who asked
module _ (k : Slots) (slots : List ℕ) (w : Bytes) {r : Sought} (e : Ended k slots w r) where
  pub walk-found : r ≡ sought.Found → true ≡ one_of w (held k slots)
  walk-found q = sym (rw q at e)

  pub walk-vacant : {s : ℕ} → r ≡ sought.Vacant s → (false ≡ one_of w (held k slots)) × Room slots w s
  walk-vacant q = let h = rw q at e in (sym h.0, h.1)

  pub walk-exhausted : r ≡ sought.Exhausted → false ≡ one_of w (held k slots)
  walk-exhausted q = sym (rw q at e)

-- a class has one of four numbers
pub number-bound : (class : Class) → number_of class < 4
number-bound Global = omega arith
number-bound External = omega arith
number-bound Flow = omega arith
number-bound Function = omega arith
number-bound Label = omega arith
number-bound Temp = omega arith
number-bound Gather = omega arith
