-- A name put into a set: each name stays reached from its home, and the set holds one more. Assumes nothing.
use mathlib.Core.Path.{◌≡◌, refl, ◌∙◌}
use mathlib.Core.Bool.{true, false, ◌||◌}
use mathlib.Core.List.{List, ◌∷◌}
use mathlib.Core.Logic.{⊎_elim}
use Prim.Native.Nat.{ℕ, ◌+◌, ◌-◌, ◌*◌, ◌/◌, ◌%◌, ◌≤◌, ◌<◌}
use native.Mathlib.Omega.{arith}
use native.Mathlib.Decide.{ℕ_discrete}
use lib.Dec.{T}
use lib.ListN.{length, get_or, set, length-set}
use lib.Seq.{get_or-set_same, get_or-set_other}
use Rattle.names.specs.Words.{Bytes, same, one_of}
use Rattle.names.specs.Counted.{name_at}
use Rattle.names.proofs.Bools.{bool-ext, or_cases, or_left, or_right}
use Rattle.names.proofs.Words.{same-eq}
use Rattle.sets.specs.declared.Sought.{Sought}
use Rattle.sets.specs.declared.Sought.TheVariants as sought
use Rattle.std.specs.Prelude.{Ok, Err}
use Rattle.sets.specs.declared.Full.{Full}
use Rattle.sets.specs.Hashes.{tag_of, home_of}
use Rattle.sets.specs.Sets.{Slots, name_slots, held, Reachable, Room, Ended, PutIn}
use Rattle.sets.proofs.Held.{Holds, held_at, held-some}
use Rattle.sets.proofs.Walking.{walk-found, walk-vacant, walk-exhausted, tag_class}

-- a word that is held already
pub put-known : (k : Slots) (slots : List ℕ) (n : Bytes) → Reachable k slots → true ≡ one_of n (held k slots) → PutIn k n slots slots (Ok false)
put-known k slots n r t = record {
  reachable = r;
  was = t;
  holds = λ _ w. bool-ext (one_of w (held k slots)) (same w n || one_of w (held k slots))
      (or_right (same w n) (one_of w (held k slots)))
      (λ h. ⊎_elim (λ i. rw (same-eq w n i, ← t) tt) (λ i. i) (or_cases (same w n) (one_of w (held k slots)) h));
  full = λ _. refl;
}

-- a word for which there is no room
pub put_full : (k : Slots) (slots : List ℕ) (n : Bytes) (e : Full) → Reachable k slots → false ≡ one_of n (held k slots) → PutIn k n slots slots (Err e)
put_full k slots n e r t = record {
  reachable = r;
  was = t;
  holds = λ q. absurd (let z : ◌≡◌ {A = ℕ} 0 1 = cc in omega arith);
  full = λ _. refl;
}

-- a word that is put into the first empty slot from its home on
module _ (k : Slots) (slots : List ℕ) (r : Reachable k slots) (n : Bytes) (v s : ℕ) (room : Room slots n s)
    (filled : v ≡ 0 → ⊥) (named : k.word v ≡ n) (marks : k.mark v ≡ k.mark_of n) where
  abbrev after : List ℕ
  after = set slots s v

  new : get_or after s 0 ≡ v
  new = get_or-set_same slots s v 0 room.inside

  old : (i : ℕ) → (i ≡ s → ⊥) → get_or after i 0 ≡ get_or slots i 0
  old i h = get_or-set_other slots s i v 0 h

  size : length after ≡ length slots
  size = length-set slots s v

  -- a slot that was filled before is another
  other : (i : ℕ) → (get_or slots i 0 ≡ 0 → ⊥) → i ≡ s → ⊥
  other i z q = z (rw q room.empty)

  -- and is filled still
  still : (i : ℕ) → (get_or slots i 0 ≡ 0 → ⊥) → get_or after i 0 ≡ 0 → ⊥
  still i z = rw (old i (other i z)) z

  marked-after : (i : ℕ) → (get_or after i 0 ≡ 0 → ⊥) → Dec (i ≡ s) → k.mark (get_or after i 0) ≡ k.mark_of (k.word (get_or after i 0))
  marked-after i z (yes q) = rw (q, new, named) marks
  marked-after i z (no q) = rw (old i q) (r.marked i (rw (old i q) at z))

  home_after : (i : ℕ) → (get_or after i 0 ≡ 0 → ⊥) → Dec (i ≡ s) → home_of (length after) (k.word (get_or after i 0)) ≤ i
  home_after i z (yes q) = rw (q, new, named, size) room.home
  home_after i z (no q) = rw (old i q, size) (r.home i (rw (old i q) at z))

  between-after : (i j : ℕ) → (get_or after i 0 ≡ 0 → ⊥) → home_of (length after) (k.word (get_or after i 0)) ≤ j → j < i → Dec (i ≡ s) → Dec (j ≡ s)
      → get_or after j 0 ≡ 0 → ⊥
  between-after i j z h l d (yes p) = rw (p, new) filled
  between-after i j z h l (yes q) (no p) = still j (room.between j (rw (q, new, named, size) at h) (omega arith))
  between-after i j z h l (no q) (no p) = still j (r.between i j (rw (old i q) at z) (rw (old i q, size) at h) l)

  pub reachable-after : Reachable k after
  reachable-after = record {
    marked = λ i z. marked-after i z (ℕ_discrete i s);
    home = λ i z. home_after i z (ℕ_discrete i s);
    between = λ i j z h l. between-after i j z h l (ℕ_discrete i s) (ℕ_discrete j s);
  }

  module _ (w : Bytes) where
    gained : Holds k w after → T (same w n || one_of w (held k slots))
    gained m = by-slot (ℕ_discrete m.at s)
      where
        by-slot : Dec (m.at ≡ s) → T (same w n || one_of w (held k slots))
        by-slot (yes q) = or_left (same w n) (one_of w (held k slots)) (rw (q, new, named) at m.name)
        by-slot (no q) =
            or_right (same w n) (one_of w (held k slots))
            (held_at k w slots m.at (rw (old m.at q) at m.filled) (rw (old m.at q) at m.name))

    kept : Holds k w slots → T (one_of w (held k after))
    kept m =
        let e = old m.at (other m.at m.filled) in
        held_at k w after m.at (still m.at m.filled) (rw e m.name)

    pub holds_after : one_of w (held k after) ≡ same w n || one_of w (held k slots)
    holds_after = bool-ext (one_of w (held k after)) (same w n || one_of w (held k slots))
        (λ t. gained (held-some k w after t))
        (λ t. ⊎_elim
        (λ i. held_at k w after s (rw new filled) (rw (new, named) i))
        (λ i. kept (held-some k w slots i))
        (or_cases (same w n) (one_of w (held k slots)) t))

  pub put-added : false ≡ one_of n (held k slots) → PutIn k n slots after (Ok true)
  put-added t = record {
    reachable = reachable-after;
    was = t;
    holds = λ _. holds_after;
    full = λ q. absurd (let z : ◌≡◌ {A = ℕ} 0 1 = cc in omega arith);
  }

-- a name of a file in a class, by where the walk over its slots ended
module _ (file slots : List ℕ) (place class : ℕ) (w : Bytes) (e : w ≡ name_at file place) (r : Reachable (name_slots file) slots) {x : Sought} (t : Ended (name_slots file) slots (class ∷ w) x) where
  pub found-known : x ≡ sought.Found → PutIn (name_slots file) (class ∷ name_at file place) slots slots (Ok false)
  found-known q = rw (← e) (put-known (name_slots file) slots (class ∷ w) r (walk-found (name_slots file) slots (class ∷ w) t q))

  pub exhausted-full : (f : Full) → x ≡ sought.Exhausted → PutIn (name_slots file) (class ∷ name_at file place) slots slots (Err f)
  exhausted-full f q = rw (← e) (put_full (name_slots file) slots (class ∷ w) f r (walk-exhausted (name_slots file) slots (class ∷ w) t q))

  pub vacant-inside : {s : ℕ} → x ≡ sought.Vacant s → s < length slots
  vacant-inside q = (walk-vacant (name_slots file) slots (class ∷ w) t q).1.inside

  pub vacant-added : {s tag : ℕ} → x ≡ sought.Vacant s → place < 1048576 → class < 4 → tag ≡ tag_of (class ∷ w)
      → PutIn (name_slots file) (class ∷ name_at file place) slots (set slots s (1 + (place + tag * 1048576))) (Ok true)
  vacant-added {s} {tag} q h l p =
      let v = 1 + (place + tag * 1048576) in
      let o = rw e at (walk-vacant (name_slots file) slots (class ∷ w) t q) in
      let back : (v - 1) % 1048576 ≡ place = omega arith in
      let mark : (v - 1) / 1048576 ≡ tag = omega arith in
      let own : (v - 1) / 1048576 % 4 ≡ class = rw mark (tag_class class w l p) in
      put-added (name_slots file) slots r (class ∷ name_at file place) v s o.1 (λ z. omega arith) (rw (own, back)) (mark ∙ rw e at p) o.0
