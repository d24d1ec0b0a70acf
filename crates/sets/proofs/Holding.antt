-- Names of a class put into a set one after the other, as far as it has room; the other classes stay. Assumes nothing.
use mathlib.Core.Path.{◌≡◌, refl, sym, ◌∙◌}
use mathlib.Core.Bool.{Bool, true, false, ◌||◌}
use mathlib.Core.List.{List, ◌∷◌}
use Prim.Native.Nat.{ℕ}
use borrow.Author.Tests.{eq-eqb, ne_eqb}
use Rattle.names.specs.Words.{Bytes, same, one_of}
use Rattle.std.specs.Prelude.{Result, is_err}
use Rattle.sets.specs.declared.Full.{Full}
use Rattle.sets.specs.Sets.{Slots, held, Empty, PutIn, Holding, Same, Without}
use Rattle.sets.proofs.Clearing.{empty-reachable, empty_holds}

-- 1. One name

module _ {k : Slots} {class : ℕ} {n : Bytes} {before after : List ℕ} {r : Result Bool Full} (p : PutIn k (class ∷ n) before after r) where
  -- in its class
  pub put-own : is_err r ≡ false → (w : Bytes) → one_of (class ∷ w) (held k after) ≡ same w n || one_of (class ∷ w) (held k before)
  put-own q w = p.holds q (class ∷ w) ∙ rw (eq-eqb class class refl)

  -- in another
  pub put_other : (d : ℕ) → (d ≡ class → ⊥) → Same k d before after
  put_other d z = record { words = λ w. by-room (is_err r) refl w }
    where
      by-room : (full : Bool) → is_err r ≡ full → (w : Bytes) → one_of (d ∷ w) (held k after) ≡ one_of (d ∷ w) (held k before)
      by-room true q w = rw (p.full q)
      by-room false q w = p.holds q (d ∷ w) ∙ rw (ne_eqb d class z)

-- 2. Classes that stay

pub same_start : (k : Slots) (d : ℕ) (set : List ℕ) → Same k d set set
same_start k d set = record { words = λ w. refl }

module _ {k : Slots} {d : ℕ} {a b : List ℕ} (s : Same k d a b) where
  pub same_next : {c : List ℕ} → Same k d b c → Same k d a c
  same_next t = record { words = λ w. t.words w ∙ s.words w }

-- an empty set has no name in any class
pub empty-without : (k : Slots) (d : ℕ) {set : List ℕ} → Empty set → Without k d set
empty-without k d e = record { reachable = empty-reachable k e; none = λ w. empty_holds k e (d ∷ w) }

pub without-same : {k : Slots} {d : ℕ} {a b : List ℕ} {all rest : List Bytes} {class : ℕ} → Without k d a → Same k d a b → Holding k class b all rest → Without k d b
without-same o s h = record { reachable = h.reachable; none = λ w. s.words w ∙ o.none w }

-- 3. Name after name

-- none was put
pub holding-start : {k : Slots} {class : ℕ} {set : List ℕ} (all : List Bytes) → Without k class set → Holding k class set all all
holding-start all e = record { reachable = e.reachable; words = λ w. rw (e.none w) }

module _ {k : Slots} {class : ℕ} {set : List ℕ} {all rest : List Bytes} (h : Holding k class set all rest) where
  -- the first of the rest was put
  pub holding-next : {n : Bytes} {more : List Bytes} {after : List ℕ} {r : Result Bool Full} {b : Bool} → rest ≡ n ∷ more → PutIn k (class ∷ n) set after r → b ≡ is_err r → b ≡ false
      → Holding k class after all more
  holding-next {n} {more} q p e f = record {
    reachable = p.reachable;
    words = λ w. h.words w ∙ rw (q, put-own p (sym e ∙ f) w) (regroup (one_of (class ∷ w) (held k set)) (same w n) (one_of w more));
  }
    where
      regroup : (a b c : Bool) → a || (b || c) ≡ (b || a) || c
      regroup true true c = refl
      regroup true false c = refl
      regroup false true c = refl
      regroup false false c = refl

  -- there was no room
  pub holding-stop : {n : Bytes} {after : List ℕ} {r : Result Bool Full} {b : Bool} → PutIn k (class ∷ n) set after r → b ≡ is_err r → b ≡ true → Holding k class after all rest
  holding-stop p e f = rw (p.full (sym e ∙ f)) h

  -- a word is asked for: the set has it, or the rest decides
  module _ (w : Bytes) {b : Bool} (e : b ≡ one_of (class ∷ w) (held k set)) where
    pub holding-found : b ≡ true → b ≡ one_of w all
    holding-found f = f ∙ rw (h.words w, ← e, f)

    pub holding-left : {r : Bool} → b ≡ false → r ≡ one_of w rest → r ≡ one_of w all
    holding-left f q = rw (h.words w, ← e, f) q
