-- Ends by the places of their names: their hash, and comparing them with a word. Assumes nothing.
use mathlib.Core.Path.{◌≡◌, refl, sym}
use mathlib.Core.Bool.{Bool, true, false, ◌&&◌, and_assoc, and-true, and-false}
use mathlib.Core.List.{List, [], ◌∷◌, ◌++◌}
use Prim.Native.Nat.{ℕ, suc, ◌+◌, ◌-◌, ◌<◌}
use native.Mathlib.Omega.{arith}
use lib.Dec.{eqb}
use lib.ListN.{length, get_or, take, drop, length-append}
use borrow.Author.Tests.{ne_eqb}
use Rattle.std.specs.Prelude.{Option, Some, None}
use Rattle.fields.proofs.Laws.{to_end}
use Rattle.names.specs.Words.{Bytes, same}
use Rattle.names.specs.Counted.{name_at}
use Rattle.names.proofs.Words.{same-eq, same-lengths}
use Rattle.sets.specs.Hashes.{hash_from, hash_of}
use Rattle.sets.proofs.Hashing.{hash-append}
use Rattle.targets.specs.declared.DottedEnd.{DottedEnd}
use Rattle.targets.specs.Ends.{end_at}
use Rattle.targets.specs.Slots.{after, end_word}

-- 1. A dot and a name

module _ (file : List ℕ) {place : Option ℕ} where
  module _ (z : place ≡ None) where
    -- there is no name
    after_none : after file place ≡ []
    unfolding after
    after_none = rw z

    -- how many bytes, where there is no name
    pub length_none : 0 ≡ length (after file place)
    length_none = rw after_none

    -- the hash goes on over them, where there is no name
    pub hash-none : (start : ℕ) → start ≡ hash_from start (after file place)
    unfolding hash_from
    hash-none start = rw after_none

    -- a word against them, where there is no name
    pub same_none : (word : Bytes) → eqb (length word) 0 ≡ same word (after file place)
    same_none word = rw after_none (by_word word)
      where
        by_word : (w : Bytes) → eqb (length w) 0 ≡ same w []
        by_word [] = refl
        by_word (x ∷ w) = ne_eqb (suc (length w)) 0 (λ q. omega arith)

  module _ {at : ℕ} (z : place ≡ Some at) where
    -- there is one
    after-some : after file place ≡ 46 ∷ name_at file at
    unfolding after
    after-some = rw z

    -- how many bytes, where there is one
    pub length_some : {name : Bytes} → name ≡ name_at file at → 1 + length name ≡ length (after file place)
    length_some e = rw (after-some, ← e) (omega arith)

    -- the hash goes on over them, where there is one
    pub hash-some : (start : ℕ) {name : Bytes} {h r : ℕ} → h ≡ hash_from start (46 ∷ []) → name ≡ name_at file at → r ≡ hash_from h name → r ≡ hash_from start (after file place)
    hash-some start {name} p e q = rw (q, p, after-some, ← e) (sym (hash-append start (46 ∷ []) name))

    module _ (word : Bytes) where
      -- an empty word
      pub same-empty : length word ≡ 0 → false ≡ same word (after file place)
      same-empty e = rw after-some (sym (same-lengths word (46 ∷ name_at file at) (λ q. omega arith)))

      -- a word that begins with another byte
      pub same-other : (length word ≡ 0 → ⊥) → (get_or word 0 0 ≡ 46 → ⊥) → false ≡ same word (after file place)
      same-other l d = rw after-some (by_word word l d)
        where
          by_word : (w : Bytes) → (length w ≡ 0 → ⊥) → (get_or w 0 0 ≡ 46 → ⊥) → false ≡ same w (46 ∷ name_at file at)
          by_word [] l d = refl
          by_word (x ∷ w) l d = rw (ne_eqb x 46 d)

      -- a word that begins with a dot: its rest decides
      pub same-dot : {r : Bool} → (length word ≡ 0 → ⊥) → get_or word 0 0 ≡ 46 → r ≡ same (take (length word - 1) (drop 1 word)) (name_at file at) → r ≡ same word (after file place)
      same-dot {r} l d e = rw after-some (by_word word l d (rw (to_end 1 word) at e))
        where
          by_word : (w : Bytes) → (length w ≡ 0 → ⊥) → get_or w 0 0 ≡ 46 → r ≡ same (drop 1 w) (name_at file at) → r ≡ same w (46 ∷ name_at file at)
          by_word [] l d e = absurd (l refl)
          by_word (x ∷ w) l d e = rw d e

-- 2. A word against two parts

-- a word is two parts exactly if it has the first in front and the second behind
same-append : (w a b : Bytes) → same w (a ++ b) ≡ same (take (length a) w) a && same (drop (length a) w) b
same-append w [] b = refl
same-append [] (x ∷ a) b = refl
same-append (y ∷ w) (x ∷ a) b = rw (same-append w a b, and_assoc (eqb y x) (same (take (length a) w) a) (same (drop (length a) w) b))

module _ (word a b : Bytes) {n : ℕ} (e : n ≡ length a) where
  -- a word shorter than the first part
  pub parts-short : length word < n → false ≡ same word (a ++ b)
  parts-short h = sym (same-lengths word (a ++ b) (λ q. omega (arith, simp length-append at q)))

  module _ {r : Bool} (q : r ≡ same (take (length word - n) (drop n word)) b) where
    -- what was found of the second part
    behind : r ≡ same (drop (length a) word) b
    behind = rw (to_end n word, e) at q

    -- the second part is there: the first decides
    pub parts-front : {s : Bool} → r ≡ true → s ≡ same (take (n - 0) (drop 0 word)) a → s ≡ same word (a ++ b)
    parts-front {s} t p =
        let z : n - 0 ≡ length a = omega arith in
        let f : s ≡ same (take (length a) word) a = rw z at p in
        rw (same-append word a b, ← behind, t, and-true (same (take (length a) word) a)) f

    -- the second part is not there
    pub parts-other : r ≡ false → false ≡ same word (a ++ b)
    parts-other f = rw (same-append word a b, ← behind, f, and-false (same (take (length a) word) a))

-- 3. An end

-- its hash, name by name
pub end-hash : (file : List ℕ) (e : DottedEnd) {name end : Bytes} {a b c : ℕ} → name ≡ name_at file e.first → end ≡ end_at e.dots name → a ≡ hash_of end
    → b ≡ hash_from a (after file e.second) → c ≡ hash_from b (after file e.third) → c ≡ hash_of (end_word file e)
unfolding end_word
end-hash file e {name} {end} {a} p q h i j =
    rw (
      j,
      i,
      h,
      q,
      p,
      hash-append 2166136261 (end_at e.dots (name_at file e.first)) (after file e.second ++ after file e.third),
      hash-append (hash_of (end_at e.dots (name_at file e.first))) (after file e.second) (after file e.third),
    )

-- the word of an end, by what was read of its first name
pub end-parts : (file : List ℕ) (e : DottedEnd) {name end : Bytes} → name ≡ name_at file e.first → end ≡ end_at e.dots name
    → end ++ (after file e.second ++ after file e.third) ≡ end_word file e
unfolding end_word
end-parts file e p q = rw (q, p)

-- 4. The same names

module _ (file : List ℕ) where
  -- the names at two places
  pub places_same : (a b : ℕ) {w : Bytes} {r : Bool} → w ≡ name_at file a → r ≡ same w (name_at file b) → r ≡ true → name_at file a ≡ name_at file b
  places_same a b {w} e q t = rw (← e) (same-eq w (name_at file b) (rw (← q, t) tt))

  -- the names at two places that are there
  pub names-same : {a b : Option ℕ} {p q : ℕ} → a ≡ Some p → b ≡ Some q → name_at file p ≡ name_at file q → after file a ≡ after file b
  names-same y z e = rw (after-some file y, after-some file z, e)

  -- two ends of the same names and as many dots
  pub parts_same : (e f : DottedEnd) → e.dots ≡ f.dots → after file e.third ≡ after file f.third → after file e.second ≡ after file f.second
      → name_at file e.first ≡ name_at file f.first → end_word file e ≡ end_word file f
  unfolding end_word
  parts_same e f d t s n = rw (d, t, s, n)
