-- The byte at a word's slot. Assumes nothing.
use mathlib.Core.Path.{◌≡◌, refl, sym}
use mathlib.Core.Bool.{false}
use mathlib.Core.List.{List, [], ◌∷◌}
use Prim.Native.Nat.{ℕ, zero, suc, ◌%◌, ◌<◌}
use native.Mathlib.Omega.{arith}
use lib.Dec.{eqb}
use lib.ListN.{length, get_or, set}
use lib.Seq.{set_out}
use Rattle.names.specs.Words.{Bytes}
use Rattle.tables.specs.Hashes.{hash_of}
use Rattle.tables.specs.Tables.{slot_of}
use Rattle.filters.specs.Words.{added, lacks}

-- at a slot of the filter the byte is read, whatever it is past the end
get_d-within : (l : List ℕ) (i d e : ℕ) → i < length l → get_or l i d ≡ get_or l i e
get_d-within [] i d e h = absurd (omega arith)
get_d-within (x ∷ l) zero d e h = refl
get_d-within (x ∷ l) (suc i) d e h = get_d-within l i d e (omega arith)

module _ (filter : List ℕ) (w : Bytes) where
  pub lacks_none : length filter ≡ 0 → false ≡ lacks filter w
  unfolding lacks
  lacks_none h = go filter h
    where
      go : (l : List ℕ) → length l ≡ 0 → false ≡ eqb (get_or l (slot_of l w) 1) 0
      go [] e = refl
      go (x ∷ l) e = absurd (omega arith)

  pub lacks_at : {hash slot : ℕ} → hash ≡ hash_of w → slot ≡ hash % length filter → slot < length filter → eqb (get_or filter slot 0) 0 ≡ lacks filter w
  unfolding lacks
  lacks_at p q h = rw (get_d-within filter _ 0 1 h, q, p)

  pub added_none : length filter ≡ 0 → filter ≡ added filter w
  unfolding added
  added_none h = sym (set_out filter (slot_of filter w) 1 (omega arith))

  pub added_at : {hash slot : ℕ} → hash ≡ hash_of w → slot ≡ hash % length filter → set filter slot 1 ≡ added filter w
  unfolding added
  added_at p q = rw (q, p)
