-- An entry found by its number: where its spelling answers a target, some spelling does. Assumes nothing.
use mathlib.Core.Path.{◌≡◌, refl}
use mathlib.Core.Bool.{Bool, true, false}
use mathlib.Core.List.Memᴰ
use mathlib.Core.List.{List, [], ◌∷◌}
use Prim.Native.Nat.{ℕ, zero, suc, ◌+◌, ◌*◌, ◌/◌, ◌<◌}
use native.Mathlib.Omega.{arith}
use lib.ListN.{length, take}
use Rattle.names.specs.Words.{Bytes, any, ◌∈◌}
use Rattle.names.proofs.Bools.{is_true}
use Rattle.names.proofs.Any.{any-in}
use Rattle.symbols.specs.declared.Places.{Places}
use Rattle.symbols.specs.Fits.{answers}
use Rattle.symbols.specs.Rows.{rows, row_at, spelling_in, spellings_in}
use Rattle.tables.specs.Hints.{Answered}

-- an entry whose number is below the count is one of the first so many
row_in : (k count : ℕ) (index : List ℕ) → k < count → 3 * k + 2 < length index → row_at index k ∈ take count (rows index)
unfolding rows
row_in k zero index h g = absurd (omega arith)
row_in k (suc n) [] h g = absurd (omega arith)
row_in k (suc n) (a ∷ []) h g = absurd (omega arith)
row_in k (suc n) (a ∷ b ∷ []) h g = absurd (omega arith)
row_in zero (suc n) (a ∷ b ∷ c ∷ rest) h g = Memᴰ.head refl
row_in (suc k) (suc n) (a ∷ b ∷ c ∷ rest) h g =
    let first : 3 * suc k ≡ suc (suc (suc (3 * k))) = omega arith in
    let second : 3 * suc k + 1 ≡ suc (suc (suc (3 * k + 1))) = omega arith in
    let third : 3 * suc k + 2 ≡ suc (suc (suc (3 * k + 2))) = omega arith in
    rw (second, third, first) (Memᴰ.tail (row_in k n rest (omega arith) (omega arith)))

module _ (file : List ℕ) (target : Bytes) (count : ℕ) (index : List ℕ) where
  pub entry-answered : (k : ℕ) → k < count → k < length index / 3 → {p : Places} {r : Bool} → p ≡ row_at index k → r ≡ answers target (spelling_in file p)
      → Answered target (spellings_in file count index) r
  unfolding spellings_in
  entry-answered k h g p e = record {
    some = λ y.
        let fits : answers target (spelling_in file (row_at index k)) ≡ true = rw (← p, ← e) y in
        is_true (any (answers target) (spellings_in file count index))
        (any-in (answers target) (Memᴰ.map (spelling_in file) (row_in k count index h (omega arith))) (rw fits tt));
  }

-- an answer of no says nothing
pub not-answered : {target : Bytes} {spellings : List Bytes} → Answered target spellings false
not-answered = record { some = λ y. let z : ◌≡◌ {A = ℕ} 0 1 = cc in absurd (omega arith) }
