-- Entries stored one after the other: what the index holds then. Assumes nothing.
use mathlib.Core.Path.{◌≡◌}
use mathlib.Core.List.{List, [], ◌∷◌, ◌++◌, append_assoc, append-nil}
use Prim.Native.Nat.{ℕ, suc, ◌+◌, ◌*◌, ◌/◌, ◌≤◌, ◌<◌}
use native.Mathlib.Nat.{add-zero, zero-add}
use native.Mathlib.Omega.{arith}
use lib.ListN.{length, take, drop, take-append-drop, length-append, length-take, length-drop}
use lib.Seq.{take_at, drop-append-add, drop-drop, sets-eq}
use borrow.Author.Tests.{lt-ltb, le-ltb}
use Rattle.records.specs.Buffers.{overlay}
use Rattle.symbols.specs.declared.Places.{Places}
use Rattle.symbols.specs.Numbers.{numbers, st, noted, store, store_all}

-- 1. One entry

-- where there is no room, nothing
pub store-full : (p : Places) {index : List ℕ} {n : ℕ} → length index / 3 ≤ n → st index n ≡ store (st index n) p
unfolding store
store-full p {index} {n} h = rw (le-ltb n (length index / 3) h)

pub store-room : (p : Places) (index : List ℕ) (n : ℕ) → n < length index / 3 → st (noted n p index) (n + 1) ≡ store (st index n) p
unfolding store
store-room p index n h = rw (lt-ltb n (length index / 3) h)

-- 2. Many

-- numbers from a place on, and the rest as it was
abbrev pub laid : ℕ → List ℕ → List ℕ → List ℕ
laid at xs index = take at index ++ xs ++ drop (at + length xs) index

-- more numbers after those
laid_more : (at : ℕ) (xs ys index : List ℕ) → at + length xs ≤ length index → laid (at + length xs) ys (laid at xs index) ≡ laid at (xs ++ ys) index
laid_more at xs ys index h =
    let a = take at index ++ xs in
    let d = drop (at + length xs) index in
    let l : length a ≡ at + length xs = simp (length-append, length-take) (omega arith) in
    let g : at + length xs + length ys ≡ length a + length ys = omega arith in
    let f : at + length (xs ++ ys) ≡ at + length xs + length ys = simp length-append (omega arith) in
    let e : drop (at + length xs + length ys) (laid at xs index) ≡ drop (at + length (xs ++ ys)) index
    = rw (f, ← drop-drop (length ys) (at + length xs) index, g, drop-append-add a d (length ys)) in
    rw (take_at a d (at + length xs) l, e, append_assoc (take at index) xs ys)

-- the three numbers of an entry
noted-laid : (n : ℕ) (p : Places) (index : List ℕ) → 3 * n + 3 ≤ length index → noted n p index ≡ laid (3 * n) (p.flow ∷ p.stitch ∷ p.own ∷ []) index
noted-laid n p index h =
    let e : 3 * n + 1 ≡ suc (3 * n) = omega arith in
    let f : 3 * n + 2 ≡ suc (suc (3 * n)) = omega arith in
    rw (e, f) (sets-eq (p.flow ∷ p.stitch ∷ p.own ∷ []) index (3 * n) h)

-- THE INDEX THEN: the numbers of the entries after what was there, and the rest as it was
pub store-all : (ps : List Places) (index : List ℕ) (n : ℕ) → 3 * (n + length ps) ≤ length index
    → store_all (st index n) ps ≡ st (laid (3 * n) (numbers ps) index) (n + length ps)
unfolding store_all numbers
store-all [] index n h = rw (add-zero n, add-zero (3 * n), append-nil, take-append-drop)
store-all (p ∷ ps) index n h =
    let r = store-room p index n (omega arith) in
    let l : length (laid (3 * n) (p.flow ∷ p.stitch ∷ p.own ∷ []) index) ≡ length index = simp (length-append, length-take, length-drop) (omega arith) in
    let m = store-all ps (laid (3 * n) (p.flow ∷ p.stitch ∷ p.own ∷ []) index) (n + 1) (omega arith) in
    let a : 3 * (n + 1) ≡ 3 * n + 3 = omega arith in
    let b : n + 1 + length ps ≡ n + suc (length ps) = omega arith in
    rw (← r, noted-laid n p index (omega arith), m, a, laid_more (3 * n) (p.flow ∷ p.stitch ∷ p.own ∷ []) (numbers ps) index (omega arith), b)

-- from the index's start
pub store-overlay : (ps : List Places) (index : List ℕ) → 3 * length ps ≤ length index → store_all (st index 0) ps ≡ st (overlay (numbers ps) index) (length ps)
unfolding overlay
store-overlay ps index h = simp zero-add at (store-all ps index 0 (omega arith))
