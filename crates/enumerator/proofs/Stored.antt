-- Entries stored one after the other: counted in any case; where there is room for all of them, the index is that of `symbols`. Assumes nothing.
use mathlib.Core.Path.{◌≡◌, refl, ◌∙◌, ap}
use mathlib.Core.Bool.{Bool, true, false}
use lib.Dec.{ltb}
use Rattle.fields.specs.Bytes.{pick}
use mathlib.Core.List.{List, [], ◌∷◌}
use Prim.Native.Nat.{ℕ, ◌+◌, ◌*◌, ◌/◌, ◌≤◌, ◌<◌}
use native.Mathlib.Omega.{arith}
use lib.ListN.{length, length-set}
use borrow.Author.Tests.{lt-ltb}
use Rattle.story.specs.declared.Sections.{Sections}
use Rattle.story.specs.File.{story_in}
use Rattle.story.proofs.Readable.{Readable}
use Rattle.symbols.specs.declared.Places.{Places}
use Rattle.symbols.specs.Index.{entries}
use Rattle.symbols.specs.Numbers.{St, st, noted}
use Rattle.symbols.specs.Numbers as room
use Rattle.symbols.specs.Placed.{placed, index_of}
use Rattle.symbols.proofs.Stored as room-laws
use Rattle.symbols.proofs.Placed.{placed-length}
use Rattle.symbols.proofs.Owners as owners
use Rattle.enumerator.specs.Numbers.{store, store_all}

-- 1. One entry

-- it is stored as by `symbols`, and counted in any case
pub store-counted : (p : Places) (index : List ℕ) (n : ℕ) {index' : List ℕ} {m : ℕ} → st index' m ≡ room.store (st index n) p → st index' (n + 1) ≡ store (st index n) p
unfolding store room.store
store-counted p index n e = ap (λ (s : St). st s.index (n + 1)) e ∙ by-room (ltb n (length index / 3))
  where
    by-room : (b : Bool) → st (pick b (st (noted n p index) (n + 1)) (st index n)).index (n + 1) ≡ st (pick b (noted n p index) index) (n + 1)
    by-room true = refl
    by-room false = refl

pub store-room : (p : Places) (index : List ℕ) (n : ℕ) → n < length index / 3 → st (noted n p index) (n + 1) ≡ store (st index n) p
unfolding store
store-room p index n h = rw (lt-ltb n (length index / 3) h)

-- 2. Many

-- where there is room for all, they are stored as by `symbols`
pub store-as-room : (ps : List Places) (index : List ℕ) (n : ℕ) → 3 * (n + length ps) ≤ length index → store_all (st index n) ps ≡ room.store_all (st index n) ps
unfolding store_all room.store_all
store-as-room [] index n h = refl
store-as-room (p ∷ ps) index n h =
    let here : n < length index / 3 = omega arith in
    let l : length (noted n p index) ≡ length index = simp length-set in
    rw (← store-room p index n here, ← room-laws.store-room p index n here) (store-as-room ps (noted n p index) (n + 1) (omega arith))

-- THE INDEX WRITTEN, where there is room for it
pub index-written : (c : Sections) (s : List ℕ) → Readable c s → (before : List ℕ) → 3 * c.end ≤ length before
    → store_all (st before 0) (placed (entries (story_in c s))) ≡ st (index_of (story_in c s) before) (length (entries (story_in c s)))
index-written c s r before h =
    store-as-room (placed (entries (story_in c s))) before 0 (omega (arith, owners.entries-few c s r, placed-length (entries (story_in c s))))
    ∙ owners.index-written c s r before h
