-- The spellings of a story's entries, by the places of their names. Assumes nothing.
use mathlib.Core.Path.{◌≡◌, refl}
use mathlib.Core.List.Memᴰ
use mathlib.Core.List.{List, [], ◌∷◌, map}
use Prim.Native.Nat.{ℕ, ◌≤◌}
use native.Mathlib.Omega.{arith}
use Rattle.names.proofs.Lists.{Every}
use Rattle.story.specs.declared.Sections.{Sections}
use Rattle.story.specs.File.{story_in}
use Rattle.story.proofs.Readable.{Readable}
use Rattle.symbols.specs.Index.{Entry, spelling, entries, spellings}
use Rattle.symbols.specs.Numbers.{absent}
use Rattle.symbols.specs.Placed.{placed}
use Rattle.symbols.specs.Stands.{EntryStands}
use Rattle.symbols.specs.Rows.{spelling_in}
use Rattle.symbols.proofs.ReadBack.{spelling-read, entries-stand}

module _ (file : List ℕ) (end : ℕ) (short : end ≤ absent) where
  each-spelled : (es : List Entry) → Every (EntryStands file end) es → map (spelling_in file) (placed es) ≡ map spelling es
  unfolding placed
  each-spelled [] h = refl
  each-spelled (e ∷ es) h = rw (spelling-read file end short e (h e (Memᴰ.head refl)), each-spelled es (λ x m. h x (Memᴰ.tail m)))

-- THE SPELLINGS of the entries, by the places of their names
pub places-spelled : (c : Sections) (s : List ℕ) → Readable c s → map (spelling_in s) (placed (entries (story_in c s))) ≡ spellings (story_in c s)
places-spelled c s r =
    let short : c.end ≤ absent = omega (arith, r.order.trailer, r.order.short) in
    each-spelled s c.end short (entries (story_in c s)) (entries-stand c s r)
