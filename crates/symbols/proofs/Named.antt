-- Names one after the other, as places: the one at the front, and the others. Assumes nothing.
use mathlib.Core.Path.{◌≡◌, refl, ◌∙◌}
use mathlib.Core.List.{List, [], ◌∷◌}
use Prim.Native.Nat.{ℕ, ◌-◌, ◌≤◌}
use native.Mathlib.Omega.{arith}
use lib.ListN.{length, take, length-take}
use Rattle.story.specs.Story.{Name}
use Rattle.story.specs.Flows.{names_n, names_in, part}
use Rattle.symbols.specs.declared.Places.{Places}
use Rattle.symbols.specs.Numbers.{absent}
use Rattle.symbols.specs.Placed.{placed, names_placed}

-- a name at the place, alone
abbrev pub alone_at : ℕ → Places
alone_at at = record { flow = absent; stitch = absent; own = at }

-- no names are left
pub names-none : {ns : List Name} → ns ≡ [] → names_placed ns ≡ []
unfolding names_placed placed
names-none e = rw e refl

-- the name at the front, and the others
pub names-front : {n : Name} {ns rest : List Name} → ns ≡ n ∷ rest → names_placed ns ≡ alone_at n.at ∷ names_placed rest
unfolding names_placed placed
names-front e = rw e refl

-- a section of names at the front of the file
pub section-names : (file : List ℕ) (end : ℕ) → end ≤ length file → names_n end 0 (take end file) ≡ names_in 0 (part 0 end file)
unfolding names_in part
section-names file end h =
    let all : end - 0 ≡ end = omega arith in
    let e : length (take end file) ≡ end = length-take end file ∙ omega arith in
    rw (all, e)
