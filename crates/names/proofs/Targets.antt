-- When a target passes, by its length and its first byte. Assumes nothing.
use mathlib.Core.Path.{◌≡◌, refl}
use mathlib.Core.Bool.{true, or-true, or-false}
use mathlib.Core.List.{[], ◌∷◌}
use Prim.Native.Nat.{◌<◌}
use native.Mathlib.Omega.{arith}
use lib.ListN.{length, get_or}
use borrow.Author.Tests.{ne_eqb}
use Rattle.names.specs.Words.{Bytes, same}
use Rattle.names.specs.Reserved.{arrow}
use Rattle.names.specs.Targets.{passes}

pub passes-empty : (t : Bytes) → length t ≡ 0 → true ≡ passes t
passes-empty [] h = refl
passes-empty (x ∷ xs) h = absurd (omega arith)

pub passes-dollar : (t : Bytes) → 0 < length t → get_or t 0 0 ≡ 36 → true ≡ passes t
passes-dollar [] l h = absurd (omega arith)
passes-dollar (x ∷ xs) l h = rw (h, or-true)

pub passes-arrow : (t : Bytes) → 0 < length t → (get_or t 0 0 ≡ 36 → ⊥) → same arrow t ≡ passes t
passes-arrow [] l h = absurd (omega arith)
passes-arrow (x ∷ xs) l h = rw (ne_eqb 36 x (λ e. h (omega arith)), or-false)
