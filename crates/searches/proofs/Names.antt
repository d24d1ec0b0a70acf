-- Names that stand one after the other, one at a time. Assumes nothing.
use mathlib.Core.Path.{◌≡◌, refl, sym}
use mathlib.Core.List.{List, [], ◌∷◌}
use Prim.Native.Nat.{ℕ, zero, suc, ◌+◌, ◌-◌, ◌≤◌, ◌<◌}
use native.Mathlib.Numerals.{add-one, sub-one}
use native.Mathlib.Omega.{arith}
use native.Mathlib.Decide.{dec_lt}
use lib.ListN.{length, get_or, drop, length-drop}
use lib.Seq.{drop-drop, drop-cons, get_or-drop}
use Rattle.names.specs.Counted.{name_at}
use Rattle.story.specs.Story.{Name}
use Rattle.story.specs.Flows.{names_n, counted_in}
use Rattle.story.proofs.Unfolding.{names-n-none}
use Rattle.searches.specs.declared.name_views.NamesFrom.{NamesFrom}
use Rattle.searches.specs.NameViews.{names_left}

-- the name at the place, and the others
pub names-first : (s : List ℕ) (n at : ℕ) → 0 < n → at < length s
    → names_n n at (drop at s) ≡ record { at = at; bytes = name_at s at } ∷ names_n (n - 1) (at + (1 + get_or s at 0)) (drop (at + (1 + get_or s at 0)) s)
unfolding names_n name_at
names-first s zero at h k = absurd (omega arith)
names-first s (suc n) at h k =
    let after : at + (1 + get_or s at 0) ≡ suc at + get_or s at 0 = omega arith in
    rw (add-one at, sub-one (suc n), drop-cons s at 0 k, after, drop-drop (get_or s at 0) (suc at) s)

-- no bytes are left, and so no names
pub counted-none : (s : List ℕ) (at : ℕ) → length s ≤ at → [] ≡ counted_in at (drop at s)
unfolding counted_in
counted-none s at h = sym (names-n-none (get_or (drop at s) 0 0) (at + 1) (drop 1 (drop at s)) (omega (arith, length-drop 1 (drop at s), length-drop at s)))

-- so many names as the count byte at the place says, after it
pub counted-some : (s : List ℕ) (at : ℕ) → names_n (get_or s at 0) (at + 1) (drop (at + 1) s) ≡ counted_in at (drop at s)
unfolding counted_in
counted-some s at =
    let zero-on : at + 0 ≡ at = omega arith in
    rw (get_or-drop at s 0 0, zero-on, drop-drop 1 at s)

-- each of the names stands in the file
abbrev pub AllIn : List ℕ → List Name → Type 0
AllIn file [] = Unit {0}
AllIn file (n ∷ ns) = (n.at < length file) × (n.bytes ≡ name_at file n.at) × AllIn file ns

names-in : (file : List ℕ) (n at : ℕ) → AllIn file (names_n n at (drop at file))
unfolding names_n
names-in file zero at = tt
names-in file (suc n) at = by-place (dec_lt at (length file)) (names-in file n (at + (1 + get_or file at 0)))
  where
    by-place : Dec (at < length file) → AllIn file (names_n n (at + (1 + get_or file at 0)) (drop (at + (1 + get_or file at 0)) file)) → AllIn file (names_n (suc n) at (drop at file))
    by-place (yes h) more = rw (names-first file (suc n) at (omega arith) h, sub-one (suc n)) (h, refl, more)
    by-place (no h) more = rw (names-n-none (suc n) at (drop at file) (omega (arith, length-drop at file, h))) tt

-- the names that are left stand in the file
pub left-in : (v : NamesFrom) → AllIn v.file.now (names_left v)
left-in v = names-in v.file.now v.many v.at
