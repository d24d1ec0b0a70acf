-- Names in a file: what stands at a place, by where the file ends. Assumes nothing.
use mathlib.Core.Path.{◌≡◌, ◌∙◌}
use mathlib.Core.List.{List, []}
use Prim.Native.Nat.{ℕ, ◌+◌, ◌-◌, ◌≤◌}
use native.Mathlib.Nat.{add-zero}
use native.Mathlib.Omega.{arith}
use lib.ListN.{length, get_or, take, drop, length-take, length-drop, drop_of_length-le}
use lib.Seq.{take_all, take-nil, drop-length, get_or-drop}
use Rattle.names.specs.Counted.{name_at}

module _ (file : List ℕ) (at : ℕ) where
  -- the count is the byte at the place
  pub name-counted : name_at file at ≡ take (get_or file at 0) (drop (at + 1) file)
  unfolding name_at
  name-counted = rw (get_or-drop, add-zero)

  -- a place past the end has the empty name
  pub name-past : length file ≤ at → name_at file at ≡ []
  name-past h = name-counted ∙ rw (drop_of_length-le file {i = at + 1} (omega arith)) (take-nil (get_or file at 0))

  -- a name that the file cuts short is what is left
  pub name-cut : length file - (at + 1) ≤ get_or file at 0 → name_at file at ≡ drop (at + 1) file
  name-cut h = name-counted ∙ take_all (get_or file at 0) (drop (at + 1) file) (simp length-drop (omega arith))

  -- the three parts of the file that a name can be
  pub part-past : length file ≤ at → take (length file - length file) (drop (length file) file) ≡ name_at file at
  part-past h = rw (drop-length, name-past h) (take-nil (length file - length file))

  pub part-whole : take (at + 1 + get_or file at 0 - (at + 1)) (drop (at + 1) file) ≡ name_at file at
  part-whole = let e : at + 1 + get_or file at 0 - (at + 1) ≡ get_or file at 0 = omega arith in rw (e, name-counted)

  pub part_cut : length file - (at + 1) ≤ get_or file at 0 → take (length file - (at + 1)) (drop (at + 1) file) ≡ name_at file at
  part_cut h = rw (name-cut h) (take_all (length file - (at + 1)) (drop (at + 1) file) (simp length-drop (omega arith)))

  -- a name has no more bytes than its count says
  pub name-length : length (name_at file at) ≤ get_or file at 0
  name-length = rw name-counted (simp length-take (omega arith))
