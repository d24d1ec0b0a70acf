-- Tables: clearing one, what a slot has after a number was written, and the next slot. Assumes nothing.
use mathlib.Core.Path.{◌≡◌}
use Prim.Native.Nat.{ℕ, ◌+◌, ◌≤◌, ◌<◌}
use native.Mathlib.Omega.{arith}
use native.Mathlib.Decide.{dec_lt}
use borrow.Author.Tests.{lt-ltb, le-ltb}
use Rattle.tables.specs.Tables.{next_slot}

module _ (slots slot : ℕ) where
  -- the slot after this one
  pub next-after : slot + 1 < slots → next_slot slots slot ≡ slot + 1
  unfolding next_slot
  next-after h = rw (lt-ltb (slot + 1) slots h)

  -- the first slot after the last
  pub next-first : slots ≤ slot + 1 → next_slot slots slot ≡ 0
  unfolding next_slot
  next-first h = rw (le-ltb (slot + 1) slots h)

  pub next-inside : slot < slots → next_slot slots slot < slots
  next-inside h = by_last (dec_lt (slot + 1) slots)
    where
      by_last : Dec (slot + 1 < slots) → next_slot slots slot < slots
      by_last (yes p) = omega (arith, next-after p)
      by_last (no p) = omega (arith, next-first (omega arith))
