-- `named_at`: behind the head, where the sort says. Assumes nothing.
use Prim.Native.Nat.{◌≤◌}
use native.Mathlib.Omega.{arith}
use Rattle.items.proofs.Sorts.{item-named, start_small}
use Rattle.items.proofs.items.named_at.Goals as goal

pub overflow_add-result : goal.overflow_add-result
overflow_add-result c = (let small : c.name_start.result ≤ 1 = start_small _ c.name_start.ensures in omega arith)

pub overflow_add-result-2 : goal.overflow_add-result-2
overflow_add-result-2 c = (let small : c.name_start.result ≤ 1 = start_small _ c.name_start.ensures in omega arith)

pub returns : goal.returns
returns c = ((λ file. rw (item-named, ← c.sort_in.ensures file, ← c.name_start.ensures, ← c.place_in.ensures.0)), (let small : c.name_start.result ≤ 1 = start_small _ c.name_start.ensures in omega arith))
