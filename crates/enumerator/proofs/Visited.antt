-- Entries visited one after the other: none, one, more; and a loop over them. Assumes nothing.
use mathlib.Core.Path.{◌≡◌}
use mathlib.Core.Bool.{Bool, true, false}
use mathlib.Core.List.{List, [], ◌∷◌}
use Prim.Native.Nat.{ℕ}
use Rattle.sets.specs.Sets.{Reachable}
use Rattle.symbols.specs.declared.Places.{Places}
use Rattle.targets.specs.Slots.{end_slots}
use Rattle.targets.specs.Entries.{EntryPut, Put}
use Rattle.targets.proofs.Filling.{entry-none, put_one}

-- 1. The targets of one entry

module _ (file : List ℕ) (p : Places) where
  -- where one was left out before, none is put
  pub put-passed : {set : List ℕ} {left : Bool} → left ≡ true → Reachable (end_slots file) set → Put file (p ∷ []) set set left true
  put-passed e r = rw e (put_one (entry-none file p r))

  -- the same, where its targets are put all the same
  pub put-besides : {before after : List ℕ} {left r : Bool} → left ≡ true → EntryPut file p before after r → Put file (p ∷ []) before after left true
  put-besides e g = rw e (put_one g)

  -- where none was left out before, all are put, or one is left out now
  pub put_next : {before after : List ℕ} {left r : Bool} → left ≡ false → EntryPut file p before after r → Put file (p ∷ []) before after left r
  put_next e g = rw e (put_one g)
