-- `symbols::entries::prefix_number` meets its contract, by the name's length. Assumes nothing.
use mathlib.Core.Path.{◌≡◌, ap, refl, sym, ◌∙◌}
use mathlib.Core.Bool.{Bool, true, false, true≢false}
use lib.Dec.{eqb}
use borrow.Author.Tests.{eq-eqb, ne_eqb}
use mathlib.Core.List.{List, [], ◌∷◌}
use Prim.Native.Nat.{ℕ}
use native.Mathlib.Omega.{arith}
use lib.ListN.{length}
use Rattle.symbols.specs.Numbers.{absent}
use Rattle.symbols.specs.Placed.{prefix_number}
use Rattle.symbols.proofs.entries.prefix_number.Goals as goal

-- the name is empty
unnamed : (w : List ℕ) (at : ℕ) {v : List ℕ} {b : Bool} → v ≡ w → b ≡ eqb (length v) 0 → b ≡ true → absent ≡ prefix_number w at
unnamed [] at e q h = refl
unnamed (x ∷ w) at e q h = absurd (true≢false (sym h ∙ (q ∙ (ap (λ (s : List ℕ). eqb (length s) 0) e ∙ ne_eqb (length (x ∷ w)) 0 (λ z. omega arith)))))

-- it is not
named : (w : List ℕ) (at : ℕ) {v : List ℕ} {b : Bool} → v ≡ w → b ≡ eqb (length v) 0 → b ≡ false → at ≡ prefix_number w at
named [] at e q h = absurd (true≢false (sym (q ∙ ap (λ (s : List ℕ). eqb (length s) 0) e ∙ eq-eqb 0 0 refl) ∙ h))
named (x ∷ w) at e q h = refl

pub returns-then-is_empty : goal.returns-then-is_empty
returns-then-is_empty c = unnamed _ _ c.name_at.ensures c.is_empty.ensures c.if-is_empty.true

pub returns : goal.returns
returns c = named _ _ c.name_at.ensures c.is_empty.ensures c.if-is_empty.false
