-- How a target fits a spelling: it is the spelling, or the spelling ends in "." and the target. Assumes nothing.
use Rattle.std.specs.Prelude.{Bool, ◌||◌, ◌∷◌}
use Rattle.fields.specs.Bytes.{pick}
use Rattle.names.specs.Words.{Bytes, same, ends}
use Rattle.symbols.specs.declared.Fit.{Fit}
use Rattle.symbols.specs.declared.Fit.TheVariants.{Exact, Ending, Differs}

-- how the target fits the spelling
abbrev pub fit_of : Bytes → Bytes → Fit
fit_of target spelling = pick (same target spelling) Exact (pick (ends (46 ∷ target) spelling) Ending Differs)

-- the target is the spelling, or the spelling ends in "." and the target
abbrev pub answers : Bytes → Bytes → Bool
answers target spelling = same target spelling || ends (46 ∷ target) spelling

-- how a target fits a spelling that goes on before the dot, where it does not reach the dot
abbrev pub end_fit : Bytes → Bytes → Fit
end_fit target last = pick (answers target last) Ending Differs
