-- The index read back: its entries, three numbers each, and their spellings by the names in the file. Assumes nothing.
use Rattle.std.specs.Prelude.{Bool, false, List, [], ◌∷◌, ◌++◌, map, ℕ, ◌+◌, ◌*◌, take, get_or, eqb, Option, Some, None}
use Rattle.fields.specs.Bytes.{pick}
use Rattle.names.specs.Words.{Bytes}
use Rattle.names.specs.Counted.{name_at}
use Rattle.symbols.specs.declared.Places.{Places}
use Rattle.symbols.specs.declared.targets.EntryIndex.{EntryIndex}
use Rattle.symbols.specs.declared.Fit.{Fit}
use Rattle.symbols.specs.declared.Fit.TheVariants.{Exact, Ending, Differs}
use Rattle.symbols.specs.Numbers.{absent}
use Rattle.symbols.specs.Fits.{fit_of}

-- the entries that numbers hold
unfoldable pub rows : List ℕ → List Places
rows [] = []
rows (a ∷ []) = []
rows (a ∷ b ∷ []) = []
rows (a ∷ b ∷ c ∷ rest) = record { flow = a; stitch = b; own = c } ∷ rows rest

-- entry number k of the numbers
abbrev pub row_at : List ℕ → ℕ → Places
row_at index k = record { flow = get_or index (3 * k) 0; stitch = get_or index (3 * k + 1) 0; own = get_or index (3 * k + 2) 0 }

-- the name at the place, if it is one, and "." before what follows
abbrev pub dotted_in : List ℕ → ℕ → Bytes → Bytes
dotted_in file at rest = pick (eqb at absent) rest (name_at file at ++ (46 ∷ rest))

-- the names present, joined by "."
unfoldable pub spelling_in : List ℕ → Places → Bytes
spelling_in file p = dotted_in file p.flow (dotted_in file p.stitch (name_at file p.own))

-- the spellings of the first so many entries
unfoldable pub spellings_in : List ℕ → ℕ → List ℕ → List Bytes
spellings_in file count index = map (spelling_in file) (take count (rows index))

-- the spellings of the entries of an index
abbrev pub spellings_of : EntryIndex → List Bytes
spellings_of index = spellings_in index.file.now index.count index.numbers.now

-- the number of the first that passes, from k on
unfoldable pub first_of : (Bytes → Bool) → ℕ → List Bytes → Option ℕ
first_of f k [] = None
first_of f k (x ∷ xs) = pick (f x) (Some k) (first_of f (k + 1) xs)

-- a fit that is looked for: an exact one, one by its ending, or either
abbrev pub wanted : Bool → Bool → Fit → Bool
wanted exact ending Exact = exact
wanted exact ending Ending = ending
wanted exact ending Differs = false

-- a spelling that the target fits so
unfoldable pub sought : Bool → Bool → Bytes → Bytes → Bool
sought exact ending target spelling = wanted exact ending (fit_of target spelling)
