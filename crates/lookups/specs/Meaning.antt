-- What an answer of a lookup says of a story. Assumes nothing.
use Rattle.std.specs.Prelude.{◌≡◌, Bool, true, false, List, [], ◌∷◌, ◌↔◌, ℕ, ◌<◌, length, get_or}
use Rattle.names.specs.Words.{Bytes, same, any, one_of, ends}
use Rattle.names.specs.Reserved.{END, DONE, back}
use Rattle.names.specs.Targets.{passes}
use Rattle.story.specs.Story.{Flow, Story}
use Rattle.searches.specs.Called.{is_function}
use Rattle.symbols.specs.Fits.{answers}
use Rattle.symbols.specs.Index.{spellings}
use Rattle.lookups.specs.Results.{Answer, exact, ending, missing}

-- the target is none of the three kinds that are preferred to an entry
pub record Sought (flows : List Flow) (t : Bytes) : Type 0 where
  pub looked : passes t ≡ false
  pub no_function : any (is_function t) flows ≡ false
  pub free : one_of t (END ∷ DONE ∷ back ∷ []) ≡ false

-- there is an entry of this number, and its spelling passes
pub record Matches (f : Bytes → Bool) (spelled : List Bytes) (k : ℕ) : Type 0 where
  pub within : k < length spelled
  pub passes : f (get_or spelled k []) ≡ true

-- THE MEANING of an answer to the target: what Exact, Ending and Missing say. That the others are preferred is in the definition of the answer.
pub record Meant (s : Story) (t : Bytes) (a : Answer) : Type 0 where
  -- Exact: the entry is spelled as the target
  pub exact_matches : (k : ℕ) → a ≡ exact k → Sought s.flows t × Matches (same t) (spellings s) k
  -- Ending: none is spelled so, and the entry ends in "." and the target
  pub ending_matches : (k : ℕ) → a ≡ ending k → Sought s.flows t × (any (same t) (spellings s) ≡ false) × Matches (ends (46 ∷ t)) (spellings s) k
  -- Missing, exactly where nothing matches
  pub missing_means : (a ≡ missing) ↔ (Sought s.flows t × (any (answers t) (spellings s) ≡ false))
