-- Names that a count byte counts, as the rules on parameters and divert parameters ask for them. Assumes nothing.
use Rattle.std.specs.Prelude.{ℕ, Bool, List, drop}
use Rattle.names.specs.Words.{Bytes, one_of}
use Rattle.story.specs.Story.{words}
use Rattle.story.specs.Flows.{counted_in}

-- a name of those that the count byte at the place counts
abbrev pub counted_at : List ℕ → ℕ → Bytes → Bool
counted_at file at n = one_of n (words (counted_in at (drop at file)))
