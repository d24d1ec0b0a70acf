-- The stitches of a flow: when they can be read, and whether there are some. Assumes nothing.
use Rattle.std.specs.Prelude.{ℕ, ◌≤◌, ◌≡◌, Bool, true, List, length}
use Rattle.names.specs.Words.{any}
use Rattle.records.specs.Trace.{well, ends}
use Rattle.story.specs.Story.{Stitch}
use Rattle.story.specs.Flows.{part, stitches}
use Rattle.items.specs.Bodies.{kept_stitches}

-- the stitches from the place on to the end lie within the file and can be read
pub record StitchesReady (file : List ℕ) (at end : ℕ) : Type 0 where
  pub ordered : at ≤ end
  pub within : end ≤ length file
  pub short : length file ≤ 1048576
  pub good : ends (stitches (part at end file)) ≡ well

-- the flow has stitches
abbrev pub has_stitches : List ℕ → ℕ → ℕ → Bool
has_stitches file at end = any (λ (t : Stitch). true) (kept_stitches file at end)
