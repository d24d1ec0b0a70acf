-- Filters over the names of a body. Assumes nothing.
use Rattle.std.specs.Prelude.{ℕ, ◌/◌, Bool, List, eqb, length, take, drop}
use Rattle.fields.specs.Bytes.{pick}
use Rattle.names.specs.Words.{Bytes}
use Rattle.records.specs.declared.sorts.Sort.TheVariants.{Gather as gather}
use Rattle.records.specs.Items.{What}
use Rattle.story.specs.Story.{whats}
use Rattle.items.specs.Bodies.{kept_in}
use Rattle.items.specs.Search.{label_in, gather_among}
use Rattle.checks.specs.Context.{declared_at}
use Rattle.filters.specs.declared.Wanted.TheVariants.{Sort}
use Rattle.filters.specs.Words.{added_all, named, Covers}

-- a label of the knot whose own list begins at the one place and whose stitches end at the other
abbrev pub label_at : List ℕ → List ℕ → ℕ → ℕ → Bytes → Bool
label_at file kept from end n = label_in (kept_in file kept from end) n

-- where the labels begin in a filter of so many bytes: in the middle, or at the front where no stitch asks what the knot declares
unfoldable pub split_at : ℕ → ℕ → ℕ → ℕ
split_at bytes to end = pick (eqb to end) 0 (bytes / 2)

-- of a filter of the knot with these parameters, this body and the stitches after it, the first part lacks no parameter and no temp,
-- the second no label
pub record Declared (file kept : List ℕ) (params from to end : ℕ) (filter : List ℕ) : Type 0 where
  pub covers : Covers (take (split_at (length filter) to end) filter) (declared_at file kept params from to)
  pub labels : Covers (drop (split_at (length filter) to end) filter) (label_at file kept from end)

-- the filter lacks no gather before item number i of the body
pub record Gathered (file kept : List ℕ) (from to i : ℕ) (filter : List ℕ) : Type 0 where
  pub covers : Covers filter (gather_among (take i (whats (kept_in file kept from to))))

-- the filter after an item was passed: a gather's name is added
unfoldable pub passed : List ℕ → What → List ℕ
passed filter w = added_all filter (named (Sort gather) w)
