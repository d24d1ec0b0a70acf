-- Inner contract. The entries of a file in the index and in a set of targets. Assumes nothing.
use Rattle.std.specs.Prelude.{ℕ, ◌≡◌, List, length}
use Rattle.story.specs.declared.Sections.{Sections}
use Rattle.story.specs.File.{story_in}
use Rattle.targets.specs.Entries.{TargetsIn}
use Rattle.enumerator.specs.declared.Seen.{Seen}
use Rattle.symbols.specs.Index.{entries}
use Rattle.symbols.specs.Numbers.{st}
use Rattle.enumerator.specs.Numbers.{store_all}
use Rattle.symbols.specs.Placed.{placed}

-- how many entries there are; they are stored in the index as far as there is room, and their targets were put into the set
pub record Entered (file : List ℕ) (c : Sections) (index index' set : List ℕ) (seen : Seen) : Type 0 where
  pub counted : seen.count ≡ length (entries (story_in c file))
  pub stored : st index' seen.count ≡ store_all (st index 0) (placed (entries (story_in c file)))
  pub targets : TargetsIn file set (placed (entries (story_in c file))) seen.left
