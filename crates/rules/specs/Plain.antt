-- Like breaches of two stories, and what a story without its plain items has in common with the story: all that is found in it. Assumes nothing.
use Rattle.std.specs.Prelude.{◌≡◌, List}
use Rattle.names.specs.Words.{Bytes}
use Rattle.records.specs.Items.{Item}
use Rattle.story.specs.Story.{Story}
use Rattle.story.specs.Plain.{not_plain, without_plain}
use Rattle.story.specs.Fewer.{Matching}
use Rattle.items.specs.Search.{label_in, temp_in}
use Rattle.symbols.specs.Index.{entries, spellings}
use Rattle.rules.specs.Rules.{known}
use Rattle.rules.specs.Sorts.{BodyOf}
use Rattle.rules.specs.Steps.{Breach, breaches, verdict}

-- like breaches: the same step and rule, at places that match
pub record LikeBreach (m : Matching) (b c : Breach) : Type 0 where
  pub instance : b.instance ≡ c.instance
  pub rule : b.rule ≡ c.rule
  pub place : m.item b.place c.place
  pub first : m.name b.names.0 c.names.0
  pub second : m.name b.names.1 c.names.1

-- PLAIN ITEMS CHANGE NOTHING: the labels and temps of each body, entries, spellings and breaches are the same, places included
pub record PlainChangeNothing (s : Story) : Type 0 where
  pub labels : (l : List Item) → BodyOf s l → (n : Bytes) → label_in (not_plain l) n ≡ label_in l n
  pub temps : (l : List Item) → BodyOf s l → (n : Bytes) → temp_in (not_plain l) n ≡ temp_in l n
  pub entries : entries (without_plain s) ≡ entries s
  pub spellings : spellings (without_plain s) ≡ spellings s
  pub known : known (without_plain s) ≡ known s
  pub breaches : breaches (without_plain s) ≡ breaches s
  pub verdict : verdict (without_plain s) ≡ verdict s
