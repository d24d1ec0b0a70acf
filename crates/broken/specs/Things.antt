-- Inner contract. What a thing, as the code has it, is to the rules.
use Rattle.std.specs.Prelude.{ℕ, ◌≡◌, List}
use Rattle.names.specs.Counted.{name_at}
use Rattle.records.specs.Items.{What}
use Rattle.broken.specs.declared.Thing.{Thing}

-- the thing is of the sort, bears the name that the file has at its place, and stands and leaves so
pub record ThingIs (file : List ℕ) (t : Thing) (w : What) : Type 0 where
  pub sort : w.kind ≡ t.sort
  pub named : w.name ≡ name_at file t.name
  pub branch : w.branch ≡ t.branch
  pub leaves : w.leaves ≡ t.leaves
