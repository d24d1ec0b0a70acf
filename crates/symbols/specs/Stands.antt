-- What the numbers of an entry stand for in the file. Assumes nothing.
use Rattle.std.specs.Prelude.{◌≡◌, List, ℕ, ◌<◌}
use Rattle.std.proofs.Math.Option.{Option, none, some}
use Rattle.names.specs.Counted.{name_at}
use Rattle.story.specs.Story.{Name}
use Rattle.symbols.specs.Index.{Entry}

-- the file has the name at its place, which lies before the end
pub record NameStands (file : List ℕ) (end : ℕ) (n : Name) : Type 0 where
  pub before : n.at < end
  pub bytes : n.bytes ≡ name_at file n.at

-- it does, where there is a name
abbrev pub PartStands : List ℕ → ℕ → Option Name → Type 0
PartStands file end none = Unit {0}
PartStands file end (some n) = NameStands file end n

-- each number of the entry is a place where a name of the file stands, or none
pub record EntryStands (file : List ℕ) (end : ℕ) (e : Entry) : Type 0 where
  pub flow : PartStands file end e.flow
  pub stitch : PartStands file end e.stitch
  pub own : NameStands file end e.own
