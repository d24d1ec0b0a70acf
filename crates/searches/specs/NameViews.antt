-- The names that an iterator over names has left. Assumes nothing.
use Rattle.std.specs.Prelude.{List, drop}
use Rattle.story.specs.Story.{Name}
use Rattle.story.specs.Flows.{names_n}
use Rattle.searches.specs.declared.name_views.NameView.{NameView}
use Rattle.searches.specs.declared.name_views.NamesFrom.{NamesFrom}

-- the name of a view
abbrev pub viewed_name : NameView → Name
viewed_name v = record { at = v.at; bytes = v.bytes.now }

-- the names that are left
abbrev pub names_left : NamesFrom → List Name
names_left s = names_n s.many s.at (drop s.at s.file.now)
