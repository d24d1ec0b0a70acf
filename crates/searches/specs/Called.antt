-- A flow by its name, as the rules on targets and calls ask for it. Assumes nothing.
use Rattle.std.specs.Prelude.{Bool, true, false, ◌&&◌}
use Rattle.names.specs.Words.{Bytes, same}
use Rattle.story.specs.Story.{Flow}

-- the flow has the name
abbrev pub is_flow : Bytes → Flow → Bool
is_flow n = λ (f : Flow). same n f.name.bytes

-- the flow is a function and has the name
abbrev pub is_function : Bytes → Flow → Bool
is_function n = λ (f : Flow). f.function && same n f.name.bytes

-- the flow has the name, and is a function where one is asked for
abbrev pub called_as : Bool → Bytes → Flow → Bool
called_as true n = is_function n
called_as false n = is_flow n
