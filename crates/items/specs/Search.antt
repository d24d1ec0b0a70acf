-- A name that some item of a body bears: as a label, as a temp, as a gather's label.
use Rattle.std.specs.Prelude.{Bool, ◌&&◌, List}
use Rattle.names.specs.Words.{Bytes, same, any}
use Rattle.records.specs.declared.sorts.Sort.TheVariants.{Temp as temp, Gather as gather}
use Rattle.records.specs.Items.{What, is, Item}
use Rattle.story.specs.Story.{whats}
use Rattle.items.specs.declared.named.Sought.{Sought}
use Rattle.items.specs.declared.named.Sought.TheVariants as sought

-- a label of the body
abbrev pub label_in : List Item → Bytes → Bool
label_in body n = any (λ (w : What). w.labels && same n w.name) (whats body)

-- a TempSet name in the body
abbrev pub temp_in : List Item → Bytes → Bool
temp_in body n = any (λ (w : What). is temp w && same n w.name) (whats body)

-- a name that is a gather's label among some items
abbrev pub gather_among : List What → Bytes → Bool
gather_among ws n = any (λ (v : What). is gather v && same n v.name) ws

-- the item is of the sought sort
unfoldable pub of_sort : Sought → What → Bool
of_sort sought.Label w = w.labels
of_sort sought.Temp w = is temp w
of_sort sought.Gather w = is gather w

-- the item is of the sought sort and bears the name
unfoldable pub bears : Sought → Bytes → What → Bool
bears k n w = of_sort k w && same n w.name

-- some item is of the sought sort and bears the name
unfoldable pub found_among : Sought → List What → Bytes → Bool
found_among k ws n = any (bears k n) ws
