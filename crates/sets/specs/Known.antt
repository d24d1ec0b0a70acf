-- Inner contract. The names of the whole story in one set, each in its class: 0 globals, 1 externals, 2 flows, 3 functions; and those for which there was no room.
use Rattle.std.specs.Prelude.{ℕ, ◌≤◌, ◌≡◌, Bool, true, false, ◌&&◌, ◌||◌, List, ◌∷◌}
use Rattle.names.specs.Words.{Bytes, same, any, one_of}
use Rattle.names.specs.Counted.{name_at}
use Rattle.story.specs.declared.Sections.{Sections}
use Rattle.story.specs.Story.{words}
use Rattle.story.specs.File.{story_in}
use Rattle.story.specs.Flows.{names_in, flows_in, part}
use Rattle.searches.specs.declared.views.FlowView.{FlowView}
use Rattle.searches.specs.Called.{called_as}
use Rattle.sets.specs.declared.known.Names.{Names}
use Rattle.sets.specs.Sets.{name_slots, held, Reachable, Holding, Same}

-- the words of the names from the one offset to the other
abbrev pub section_words : List ℕ → ℕ → ℕ → List Bytes
section_words file from to = words (names_in from (part from to file))

-- the names of a section were put in the class, those from `rest` on not; the other classes stayed
pub record NamesPut (file : List ℕ) (class from to : ℕ) (before after : List ℕ) (rest : ℕ) : Type 0 where
  pub inside : rest ≤ to
  pub names : Holding (name_slots file) class after (section_words file from to) (section_words file rest to)
  pub others : (d : ℕ) → (d ≡ class → ⊥) → Same (name_slots file) d before after

-- the class of flows that are functions, or of all flows
abbrev pub flow_class : Bool → ℕ
flow_class true = 3
flow_class false = 2

-- the flow has the name, and is a function where one is asked for
abbrev pub view_called : Bool → List ℕ → FlowView → Bytes → Bool
view_called true file v w = v.function && same w (name_at file v.name)
view_called false file v w = same w (name_at file v.name)

-- the name of a flow was put, in one class or in both; or there was no room: what was put then is its name all the same
pub record FlowPut (file : List ℕ) (v : FlowView) (before after : List ℕ) (full : Bool) : Type 0 where
  pub reachable : Reachable (name_slots file) after
  pub put : full ≡ false → (f : Bool) (w : Bytes)
      → one_of (flow_class f ∷ w) (held (name_slots file) after) ≡ view_called f file v w || one_of (flow_class f ∷ w) (held (name_slots file) before)
  pub some : (f : Bool) (w : Bytes)
      → one_of (flow_class f ∷ w) (held (name_slots file) after) || view_called f file v w ≡ one_of (flow_class f ∷ w) (held (name_slots file) before) || view_called f file v w
  pub others : (d : ℕ) → (d ≡ 2 → ⊥) → (d ≡ 3 → ⊥) → Same (name_slots file) d before after

-- flows, and functions among them: those that the set holds, and those from the offset on
pub record FlowsHeld (file : List ℕ) (c : Sections) (set : List ℕ) (rest : ℕ) : Type 0 where
  pub names : (f : Bool) (w : Bytes) → any (called_as f w) (story_in c file).flows
      ≡ one_of (flow_class f ∷ w) (held (name_slots file) set) || any (called_as f w) (flows_in rest (part rest c.end file))

-- the names of the flows were put, those of the flows from `rest` on not; the other classes stayed
pub record FlowsPut (file : List ℕ) (c : Sections) (before after : List ℕ) (rest : ℕ) : Type 0 where
  pub reachable : Reachable (name_slots file) after
  pub inside : rest ≤ c.end
  pub flows : FlowsHeld file c after rest
  pub others : (d : ℕ) → (d ≡ 2 → ⊥) → (d ≡ 3 → ⊥) → Same (name_slots file) d before after

-- the names of the story are those that the set holds, and those from the offsets on
pub record NamesIn (file : List ℕ) (c : Sections) (set : List ℕ) (n : Names) : Type 0 where
  pub reachable : Reachable (name_slots file) set
  pub inside : (n.globals ≤ c.externals) × (n.externals ≤ c.root) × (n.flows ≤ c.end)
  pub globals : Holding (name_slots file) 0 set (words (story_in c file).globals) (section_words file n.globals c.externals)
  pub externals : Holding (name_slots file) 1 set (words (story_in c file).externals) (section_words file n.externals c.root)
  pub flows : FlowsHeld file c set n.flows
