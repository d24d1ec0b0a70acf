-- What the reader supplies: places rise in each body and in each parameter list, and a flow begins before its list. Assumes nothing.
use Rattle.std.specs.Prelude.{List, ◌<◌}
use Rattle.names.specs.Words.{◌∈◌, Sorted}
use Rattle.records.specs.Items.{Item}
use Rattle.story.specs.Story.{Name, Stitch, Flow, Story}

-- places rise in the body
abbrev pub Rising : List Item → Type 0
Rising l = Sorted (λ (i j : Item). i.place < j.place) l

-- in a flow
pub record PlacedFlow (f : Flow) : Type 0 where
  pub params : Sorted (λ (m n : Name). m.at < n.at) f.params
  pub begins : (i : Item) → i ∈ f.body → f.at < i.place
  pub body : Rising f.body
  pub stitches : (t : Stitch) → t ∈ f.stitches → Rising t.body

-- in a story
pub record Placed (s : Story) : Type 0 where
  pub root : Rising s.root
  pub flows : (f : Flow) → f ∈ s.flows → PlacedFlow f
