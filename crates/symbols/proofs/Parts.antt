-- The entries of a story as places, part by part in the order in which they are visited. Assumes nothing.
use mathlib.Core.Path.{◌≡◌, sym, ◌∙◌, ap}
use mathlib.Core.List.{[], ◌∷◌, ◌++◌, append_assoc, append-nil}
use Prim.Native.Nat.{ℕ}
use Rattle.names.specs.Words.{each}
use Rattle.story.specs.Story.{Stitch, Flow, Story}
use Rattle.story.specs.Plain.{without_plain, UnlabelledStory}
use Rattle.symbols.specs.Index.{flow_entries, entries}
use Rattle.symbols.specs.Numbers.{absent}
use Rattle.symbols.specs.Placed.{placed, names_placed, labels_placed, prefix_number, stitch_placed}
use Rattle.symbols.proofs.Named.{alone_at}
use Rattle.symbols.proofs.Plain.{entries-plain}
use Rattle.symbols.proofs.Placed.{flow-placed, story-placed}

-- a stitch: its name, its parameters, its labels
pub stitch-parts : (flow : ℕ) (t : Stitch) → stitch_placed flow t
    ≡ (record { flow = flow; stitch = absent; own = t.name.at } ∷ []) ++ (names_placed t.params ++ (labels_placed flow t.name.at t.body ++ []))
unfolding stitch_placed
stitch-parts flow t = rw append-nil

-- a flow: its name, its parameters, its labels, its stitches
pub flow-parts : (f : Flow) → placed (flow_entries f)
    ≡ (alone_at f.name.at ∷ [])
    ++ (names_placed f.params ++ (labels_placed (prefix_number f.name.bytes f.name.at) absent f.body ++ (each (stitch_placed f.name.at) f.stitches ++ [])))
flow-parts f = flow-placed f ∙ simp (append_assoc, append-nil)

-- a story: its globals, the labels of its root, its flows, without plain items, which change nothing where they bear no label
pub story-parts : (s : Story) → UnlabelledStory s → placed (entries s)
    ≡ names_placed (without_plain s).globals ++ (labels_placed absent absent (without_plain s).root ++ (placed (each flow_entries (without_plain s).flows) ++ []))
story-parts s u = ap placed (sym (entries-plain s u)) ∙ (story-placed (without_plain s) ∙ simp (append_assoc, append-nil))
