-- Each body of a readable file's story has the items of the records met in nodes of the file that are read well: `file-bodies`. Assumes nothing.
use mathlib.Core.Path.{◌≡◌, refl, sym, ◌∙◌}
use mathlib.Core.List.{List, map}
use Prim.Native.Nat.{ℕ, ◌+◌}
use native.Mathlib.Omega.{arith}
use lib.ListN.{drop}
use lib.Seq.{drop-drop}
use Rattle.names.specs.Words.{◌∈◌}
use Rattle.records.specs.Trace.{met, well, ends}
use Rattle.records.specs.Grammar.{ending, nodes}
use Rattle.story.specs.declared.Sections.{Sections}
use Rattle.records.specs.Items.{Item, item_of, items_ended, items_in}
use Rattle.story.specs.Story.{Stitch, Flow}
use Rattle.story.specs.Flows.{stitch, flow, stitches, part, stitch_in, flow_in, flows_in}
use Rattle.story.specs.File.{story_in}
use Rattle.story.proofs.Unfolding.{titled-in, flow-in}
use Rattle.story.proofs.Readable as file
use Rattle.story.proofs.Named.{Lies, lies-in-file, lies_at, lies-drop, lies-part}
use Rattle.story.proofs.Owned.{pieces-each}
use Rattle.rules.specs.Reader.{Readable, story_of}
use Rattle.rules.specs.Sorts.{BodyOf, of_root, of_flow, of_stitch}
use Rattle.rules.proofs.Reader.{story-told}

-- items of the records met in nodes of the file that are read well
pub record WellRead (file : List ℕ) (items : List Item) : Type 0 where
  pub at : ℕ
  pub bytes : List ℕ
  pub lies : Lies file at bytes
  pub good : ends (nodes bytes) ≡ well
  pub all : items ≡ map item_of (met at (nodes bytes))

items-well : {file : List ℕ} (b : ℕ) (t : List ℕ) → Lies file b t → ends (nodes t) ≡ well → WellRead file (items_in b t)
unfolding items_in items_ended
items-well b t l good = record { at = b; bytes = t; lies = l; good = good; all = rw good }

stitch-well : {file : List ℕ} (p : ℕ) (u : List ℕ) → Lies file (p + 4) u → ends (stitch u) ≡ well → WellRead file (stitch_in p u).body
unfolding stitch_in
stitch-well p u l good =
    let d = file.titled-heading ending u (file.stitch-titled u good) in
    let h = d.0 in
    rw (titled-in (p + 4) u h refl d.1.told) (items-well (p + 4 + h.nodes) (part h.nodes h.end u) (lies-part l h.nodes h.end) d.1.nodes)

-- the bodies of a flow
record FlowWell (file : List ℕ) (f : Flow) : Type 0 where
  body : WellRead file f.body
  stitches : (t : Stitch) → t ∈ f.stitches → WellRead file t.body

flow-well : {s : List ℕ} (p : ℕ) (u : List ℕ) → Lies s (p + 4) u → ends (flow u) ≡ well → FlowWell s (flow_in p u)
flow-well {s} p u l good =
    let f = file.flow-titled u good in
    let d = file.titled-heading stitches (drop 1 u) f.1 in
    let h = d.0 in
    let begin : p + 4 + 1 ≡ p + 5 = omega arith in
    let after : p + 4 + (1 + h.end) ≡ p + (5 + h.end) = omega arith in
    rw (flow-in p u h refl d.1.told)
    (record {
      body = items-well (p + 5 + h.nodes) (part h.nodes h.end (drop 1 u)) (lies-part (lies_at (lies-drop l 1) begin) h.nodes h.end) d.1.nodes;
      stitches =
          pieces-each stitch stitch_in (λ (t : Stitch). WellRead s t.body) stitch-well (drop (1 + h.end) u) (lies_at (lies-drop l (1 + h.end)) after)
          (rw (drop-drop h.end 1 u) at d.1.rest);
    })

module _ (c : Sections) (s : List ℕ) (r : file.Readable c s) where
  root-well : WellRead s (story_in c s).root
  unfolding story_in
  root-well = items-well c.root (part c.root c.flows s) (lies-in-file s c.root c.flows) r.root

  flows-well : (f : Flow) → f ∈ (story_in c s).flows → FlowWell s f
  unfolding story_in flows_in
  flows-well f m =
      pieces-each flow flow_in (FlowWell s) flow-well (part c.flows c.end s) (lies-in-file s c.flows c.end)
      (sym (file.flows-pieces (part c.flows c.end s)) ∙ r.flows) f m

  story-bodies : (items : List Item) → BodyOf (story_in c s) items → WellRead s items
  story-bodies items of_root = root-well
  story-bodies items (of_flow {f} m) = (flows-well f m).body
  story-bodies items (of_stitch {f} {t} m n) = (flows-well f m).stitches t n

pub file-bodies : (s : List ℕ) → Readable s → (items : List Item) → BodyOf (story_of s) items → WellRead s items
file-bodies s r items b =
    story-bodies r.sections s (file.readable s r.sections refl r.told) items (rw (story-told s r.sections r.told) at b)
