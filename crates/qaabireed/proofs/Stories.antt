-- The places in a readable file's story lie within the file: `story-within`. Assumes nothing.
use mathlib.Core.Path.{◌≡◌, refl, sym, ◌∙◌, ap}
use mathlib.Core.List.Memᴰ
use mathlib.Core.List.{List}
use Prim.Native.Nat.{ℕ, ◌+◌, ◌-◌, ◌≤◌, ◌<◌}
use native.Mathlib.Omega.{arith}
use lib.ListN.{length, drop, length-take, length-drop}
use lib.Seq.{drop-drop}
use Rattle.names.specs.Words.{◌∈◌}
use Rattle.records.specs.Trace.{well, ends}
use Rattle.records.specs.Grammar.{Reading, ending}
use Rattle.records.proofs.Places.{lies_within}
use Rattle.story.specs.declared.Sections.{Sections}
use Rattle.story.specs.declared.Heading.{Heading}
use Rattle.records.specs.Items.{Item, name_in, items_in}
use Rattle.story.specs.Story.{Name, Stitch, Flow, Story}
use Rattle.story.specs.Flows.{stitch, flow, counted_in, part, stitch_in, flow_in, flows_in, stitches}
use Rattle.story.specs.File.{story_in}
use Rattle.story.proofs.Unfolding.{titled-in, flow-in}
use Rattle.story.proofs.Readable.{Readable, flows-pieces, TitledWell, titled-heading, flow-titled, stitch-titled}
use Rattle.story.proofs.Places.{item-of, item-within}
use Rattle.story.proofs.Named.{Lies, lies-in-file, lies_at, lies-drop, named-near}
use Rattle.story.proofs.Owned.{title-own, pieces-each}

-- 1. Items

-- an item stands before the end; the place of its name is at most six bytes further
pub record ItemWithin (end : ℕ) (i : Item) : Type 0 where
  pub place : i.place < end
  pub named : i.named < end + 6

pub items-within : (b end : ℕ) (t : List ℕ) → b + length t ≤ end → (i : Item) → i ∈ items_in b t → ItemWithin end i
items-within b end t h i m =
    let o = item-of b t i m in
    let w = item-within b t i m in
    record { place = omega (arith, w); named = omega (arith, lies_within b t o.0 o.1, named-near o.0, ap (λ (x : Item). x.named) o.2) }

-- 2. Titles, stitches and flows

-- name, parameters and items stand before the end
pub record TitleWithin (end : ℕ) (n : Name) (ps : List Name) (items : List Item) : Type 0 where
  pub name : n.at < end
  pub params : (m : Name) → m ∈ ps → m.at < end
  pub body : (i : Item) → i ∈ items → ItemWithin end i

-- those of a stitch
abbrev pub StitchWithin : ℕ → Stitch → Type 0
StitchWithin end t = TitleWithin end t.name t.params t.body

-- those of a flow, and of its stitches
pub record FlowWithin (end : ℕ) (f : Flow) : Type 0 where
  pub at : f.at < end
  pub own : TitleWithin end f.name f.params f.body
  pub stitches : (t : Stitch) → t ∈ f.stitches → StitchWithin end t

-- bytes that stand in the file end within it
lies-fits : {file : List ℕ} {at : ℕ} {t : List ℕ} → Lies file at t → 0 < length t → at + length t ≤ length file
lies-fits {file} {at} l h = omega (arith, ap length l.bytes, length-take l.size (drop at file), length-drop at file)

module _ {file : List ℕ} {at : ℕ} {k : Reading} {h : Heading} {s : List ℕ} (l : Lies file at s) (w : TitledWell k h s) where
  title-fits : at + h.end ≤ length file
  title-fits = omega (arith, w.laid, lies-fits l (omega (arith, w.laid)))

  title-within : TitleWithin (length file) (record { at = at; bytes = name_in s }) (counted_in (at + h.params) (drop h.params s)) (items_in (at + h.nodes) (part h.nodes h.end s))
  unfolding part
  title-within =
      let o = title-own l w in
      record {
        name = omega (arith, o.within (record { at = at; bytes = name_in s }) (Memᴰ.head refl), title-fits);
        params = λ m i. omega (arith, o.within m (Memᴰ.tail (Memᴰ.append_left _ i)), title-fits);
        body = items-within (at + h.nodes) (length file) (part h.nodes h.end s) (omega (arith, w.laid, length-take (h.end - h.nodes) (drop h.nodes s), title-fits));
      }

stitch-within : {file : List ℕ} (p : ℕ) (u : List ℕ) → Lies file (p + 4) u → ends (stitch u) ≡ well → StitchWithin (length file) (stitch_in p u)
unfolding stitch_in
stitch-within p u l good =
    let d = titled-heading ending u (stitch-titled u good) in rw (titled-in (p + 4) u d.0 refl d.1.told) (title-within l d.1)

flow-within : {file : List ℕ} (p : ℕ) (u : List ℕ) → Lies file (p + 4) u → ends (flow u) ≡ well → FlowWithin (length file) (flow_in p u)
flow-within {file} p u l good =
    let f = flow-titled u good in
    let d = titled-heading stitches (drop 1 u) f.1 in
    let h = d.0 in
    let begin : p + 4 + 1 ≡ p + 5 = omega arith in
    let after : p + 4 + (1 + h.end) ≡ p + (5 + h.end) = omega arith in
    rw (flow-in p u h refl d.1.told) (record {
      at = omega (arith, lies-fits l f.0);
      own = title-within (lies_at (lies-drop l 1) begin) d.1;
      stitches = pieces-each stitch stitch_in (StitchWithin (length file)) stitch-within (drop (1 + h.end) u) (lies_at (lies-drop l (1 + h.end)) after) (rw (drop-drop h.end 1 u) at d.1.rest);
    })

-- 3. A story

-- those of a story
pub record StoryWithin (end : ℕ) (s : Story) : Type 0 where
  pub root : (i : Item) → i ∈ s.root → ItemWithin end i
  pub flows : (f : Flow) → f ∈ s.flows → FlowWithin end f

pub story-within : (c : Sections) (s : List ℕ) → Readable c s → StoryWithin (length s) (story_in c s)
unfolding story_in flows_in part
story-within c s r = record {
  root = items-within c.root (length s) (part c.root c.flows s) (omega (arith, r.order, length-take (c.flows - c.root) (drop c.root s)));
  flows = λ f m. pieces-each flow flow_in (FlowWithin (length s)) flow-within (part c.flows c.end s) (lies-in-file s c.flows c.end) (sym (flows-pieces (part c.flows c.end s)) ∙ r.flows) f m;
}
