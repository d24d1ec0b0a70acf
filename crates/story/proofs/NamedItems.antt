-- An item of a readable file whose sort has a name bears the name that the file has at its place: `story-named`. Assumes nothing.
use mathlib.Core.Path.{◌≡◌, refl, sym}
use mathlib.Core.Bool.{false}
use mathlib.Core.List.Memᴰ
use mathlib.Core.List.{List, Memᴰ}
use Prim.Native.Nat.{ℕ, ◌+◌}
use native.Mathlib.Nat.{add_assoc}
use native.Mathlib.Omega.{arith}
use lib.ListN.{length, drop, length-drop}
use Rattle.fields.proofs.Laws.{name-fits}
use Rattle.records.specs.Trace.{and_then, shift, Record, met, well, ends}
use Rattle.records.specs.Grammar.{nodes}
use Rattle.records.specs.Items.{Item, sort_of, name_start, nameless, record_name, what_of, item_as, item_of}
use Rattle.records.specs.Stands.{Stands}
use Rattle.records.proofs.Places.{stands-fits}
use Rattle.story.specs.declared.Sections.{Sections}
use Rattle.story.specs.Story.{story_items}
use Rattle.story.specs.Flows.{names, flows, part}
use Rattle.story.specs.File.{sections_read, story_in, InOrder}
use Rattle.story.proofs.Endings.{both-well, shift-well}
use Rattle.story.proofs.Induction.{Each, each-then, each-shift, each-met, names-hold, nodes-hold, flows-hold}
use Rattle.story.proofs.WellInside.{Bears, Sound, sound}
use Rattle.story.proofs.RecordNames.{bears-name}
use Rattle.story.proofs.Named.{Lies, lies_at, lies-drop, name-in-lies, NamedItem}
use Rattle.story.proofs.StoryItems.{story-items}
use Rattle.story.proofs.Standing.{record-stands}

-- an item of a record that stands in the file
pub record Standing (file : List ℕ) (i : Item) : Type 0 where
  pub of : Record
  pub same : item_of of ≡ i
  pub stands : Stands file of.place of.kind of.payload
  pub named : nameless (sort_of of.role of.kind of.payload) of.payload ≡ false → NamedItem file (length file) i

module _ (c : Sections) (s : List ℕ) (order : InOrder c s) (good : ends (sections_read c s) ≡ well) where
  -- each record of the file is read well inside
  all-bear : Each Bears (sections_read c s)
  unfolding sections_read
  all-bear =
      let g = names (part 0 c.externals s) in
      let x = names (part c.externals c.root s) in
      let n = nodes (part c.root c.flows s) in
      let f = flows (part c.flows c.end s) in
      let behind = and_then (shift c.root n) (shift c.flows f) in
      let w = both-well g (and_then x behind) good in
      let v = both-well x behind w.1 in
      let u = both-well (shift c.root n) (shift c.flows f) v.1 in
      each-then Bears g (and_then x behind) (names-hold Sound sound (part 0 c.externals s) w.0)
      (each-then Bears x behind (names-hold Sound sound (part c.externals c.root s) v.0)
      (each-then Bears (shift c.root n) (shift c.flows f)
      (each-shift Bears c.root n (nodes-hold Sound sound (part c.root c.flows s) (shift-well c.root n u.0)))
      (each-shift Bears c.flows f (flows-hold Sound sound (part c.flows c.end s) (shift-well c.flows f u.1)))))

  record-named : (r : Record) → Memᴰ r (met 0 (sections_read c s)) → nameless (sort_of r.role r.kind r.payload) r.payload ≡ false → NamedItem s (length s) (item_of r)
  unfolding item_of item_as what_of record_name
  record-named r m h =
      let sort = sort_of r.role r.kind r.payload in
      let has = bears-name r.role r.kind r.payload (each-met Bears 0 (sections_read c s) all-bear r m) h in
      let stands = (record-stands c s order r m).0 in
      let payload : Lies s (r.place + 5) r.payload = record { size = length r.payload; bytes = sym stands.behind } in
      let at : r.place + 5 + name_start sort ≡ r.place + (5 + name_start sort) = add_assoc r.place 5 (name_start sort) in
      let fits = name-fits (drop (name_start sort) r.payload) has.0 refl has.1 in
      record {
        name = rw h (name-in-lies (lies_at (lies-drop payload (name_start sort)) at) has);
        before = omega (arith, fits, length-drop (name_start sort) r.payload, stands-fits s stands);
      }

  pub story-named : (i : Item) → Memᴰ i (story_items (story_in c s)) → Standing s i
  story-named i m =
      let o = Memᴰ.of_map item_of (met 0 (sections_read c s)) (rw (← story-items c s good) at m) in
      record { of = o.0; same = o.2; stands = (record-stands c s order o.0 o.1).0; named = λ h. rw (← o.2) (record-named o.0 o.1 h) }
