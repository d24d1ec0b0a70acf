-- The entries of a readable file can be visited: they are few, and their names stand before the trailer. Assumes nothing.
use mathlib.Core.Path.{◌≡◌, refl, subst}
use mathlib.Core.List.Memᴰ
use mathlib.Core.List.{List}
use mathlib.Core.Logic.{inl, inr}
use mathlib.Core.Option.{Option, none, some}
use Prim.Native.Nat.{ℕ, ◌≤◌}
use native.Mathlib.Omega.{arith}
use Rattle.names.specs.Words.{◌∈◌}
use Rattle.story.specs.declared.Sections.{Sections}
use Rattle.story.specs.Story.{Name}
use Rattle.story.specs.File.{story_in}
use Rattle.story.proofs.Readable.{Readable}
use Rattle.sets.specs.Sets.{Reachable}
use Rattle.symbols.specs.declared.Places.{Places}
use Rattle.targets.specs.Slots.{end_slots}
use Rattle.targets.specs.Put.{NameFits}
use Rattle.targets.specs.Entries.{PlacesFit}
use Rattle.symbols.specs.Index.{Entry, entries}
use Rattle.symbols.specs.Numbers.{number_of, places_of}
use Rattle.symbols.specs.Placed.{placed}
use Rattle.symbols.specs.Stands.{PartStands, EntryStands}
use Rattle.enumerator.specs.Visited.{Ready}
use Rattle.symbols.proofs.Placed.{placed-length}
use Rattle.symbols.proofs.Owners.{entries-few}
use Rattle.symbols.proofs.ReadBack.{entries-stand}

module _ (file : List ℕ) (end : ℕ) (short : end ≤ 1048575) where
  part-fits : (o : Option Name) → PartStands file end o → NameFits (number_of o)
  part-fits none p = inl refl
  part-fits (some n) p = inr (omega (arith, p.before))

  entry-fits : (e : Entry) → EntryStands file end e → PlacesFit (places_of e)
  entry-fits e p = record { flow = part-fits e.flow p.flow; stitch = part-fits e.stitch p.stitch; own = omega (arith, p.own.before) }

module _ (c : Sections) (file : List ℕ) (r : Readable c file) where
  entries_fit : (p : Places) → p ∈ placed (entries (story_in c file)) → PlacesFit p
  unfolding placed
  entries_fit p m =
      let e = Memᴰ.of_map places_of (entries (story_in c file)) m in
      subst PlacesFit e.2 (entry-fits file c.end (omega (arith, r.order.trailer, r.order.short)) e.0 (entries-stand c file r e.0 e.1))

  -- THE ENTRIES can be visited
  pub story-ready : {set : List ℕ} {n : ℕ} → n ≡ 0 → Reachable (end_slots file) set → Ready file (placed (entries (story_in c file))) set n
  story-ready e s = record {
    few = omega (arith, r.order.trailer, r.order.short, entries-few c file r, placed-length (entries (story_in c file)));
    fit = entries_fit;
    reachable = s;
  }
