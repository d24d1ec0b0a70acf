-- The entries of a file in the index and in a set of targets: what the set says of a target. Assumes nothing.
use mathlib.Core.Path.{◌≡◌, ◌∙◌, ap}
use mathlib.Core.Bool.{Bool, false}
use mathlib.Core.List.{List}
use Prim.Native.Nat.{ℕ}
use native.Mathlib.Omega.{arith}
use lib.Dec.{T}
use Rattle.names.specs.Words.{Bytes, any, one_of}
use Rattle.story.specs.declared.Sections.{Sections}
use Rattle.story.specs.File.{story_in}
use Rattle.story.proofs.Readable.{Readable}
use Rattle.sets.specs.Sets.{held, Empty}
use Rattle.symbols.specs.Fits.{answers}
use Rattle.targets.specs.Slots.{end_slots}
use Rattle.targets.proofs.Filling.{put_all}
use Rattle.enumerator.specs.declared.Seen.{Seen}
use Rattle.symbols.specs.Index.{entries, spellings}
use Rattle.symbols.specs.Placed.{placed}
use Rattle.enumerator.specs.Visited.{Visited}
use Rattle.enumerator.specs.Entered.{Entered}
use Rattle.symbols.proofs.Placed.{placed-length}
use Rattle.enumerator.proofs.Spelled.{places-spelled}
use Rattle.enumerator.specs.Laws.{visited-count}

-- the entries of the file were visited, from an empty set on
pub entered : (c : Sections) {file target index set index' set' : List ℕ} {found : Bool} {seen : Seen} → Empty set
    → Visited file target (placed (entries (story_in c file))) index set (record { count = 0; left = false; found = found }) index' set' seen
    → Entered file c index index' set' seen
entered c {file} e v = record {
  counted = omega (arith, visited-count v, placed-length (entries (story_in c file)));
  stored = v.stored;
  targets = put_all e v.put;
}

module _ {c : Sections} {file index index' set : List ℕ} {seen : Seen} (r : Readable c file) (e : Entered file c index index' set seen) (t : Bytes) where
  -- a target that the set has is answered
  pub target_sound : T (one_of t (held (end_slots file) set)) → T (any (answers t) (spellings (story_in c file)))
  target_sound h = rw (places-spelled c file r) at (e.targets.sound t h)

  -- where no target was left out, the set has exactly those that are answered
  pub target-known : seen.left ≡ false → one_of t (held (end_slots file) set) ≡ any (answers t) (spellings (story_in c file))
  target-known h = e.targets.whole h t ∙ ap (any (answers t)) (places-spelled c file r)
