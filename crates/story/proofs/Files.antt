-- What holds of the kept numbers of a file that `read_of` opens. Assumes nothing.
use Rattle.std.specs.Prelude.{Ok}
use mathlib.Core.Path.{◌≡◌, refl}
use mathlib.Core.List.{List}
use Prim.Native.Nat.{ℕ, ◌+◌, ◌*◌, ◌≤◌}
use lib.ListN.{length}
use Rattle.names.specs.Words.{Sorted, each}
use Rattle.records.specs.Trace.{well, ends}
use Rattle.story.specs.declared.Sections.{Sections}
use Rattle.story.specs.File.{read_of, sections_read, story_in, InOrder}
use Rattle.story.proofs.Opening.{sections-well}
use Rattle.story.proofs.Places.{ItemBefore}
use Rattle.story.proofs.Readable.{readable}
use Rattle.records.specs.Numbers.{kept_numbers, between}
use Rattle.story.specs.Story.{flow_items, story_items}
use Rattle.story.proofs.Weights
use Rattle.story.proofs.Standing
use Rattle.story.proofs.BodyRuns

module _ (file : List ℕ) (c : Sections) (e : read_of file ≡ Ok c) where
  in_order : InOrder c file
  in_order = (readable file c refl e).order

  good : ends (sections_read c file) ≡ well
  good = sections-well file c e

  -- at most (L - 20) / 6 are kept
  pub kept-bound : 6 * length (kept_numbers (story_items (story_in c file))) + 20 ≤ length file
  kept-bound = Weights.kept-few c file in_order good

  -- places rise across the whole file
  pub places-rise : Sorted ItemBefore (story_items (story_in c file))
  places-rise = Standing.story-rises c file in_order good

  -- the root's are those from its start on and before the flows' start
  pub root-is-run : between c.root c.flows (kept_numbers (story_items (story_in c file))) ≡ kept_numbers (story_in c file).root
  root-is-run = BodyRuns.root-run c file in_order (readable file c refl e).flows

  -- the others are those of the flows
  pub flows-are-run : (from to : ℕ) → c.flows ≤ from → between from to (kept_numbers (story_items (story_in c file))) ≡ between from to (kept_numbers (each flow_items (story_in c file).flows))
  flows-are-run = BodyRuns.flows_run c file in_order (readable file c refl e).flows
