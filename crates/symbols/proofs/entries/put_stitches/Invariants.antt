-- `symbols::entries::put_stitches` meets its contract. The loop's invariant: what is left to be visited are the stitches from `at` on,
-- they can be read, and their items are kept. Assumes nothing.
use mathlib.Core.Path.{◌≡◌}
use Prim.Native.Nat.{◌≤◌, ◌-◌}
use Rattle.names.specs.Words.{each}
use Rattle.records.specs.Trace.{well, ends}
use Rattle.story.specs.Flows.{part, stitches}
use Rattle.items.specs.Bodies.{kept_stitches, StitchesKept}
use Rattle.symbols.specs.Placed.{stitch_placed}
use Rattle.symbols.proofs.Visiting.{Visiting}
use Rattle.symbols.proofs.entries.put_stitches.Given as goal

abbrev pub invariant-loop-s : goal.invariant-loop-s
invariant-loop-s g l =
    ((l.at ≤ l.end))
    × ((ends (stitches (part l.at l.end l.file)) ≡ well) × StitchesKept l.file l.rest.numbers.now l.at l.end)
    × Visiting g.V.Visit.visited l.initial.visitor (each (stitch_placed l.flow) (kept_stitches l.file l.initial.at l.end)) l.visitor (each (stitch_placed l.flow) (kept_stitches l.file l.at l.end))

abbrev pub decreases-loop-s : goal.decreases-loop-s
decreases-loop-s g l = l.end - l.at
