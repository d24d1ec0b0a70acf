-- `symbols::entries::collect_labels_from_nodes` meets its contract. The loop's invariant: what is left to be visited are the labels
-- from item number `i` on. Assumes nothing.
use Prim.Native.Nat.{◌≤◌}
use lib.ListN.{length, drop}
use Rattle.items.specs.Bodies.{items_at}
use Rattle.symbols.specs.Placed.{labels_placed}
use Rattle.symbols.proofs.Visiting.{Visiting}
use Rattle.symbols.proofs.entries.collect_labels_from_nodes.Given as goal

abbrev pub invariant-loop-item : goal.invariant-loop-item
invariant-loop-item g l =
    ((l.item-index ≤ length l.items))
    × Visiting g.V.Visit.visited l.initial.visitor (labels_placed l.flow l.stitch (items_at l.file l.items)) l.visitor (labels_placed l.flow l.stitch (items_at l.file (drop l.item-index l.items)))
