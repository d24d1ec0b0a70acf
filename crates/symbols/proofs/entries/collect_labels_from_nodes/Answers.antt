-- `symbols::entries::collect_labels_from_nodes` meets its contract. The loop's invariant: what is left to be visited are the labels
-- from item number `i` on. Assumes nothing.
use mathlib.Core.Path.{refl}
use native.Mathlib.Omega.{arith}
use Rattle.symbols.proofs.Visiting.{visiting-parts, visiting-end, visiting-ready, visiting-many}
use Rattle.symbols.proofs.Labels.{labels_next, labels-end}
use Rattle.symbols.proofs.entries.collect_labels_from_nodes.Goals as goal

pub loop-item-init : goal.loop-item-init
loop-item-init g c = (omega arith, visiting-parts g.met.V.Visit.laws refl c.requires)

pub put_label-requires : goal.put_label-requires
put_label-requires g c =
    visiting-ready g.met.V.Visit.laws c.loop-item.invariant.1 _ _ (labels_next c.args.file.now c.args.flow c.args.stitch c.args.items.now c.loop-item.item-index (omega arith)) c.requires

pub loop-item-preserved : goal.loop-item-preserved
loop-item-preserved g c = (
  omega (arith, c.loop-item.invariant.0),
  visiting-many g.met.V.Visit.laws c.loop-item.invariant.1 (labels_next c.args.file.now c.args.flow c.args.stitch c.args.items.now c.loop-item.item-index (omega arith)) c.put_label.ensures,
)

pub returns : goal.returns
returns g c =
    visiting-end g.met.V.Visit.laws c.loop-item.invariant.1 (labels-end c.args.file.now c.args.flow c.args.stitch c.args.items.now c.loop-item.item-index (omega arith))
