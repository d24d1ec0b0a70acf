-- `tables::functions::put_functions` meets its contract. The loop's invariant: the table has the flows before `at`, and those from it
-- on can be read. Assumes nothing.
use mathlib.Core.Path.{refl}
use native.Mathlib.Omega.{arith}
use Rattle.story.proofs.Readable.{readable}
use Rattle.searches.proofs.Viewed.{flow-viewed, flow-laid}
use Rattle.searches.proofs.Readable.{no_flow, flow-readable}
use Rattle.tables.proofs.Filling.{filling-start, filling-next, filling-end, no-slots}
use Rattle.tables.proofs.functions.put_functions.Goals as goal

pub returns-then-table-eq0 : goal.returns-then-table-eq0
returns-then-table-eq0 c = no-slots _ _ _ c.clear.ensures c.if-table-eq0.true

pub loop-v-init : goal.loop-v-init
loop-v-init c =
    let r = readable c.args.file.now c.args.c refl c.requires in
    ((r.order.flows, refl), filling-start (omega arith) c.clear.ensures, r.flows)

pub flow_view-requires : goal.flow_view-requires
flow_view-requires c =
    let r = (readable c.args.file.now c.args.c refl c.requires).order in omega arith

pub returns : goal.returns
returns c =
    let loop = c.loop-v in
    filling-end _ _ _ loop.invariant.1 (no_flow c.args.file.now loop.at c.args.c.end loop.invariant.2 c.flow_view.ensures c.in_default.is)

pub put_flow-requires : goal.put_flow-requires
put_flow-requires c =
    let loop = c.loop-v in
    let flow-view = c.flow_view in
    let l = flow-laid c.args.file.now loop.at c.args.c.end c.in-Some.v flow-view.ensures c.in-Some.is in
    let r = (readable c.args.file.now c.args.c refl c.requires).order in
    omega (arith, loop.invariant.1.room)

pub loop-v-smaller : goal.loop-v-smaller
loop-v-smaller c =
    let loop = c.loop-v in
    let flow-view = c.flow_view in
    let l = flow-laid c.args.file.now loop.at c.args.c.end c.in-Some.v flow-view.ensures c.in-Some.is in
    omega (arith, loop.invariant.0)

pub loop-v-preserved : goal.loop-v-preserved
loop-v-preserved c =
    let loop = c.loop-v in
    let flow-view = c.flow_view in
    let l = flow-laid c.args.file.now loop.at c.args.c.end c.in-Some.v flow-view.ensures c.in-Some.is in (
      omega (arith, loop.invariant.0),
      filling-next loop.invariant.1 c.in-Some.v
          (flow-viewed c.args.file.now loop.at c.args.c.end c.in-Some.v flow-view.ensures c.in-Some.is)
          c.put_flow.ensures,
      (flow-readable c.args.file.now loop.at c.args.c.end loop.invariant.2 flow-view.ensures c.in-Some.v c.in-Some.is).rest,
    )
