-- `symbols::entries::put_flows` meets its contract. The loop's invariant: what is left to be visited are the flows from `at` on,
-- they can be read, and their items are kept. Assumes nothing.
use mathlib.Core.Path.{ap, refl}
use mathlib.Core.List.{map}
use native.Mathlib.Omega.{arith}
use Rattle.story.specs.Plain.{flow_without_plain}
use Rattle.searches.proofs.Viewed.{flow-laid}
use Rattle.searches.proofs.Readable.{no_flow, flow-readable}
use Rattle.items.proofs.Kept.{flow-stitches, flow-rest, flows-plain, flows-from}
use Rattle.symbols.proofs.Visiting.{visiting-parts, visiting-end, visiting-ready, visiting-many}
use Rattle.symbols.proofs.Placed.{flows-none, flows-next}
use Rattle.symbols.proofs.entries.put_flows.Goals as goal

pub loop-v-init : goal.loop-v-init
loop-v-init g c =
    ((c.requires.range.ordered), (c.requires.file_value, c.requires.flows_kept), visiting-parts g.met.V.Visit.laws refl c.requires.ready)

pub flow_view-requires : goal.flow_view-requires
flow_view-requires g c = (c.loop-v.invariant.0, c.requires.range.within)

pub returns : goal.returns
returns g c =
    visiting-end g.met.V.Visit.laws c.loop-v.invariant.2 (flows-none (ap (map flow_without_plain) (no_flow c.args.file.now c.loop-v.at c.args.end c.loop-v.invariant.1.0 c.flow_view.ensures c.in_default.is)))

pub put_flow-requires : goal.put_flow-requires
put_flow-requires g c =
    let file = c.args.file.now in
    let end = c.args.end in
    let loop = c.loop-v in
    let r = c.requires.range in
    let view = c.flow_view.ensures in
    let l = flow-laid file loop.at end c.in-Some.v view c.in-Some.is in record {
      name_lt_params = (l.name, omega (arith, r.within), record { ordered = l.stitches; within = omega (arith, r.within); short = r.short });
      file_value = (flow-readable file loop.at end loop.invariant.1.0 view c.in-Some.v c.in-Some.is).own;
      stitches_kept = flow-stitches file _ loop.at end loop.invariant.0 r.within r.short loop.invariant.1.0 loop.invariant.1.1 c.in-Some.v view c.in-Some.is;
      ready = visiting-ready g.met.V.Visit.laws loop.invariant.2 _ _
          (flows-next (flows-plain file _ loop.at end loop.invariant.0 r.within r.short loop.invariant.1.0 loop.invariant.1.1 c.in-Some.v view c.in-Some.is))
          c.requires.ready;
    }

pub loop-v-smaller : goal.loop-v-smaller
loop-v-smaller g c =
    let l = flow-laid c.args.file.now c.loop-v.at c.args.end c.in-Some.v c.flow_view.ensures c.in-Some.is in omega (arith, c.loop-v.invariant.0)

pub loop-v-preserved : goal.loop-v-preserved
loop-v-preserved g c =
    let file = c.args.file.now in
    let end = c.args.end in
    let loop = c.loop-v in
    let r = c.requires.range in
    let view = c.flow_view.ensures in
    let l = flow-laid file loop.at end c.in-Some.v view c.in-Some.is in (
      omega (arith, loop.invariant.0),
      (
        (flow-readable file loop.at end loop.invariant.1.0 view c.in-Some.v c.in-Some.is).rest,
        flows-from c.items_from-rest.ensures (flow-rest file _ loop.at end loop.invariant.0 r.within r.short loop.invariant.1.0 loop.invariant.1.1 c.in-Some.v view c.in-Some.is),
      ),
      visiting-many g.met.V.Visit.laws loop.invariant.2
          (flows-next (flows-plain file _ loop.at end loop.invariant.0 r.within r.short loop.invariant.1.0 loop.invariant.1.1 c.in-Some.v view c.in-Some.is))
          c.put_flow.ensures,
    )
