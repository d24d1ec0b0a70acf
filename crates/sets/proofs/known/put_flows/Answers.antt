-- `sets::known::put_flows` meets its contract. The loop's invariant: the set holds the names of the flows before `at`. Assumes nothing.
use mathlib.Core.Path.{refl, sym, ◌∙◌}
use native.Mathlib.Omega.{arith}
use Rattle.searches.proofs.Viewed.{flow-viewed, flow-laid}
use Rattle.sets.proofs.Flows.{flows-start, flows-next, flows-stop}
use Rattle.sets.proofs.known.put_flows.Goals as goal

pub loop-v-init : goal.loop-v-init
loop-v-init c = (refl, flows-start c.args.source.now.file.now c.args.source.now.sections c.args.set.now c.requires.without c.requires.without_2 c.args.source.now.in_order.flows)

pub returns : goal.returns
returns c = c.loop-v.invariant.1

pub put_flow-requires : goal.put_flow-requires
put_flow-requires c =
    let l = flow-laid c.args.source.now.file.now c.loop-v.at c.args.source.now.sections.end c.in-Some.v c.flow_view.ensures c.in-Some.is in
    record { name_bound = omega (arith, c.args.source.now.in_order.trailer, c.args.source.now.in_order.short); reachable = c.loop-v.invariant.1.reachable }

pub returns-then-is_err : goal.returns-then-is_err
returns-then-is_err c = flows-stop c.loop-v.invariant.1 c.in-Some.v c.put_flow.ensures (flow-viewed c.args.source.now.file.now c.loop-v.at c.args.source.now.sections.end c.in-Some.v c.flow_view.ensures c.in-Some.is)

pub loop-v-smaller : goal.loop-v-smaller
loop-v-smaller c =
    let l = flow-laid c.args.source.now.file.now c.loop-v.at c.args.source.now.sections.end c.in-Some.v c.flow_view.ensures c.in-Some.is in
    omega (arith, c.loop-v.invariant.1.inside)

pub loop-v-preserved : goal.loop-v-preserved
loop-v-preserved c =
    let l = flow-laid c.args.source.now.file.now c.loop-v.at c.args.source.now.sections.end c.in-Some.v c.flow_view.ensures c.in-Some.is in (
      omega (arith, c.loop-v.invariant.0),
      flows-next c.loop-v.invariant.1 c.in-Some.v c.put_flow.ensures (flow-viewed c.args.source.now.file.now c.loop-v.at c.args.source.now.sections.end c.in-Some.v c.flow_view.ensures c.in-Some.is)
          (omega arith) (sym c.is_err.ensures.value ∙ c.if-is_err.false),
    )
