-- `validate_flows`. The loop's invariant: nothing is found before the flows from the place on, which can be read and are kept. Assumes nothing.
use mathlib.Core.Path.{refl, sym, ◌∙◌}
use native.Mathlib.Omega.{arith}
use Rattle.story.specs.Plain.{without_plain}
use Rattle.story.specs.File.{story_in}
use Rattle.context.proofs.Places.{flows-none, flows-first, flow-seen-ready, flows-after, flows-fewer, flows-ready-from, readable_flows}
use Rattle.context.proofs.Runs.{each_none, each-found, each-passed}
use Rattle.context.proofs.view.WholeView.validate_flows.Goals as goal

pub loop-v-init : goal.loop-v-init
unfolding without_plain story_in
loop-v-init c = record { ready = readable_flows c.args.self.now.numbers_kept; quiet = refl }

pub flow_view-requires : goal.flow_view-requires
flow_view-requires c = (c.loop-v.invariant.ready.ordered, c.loop-v.invariant.ready.within)

pub returns : goal.returns
returns c =
    let inv = c.loop-v.invariant in
    rw inv.quiet (each_none _ _ (flows-none _ _ _ _ inv.ready c.flow_view.ensures c.in_default.is))

pub declared_room-room-requires : goal.declared_room-room-requires
declared_room-room-requires c =
    let ready = flow-seen-ready _ _ _ _ c.loop-v.invariant.ready c.flow_view.ensures _ c.in-Some.is in
    omega (arith, ready.ordered, ready.joined, ready.stitches.ordered)

pub validate_whole_flow-requires : goal.validate_whole_flow-requires
validate_whole_flow-requires c = flow-seen-ready _ _ _ _ c.loop-v.invariant.ready c.flow_view.ensures _ c.in-Some.is

pub returns-in-Some-validate_whole_flow : goal.returns-in-Some-validate_whole_flow
returns-in-Some-validate_whole_flow c =
    let inv = c.loop-v.invariant in
    let first = flows-first _ _ _ _ inv.ready c.flow_view.ensures _ c.in-Some.is in
    rw inv.quiet (each-found _ _ first (sym c.in-Some-validate_whole_flow.is ∙ c.validate_whole_flow.ensures))

pub loop-v-smaller : goal.loop-v-smaller
loop-v-smaller c = flows-fewer _ _ _ _ c.loop-v.invariant.ready c.flow_view.ensures _ c.in-Some.is

pub loop-v-preserved : goal.loop-v-preserved
loop-v-preserved c =
    let inv = c.loop-v.invariant in
    let told = c.flow_view.ensures in
    let first = flows-first _ _ _ _ inv.ready told _ c.in-Some.is in
    record {
      ready = flows-ready-from c.items_from-rest.ensures (flows-after _ _ _ _ inv.ready told _ c.in-Some.is);
      quiet = inv.quiet ∙ each-passed _ _ first (sym c.in_default-validate_whole_flow.is ∙ c.validate_whole_flow.ensures);
    }
