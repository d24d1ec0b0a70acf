-- `steps::context::validate_flows` meets its contract. The loop's invariant: what is to be heard is what the flows that are left find. Assumes nothing.
use mathlib.Core.Path.{sym, ◌∙◌}
use Rattle.steps.proofs.Runs.{through-end, through-full}
use Rattle.steps.proofs.Seen.{flows-none, flows-fewer}
use Rattle.steps.proofs.Knots.{flowing-start, flowing-ready, flowing-ordered, flowing-onward, flowing-next}
use Rattle.steps.proofs.context.validate_flows.Goals as goal

pub loop-flow-init : goal.loop-flow-init
loop-flow-init c = flowing-start c.requires c.args.story.now.targets_ready.read _

pub returns : goal.returns
returns c = through-end c.loop-flow.invariant.through (flows-none _ _ _ _ c.loop-flow.invariant.readable c.flow_view.ensures c.in_default.is)

pub returns-then-is_full : goal.returns-then-is_full
returns-then-is_full c = through-full c.loop-flow.invariant.through (sym c.is_full.ensures ∙ c.if-is_full.true)

pub overflow_sub-flow : goal.overflow_sub-flow
overflow_sub-flow c = flowing-ordered c.requires c.loop-flow.invariant c.flow_view.ensures _ c.in-Some.is

pub validate_flow-tally-requires : goal.validate_flow-tally-requires
validate_flow-tally-requires c = flowing-ready c.requires c.loop-flow.invariant c.flow_view.ensures _ c.in-Some.is

pub index_from-start-requires : goal.index_from-start-requires
index_from-start-requires c = flowing-onward c.requires c.loop-flow.invariant c.flow_view.ensures _ c.in-Some.is

pub loop-flow-smaller : goal.loop-flow-smaller
loop-flow-smaller c = flows-fewer _ _ _ _ c.loop-flow.invariant.readable c.flow_view.ensures _ c.in-Some.is

pub loop-flow-preserved : goal.loop-flow-preserved
loop-flow-preserved c = flowing-next c.requires c.loop-flow.invariant c.flow_view.ensures _ c.in-Some.is c.validate_flow-tally.ensures c.index_from-start.ensures.0
