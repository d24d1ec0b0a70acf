-- `steps::nodes::validate_nodes` meets its contract. Assumes nothing.
use Rattle.std.proofs.Common.{arith}
use Rattle.story.specs.Flows.{part}
use Rattle.items.proofs.Standing.{kept-names-stand, stand-part}
use Rattle.steps.proofs.Turning.{turning-next, turning-end, turning-full}
use Rattle.steps.proofs.nodes.validate_nodes.Goals as goal

pub returns-then-is_full : goal.returns-then-is_full
returns-then-is_full c = record { list_after = λ s h. turning-full c.loop-i.invariant s h c.is_full.ensures c.if-is_full.true; body_unchanged = λ l. c.loop-i.invariant.stays l }

pub invariant_of-items : goal.invariant_of-items
unfolding part
invariant_of-items c = record { names_stand = stand-part (kept-names-stand c.args.story.now.targets_ready.read) c.args.turn.site.scope.first c.args.turn.site.scope.last }

pub pass_gather-gathers-requires : goal.pass_gather-gathers-requires
unfolding part
pass_gather-gathers-requires c = record { i_in_bounds = c.loop-i-test.true; members = c.loop-i.invariant.set.gathers }

pub loop-i-preserved : goal.loop-i-preserved
unfolding part
loop-i-preserved c =
    turning-next c.loop-i.invariant c.args.story.now.targets_ready.read c.loop-i-test.true c.rules-rules.ensures
    (rw c.visit_of-v.ensures at c.visit_thing-tally.ensures) c.pass_gather-gathers.ensures.members_put c.pass_gather-gathers.ensures.body_unchanged

pub returns : goal.returns
unfolding part
returns c = record { list_after = λ s h. turning-end c.loop-i.invariant s h (omega arith) c.next_run.ensures; body_unchanged = λ l. c.loop-i.invariant.stays l }
