-- `steps::looks::is_body_clear` meets its contract. Assumes nothing.
use Rattle.std.proofs.Common.{arith}
use Rattle.story.specs.Flows.{part}
use Rattle.steps.proofs.LookBody.{look-names, look-end, look-broken, look-next}
use Rattle.steps.proofs.looks.is_body_clear.Goals as goal

pub returns-then-not-is_item_clear : goal.returns-then-not-is_item_clear
unfolding part
returns-then-not-is_item_clear c = look-broken c.args.story.now.targets_ready.read c.requires c.loop-i.invariant c.at_item.ensures c.loop-i-test.true c.thing_of.ensures.value c.is_item_clear.ensures c.if-not-is_item_clear.true

pub invariant_of-items : goal.invariant_of-items
unfolding part
invariant_of-items c = record { names_stand = look-names c.args.story.now.targets_ready.read c.requires }

pub put_next-gathers-requires : goal.put_next-gathers-requires
unfolding part
put_next-gathers-requires c = record { in_bounds = c.loop-i-test.true; members = c.loop-i.invariant.gathers }

pub loop-i-preserved : goal.loop-i-preserved
unfolding part
loop-i-preserved c = look-next c.args.story.now.targets_ready.read c.requires c.loop-i.invariant c.at_item.ensures c.loop-i-test.true c.thing_of.ensures.value c.is_item_clear.ensures c.if-not-is_item_clear.false c.put_next-gathers.ensures

pub returns : goal.returns
unfolding part
returns c = look-end c.args.story.now.targets_ready.read c.requires c.loop-i.invariant (omega arith)
