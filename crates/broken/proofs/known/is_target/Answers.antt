-- `broken::known::is_target` meets its contract. Assumes nothing.
use Rattle.items.proofs.Kept.{order, kept-rising}
use Rattle.broken.proofs.Answered.{target-reserved, target-asked, target-held, target-lacking}
use Rattle.broken.proofs.known.is_target.Goals as goal

pub returns-then-is_reserved : goal.returns-then-is_reserved
returns-then-is_reserved c = target-reserved _ _ _ c.is_reserved.ensures c.if-is_reserved.true

pub returns-then-has : goal.returns-then-has
returns-then-has c = target-asked _ _ _ c.is_reserved.ensures c.if-is_reserved.false (target-held c.requires _ c.has.ensures c.if-has.true)

pub invariant_of-source : goal.invariant_of-source
invariant_of-source c = record { in_order = order c.requires.read }

pub invariant_of-kept : goal.invariant_of-kept
invariant_of-kept c = record { rising = kept-rising c.requires.read }

pub returns-then-v : goal.returns-then-v
returns-then-v c = target-asked _ _ _ c.is_reserved.ensures c.if-is_reserved.false c.has_target.ensures

pub returns : goal.returns
returns c = target-asked _ _ _ c.is_reserved.ensures c.if-is_reserved.false (target-lacking c.requires _ c.has.ensures c.if-has.false c.if-v.false)
