-- `targets::ends::same_tail` meets its contract. Assumes nothing.
use Rattle.targets.specs.Slots.{after}
use Rattle.targets.proofs.Comparing.{parts-short, parts-front, parts-other}
use Rattle.targets.proofs.ends.same_tail.Goals as goal

pub returns-then-word-front : goal.returns-then-word-front
returns-then-word-front c =
    parts-short c.args.word.now (after c.args.file.now c.args.second) (after c.args.file.now c.args.third) c.length_after-front.ensures c.if-word-front.true

pub returns-then-same_after : goal.returns-then-same_after
returns-then-same_after c =
    parts-front c.args.word.now (after c.args.file.now c.args.second) (after c.args.file.now c.args.third) c.length_after-front.ensures c.same_after.ensures c.if-same_after.true c.same_after-then-same_after.ensures

pub returns : goal.returns
returns c =
    parts-other c.args.word.now (after c.args.file.now c.args.second) (after c.args.file.now c.args.third) c.length_after-front.ensures c.same_after.ensures c.if-same_after.false
