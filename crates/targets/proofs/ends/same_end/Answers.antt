-- `targets::ends::same_end` meets its contract. Assumes nothing.
use mathlib.Core.Path.{refl}
use mathlib.Core.List.{◌++◌}
use Rattle.targets.specs.Slots.{after}
use Rattle.targets.proofs.Comparing.{parts-short, parts-front, parts-other, end-parts}
use Rattle.targets.proofs.ends.same_end.Goals as goal

pub returns-then-word-front : goal.returns-then-word-front
returns-then-word-front c =
    let tail = after c.args.file.now c.args.e.second ++ after c.args.file.now c.args.e.third in
    rw (← end-parts c.args.file.now c.args.e c.name_at-name.ensures c.end_of-end.ensures)
    (parts-short c.args.word.now c.end_of-end.result.now tail refl c.if-word-front.true)

pub returns-then-same_tail : goal.returns-then-same_tail
returns-then-same_tail c =
    let tail = after c.args.file.now c.args.e.second ++ after c.args.file.now c.args.e.third in
    rw (← end-parts c.args.file.now c.args.e c.name_at-name.ensures c.end_of-end.ensures)
    (parts-front c.args.word.now c.end_of-end.result.now tail refl c.same_tail.ensures c.if-same_tail.true c.same_name.ensures)

pub returns : goal.returns
returns c =
    let tail = after c.args.file.now c.args.e.second ++ after c.args.file.now c.args.e.third in
    rw (← end-parts c.args.file.now c.args.e c.name_at-name.ensures c.end_of-end.ensures)
    (parts-other c.args.word.now c.end_of-end.result.now tail refl c.same_tail.ensures c.if-same_tail.false)
