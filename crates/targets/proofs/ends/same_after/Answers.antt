-- `targets::ends::same_after` meets its contract. Assumes nothing.
use Rattle.targets.proofs.Comparing.{same_none, same-empty, same-other, same-dot}
use Rattle.targets.proofs.ends.same_after.Goals as goal

pub returns-in_default : goal.returns-in_default
returns-in_default c = same_none c.args.file.now c.in_default.is c.args.word.now

pub returns-then-word-eq0 : goal.returns-then-word-eq0
returns-then-word-eq0 c = same-empty c.args.file.now c.in-Some.is c.args.word.now c.if-word-eq0.true

pub returns-then-word-ne46 : goal.returns-then-word-ne46
returns-then-word-ne46 c = same-other c.args.file.now c.in-Some.is c.args.word.now c.if-word-eq0.false c.if-word-ne46.true

pub returns : goal.returns
returns c =
    same-dot c.args.file.now c.in-Some.is c.args.word.now c.if-word-eq0.false c.if-word-ne46.false c.same_at.ensures
