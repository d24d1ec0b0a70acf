-- `check_readable`: refusals 7 and 8 by the lengths of the buffers; then the story. Assumes nothing.
use native.Mathlib.Omega.{arith}
use Rattle.validator.proofs.Reports.{trailer-at, short-index, short-message, long-enough}
use borrow.Author.Rules.{rules}
use Rattle.validator.proofs.check_readable.Goals as goal

pub overflow_mul-story : goal.overflow_mul-story
overflow_mul-story c =
    omega (arith, (trailer-at _ c.args.story.now.numbers_kept.read).1)

pub returns-then-index-story : goal.returns-then-index-story
returns-then-index-story c =
    short-index _ c.args.story.now.numbers_kept.read _ _ (search rules)

pub returns-then-message-lt640 : goal.returns-then-message-lt640
returns-then-message-lt640 c =
    short-message _ c.args.story.now.numbers_kept.read _ _ (search rules) (search rules)

pub returns : goal.returns
returns c =
    long-enough _ c.args.story.now.numbers_kept.read _ _ (search rules) (search rules) c.check_story.ensures
