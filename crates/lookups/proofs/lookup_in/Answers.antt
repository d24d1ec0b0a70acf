-- `lookups::lookup_in` meets its contract: refused, refused for the index, or looked up in the index just written. Assumes nothing.
use Rattle.std.proofs.lemmas.Result.{err_from_is_err_and}
use native.Mathlib.Omega.{arith}
use Rattle.lookups.proofs.Answers.{looked-refused, looked-short, looked-up}
use Rattle.lookups.proofs.lookup_in.Goals as goal

pub returns-in_err-story : goal.returns-in_err-story
returns-in_err-story c =
    let p = err_from_is_err_and c.from_residual.result c.from_residual.ensures.1 in
    rw (p.1, p.2) (looked-refused c.args.file.now c.args.index.now c.args.target.now c.in_err-story.ensures.err)

pub returns-then-index-story : goal.returns-then-index-story
returns-then-index-story c =
    let story = c.in_ok-story.story in
    looked-short c.args.file.now c.args.index.now c.args.target.now story.source.sections (rw c.in_ok-story.ensures.ok at story.numbers_kept.read) c.if-index-story.true

pub returns : goal.returns
returns c =
    let story = c.in_ok-story.story in
    looked-up c.args.file.now c.args.index.now c.args.target.now story.source.sections (rw c.in_ok-story.ensures.ok at story.numbers_kept.read) (omega (arith, c.if-index-story.false))
    (rw c.in_ok-story.ensures.ok at c.write_index-count.ensures)
    (rw c.in_ok-story.ensures.ok at c.lookup_target-target.ensures)
