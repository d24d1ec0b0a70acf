-- `check_in`: what reading refuses is refused; else what is as reported keeps the promise. Assumes nothing.
use Rattle.std.proofs.lemmas.Result.{err_from_is_err_and}
use Rattle.validator.proofs.Promise.{unreadable, opens}
use Rattle.validator.proofs.check_in.Goals as goal

pub returns-in_err-story : goal.returns-in_err-story
returns-in_err-story c =
    let p = err_from_is_err_and c.from_residual.result c.from_residual.ensures.1 in
    rw (p.1, p.2) (unreadable c.in_err-story.ensures.err)

pub returns : goal.returns
returns c =
    let story = c.in_ok-story.story in
    let told = c.in_ok-story.ensures.ok in
    opens (rw told at story.numbers_kept.read) (rw told at c.check_readable.ensures)
