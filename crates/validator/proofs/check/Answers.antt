-- `check`: what the trailer refuses is refused; else by the file's length. Assumes nothing.
use Rattle.std.proofs.lemmas.Result.{err_from_is_err_and}
use Rattle.story.proofs.Opening.{opened-refused}
use Rattle.validator.proofs.Promise.{unreadable}
use Rattle.validator.proofs.check.Goals as goal

pub returns-in_err-read_trailer : goal.returns-in_err-read_trailer
returns-in_err-read_trailer c =
    let p = err_from_is_err_and c.from_residual.result c.from_residual.ensures.1 in
    rw (p.1, p.2) (unreadable (opened-refused _ c.read_trailer.ensures c.in_err-read_trailer.was))
