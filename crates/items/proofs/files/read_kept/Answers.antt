-- `items::files::read_kept` meets its contract: what reading refuses is refused; else the first numbers in the buffer are those kept. Assumes nothing.
use Rattle.std.proofs.lemmas.Result.{err_from_is_err_and}
use native.Mathlib.Omega.{arith}
use Rattle.story.proofs.Reading.{read-refused}
use Rattle.items.proofs.Filled.{read_taken, read_kept}
use Rattle.items.proofs.Kept.{order, kept-rising}
use Rattle.items.proofs.files.read_kept.Goals as goal

pub returns-in_err-sections-clause-err : goal.returns-in_err-sections-clause-err
returns-in_err-sections-clause-err c =
    let p = err_from_is_err_and c.from_residual.result c.from_residual.ensures.1 in
    rw (p.1, p.2) (read-refused _ _ _ c.read.ensures c.in_err-sections.was)

pub slice_bounds-kept-end : goal.slice_bounds-kept-end
slice_bounds-kept-end c =
    omega (arith, read_taken c.read.ensures c.in_ok-sections.was c.requires)

pub invariant_of-source : goal.invariant_of-source
invariant_of-source c = record { in_order = order (read_kept c.read.ensures c.in_ok-sections.was c.requires) }

pub invariant_of-kept : goal.invariant_of-kept
invariant_of-kept c = record { rising = kept-rising (read_kept c.read.ensures c.in_ok-sections.was c.requires) }

pub invariant_of-result : goal.invariant_of-result
invariant_of-result c = record { numbers_kept = read_kept c.read.ensures c.in_ok-sections.was c.requires }
