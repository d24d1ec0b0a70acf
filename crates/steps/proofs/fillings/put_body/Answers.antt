-- `fillings::put_body` meets its contract: temps that are not put are all left. Assumes nothing.
use Rattle.sets.proofs.Holding.{empty-without}
use Rattle.steps.proofs.Filled.{body-put, body-left}
use Rattle.steps.proofs.fillings.put_body.Goals as goal

pub put_items-own-requires : goal.put_items-own-requires
put_items-own-requires c = empty-without _ 1 c.clear.ensures

pub returns-then-inner : goal.returns-then-inner
returns-then-inner c =
    let e = c.between-items.ensures in
    body-put c.args.kept.file.now c.args.kept.items.now c.args.s c.clear.ensures (rw (e.file, e.items) at c.put_items-own.ensures)

pub returns : goal.returns
returns c = body-left c.args.kept.file.now c.args.kept.items.now c.args.s c.clear.ensures
