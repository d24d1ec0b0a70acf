-- `item_name`: the name begins in the payload where the sort says, unless there is none. Assumes nothing.
use Rattle.items.proofs.Sorts.{item-nameless, item-named-there}
use Rattle.items.proofs.items.item_name.Goals as goal

pub returns-then-is_nameless : goal.returns-then-is_nameless
returns-then-is_nameless c =
    let file = c.args.file.now in
    item-nameless file c.args.item (rw (← c.place_in.ensures.0) c.payload_at-payload.ensures)
    (rw (c.sort_in-sort.ensures file) at c.is_nameless.ensures) c.if-is_nameless.true

pub returns : goal.returns
returns c =
    let file = c.args.file.now in
    let sort-in = c.sort_in-sort in
    let is-nameless = c.is_nameless in
    item-named-there file c.args.item (rw (← c.place_in.ensures.0) c.payload_at-payload.ensures)
    (rw (sort-in.ensures file) at is-nameless.ensures) c.if-is_nameless.false (rw (sort-in.ensures file) at c.name_start.ensures) c.name_at.ensures
