-- `targets::entries::put_all_ends` meets its contract. Assumes nothing.
use Rattle.targets.proofs.Filling.{entry-put, err-either}
use Rattle.targets.proofs.entries.put_all_ends.Goals as goal

pub returns : goal.returns
returns c =
    rw (c.and-2.ensures, err-either c.and.result c.put_from-own_put.result, c.and.ensures, err-either c.put_from-flow_put.result c.put_from-stitch_put.result)
    (entry-put c.args.file.now c.args.p c.requires.places_fit c.place_of-flow.ensures c.place_of-stitch.ensures c.place_of-own.ensures c.put_from-flow_put.ensures c.put_from-stitch_put.ensures c.put_from-own_put.ensures)
