-- `sets::put` meets its contract, by where the walk over the slots of the name ends. Assumes nothing.
use Rattle.sets.proofs.Putting.{found-known, exhausted-full, vacant-added}
use Rattle.sets.proofs.Walking.{number-bound}
use Rattle.sets.specs.Sets.{number_of}
use Rattle.sets.proofs.put.Goals as goal

pub returns-in-Found : goal.returns-in-Found
returns-in-Found c =
    found-known c.args.file.now c.args.set.now c.args.place (number_of c.args.class) c.name_at-name.result.now c.name_at-name.ensures c.requires.reachable c.seek-found.ensures c.in-Found.is

pub returns-in-Vacant : goal.returns-in-Vacant
returns-in-Vacant c =
    vacant-added c.args.file.now c.args.set.now c.args.place (number_of c.args.class) c.name_at-name.result.now c.name_at-name.ensures c.requires.reachable c.seek-found.ensures c.in-Vacant.is c.requires.place_bound (number-bound c.args.class) (c.tag_of.ensures.tag c.name_at-name.result.now c.hash_in-hash.ensures)

pub returns-in-Exhausted : goal.returns-in-Exhausted
returns-in-Exhausted c =
    exhausted-full c.args.file.now c.args.set.now c.args.place (number_of c.args.class) c.name_at-name.result.now c.name_at-name.ensures c.requires.reachable c.seek-found.ensures _ c.in-Exhausted.is
