-- `targets::put_end` meets its contract, by where the walk over the slots of the end stops. Assumes nothing.
use Rattle.targets.proofs.Gaining.{found-gained, exhausted-gained, vacant-gained}
use Rattle.targets.proofs.put_end.Goals as goal

pub returns-in-Found : goal.returns-in-Found
returns-in-Found c =
    found-gained c.args.file.now c.args.set.now c.args.e c.requires.reachable c.seek_end-found.ensures c.in-Found.is

pub returns-in-Vacant : goal.returns-in-Vacant
returns-in-Vacant c =
    vacant-gained c.args.file.now c.args.set.now c.args.e c.requires.reachable c.seek_end-found.ensures c.in-Vacant.is c.slot.ensures

pub returns-in-Exhausted : goal.returns-in-Exhausted
returns-in-Exhausted c =
    exhausted-gained c.args.file.now c.args.set.now c.args.e c.requires.reachable c.seek_end-found.ensures c.in-Exhausted.is
