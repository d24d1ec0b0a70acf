-- `targets::seek` meets its contract. Assumes nothing.
use Rattle.sets.proofs.Walking.{home-of, walked-ended}
use Rattle.targets.specs.Slots.{end_slots}
use Rattle.targets.proofs.seek.Goals as goal

pub returns : goal.returns
returns c =
    walked-ended (end_slots c.args.file.now) c.args.set.now c.args.word.now (home-of _ _ c.requires.hash_value c.home_of.ensures) c.requires.reachable
    c.walk.result c.walk.ensures
