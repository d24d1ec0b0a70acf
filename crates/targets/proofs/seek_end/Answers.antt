-- `targets::seek_end` meets its contract. Assumes nothing.
use Rattle.sets.proofs.Walking.{home-of}
use Rattle.targets.specs.Slots.{end_word, end_slots}
use Rattle.targets.proofs.Gaining.{walked-probed}
use Rattle.targets.proofs.seek_end.Goals as goal

pub returns : goal.returns
returns c =
    walked-probed (end_slots c.args.file.now) c.args.set.now (end_word c.args.file.now c.args.e) (home-of _ _ c.requires c.home_of.ensures) c.walk.result c.walk.ensures
