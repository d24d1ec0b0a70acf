-- `sets::seek` meets its contract. Assumes nothing.
use mathlib.Core.List.{◌∷◌}
use Rattle.sets.specs.Sets.{number_of, name_slots}
use Rattle.sets.proofs.Walking.{home-of, walked-ended}
use Rattle.sets.proofs.seek.Goals as goal

pub walk-requires : goal.walk-requires
walk-requires c =
    λ at h. ((h, c.tag_of-tag.ensures.tag c.args.name.now c.requires.hash_value), c.requires.reachable)

pub returns : goal.returns
returns c =
    walked-ended (name_slots c.args.file.now) c.args.set.now (number_of c.args.class ∷ c.args.name.now) (home-of _ _ c.requires.hash_value c.home_of.ensures) c.requires.reachable
    c.walk.result c.walk.ensures
