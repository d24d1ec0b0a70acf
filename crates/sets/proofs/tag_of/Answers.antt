-- `sets::tag_of` meets its contract. Assumes nothing.
use native.Mathlib.Omega.{arith}
use Rattle.sets.specs.Sets.{number_of}
use Rattle.sets.proofs.Walking.{tag-of}
use Rattle.sets.proofs.tag_of.Goals as goal

pub returns : goal.returns
returns c = record { tag = λ w e. rw c.number.ensures.0 (tag-of (number_of c.args.class) w e); bound = omega (arith, c.number.ensures.1) }
