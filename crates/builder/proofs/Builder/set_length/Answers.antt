-- The number is set among the bytes that are put.
use Rattle.std.proofs.Common.{arith, ap, take, ◌∙◌}
use Rattle.builder.specs.Building.{number}
use Rattle.builder.proofs.Measuring.{measured}
use Rattle.builder.proofs.Builder.set_length.Goals as goal

pub returns-then-self-place-ge4 : goal.returns-then-self-place-ge4
unfolding number
returns-then-self-place-ge4 c = rw (← c.self.view_is) (measured _ _ _ _ _ (omega arith) (c.copy_from_slice.ensures.after ∙ ap (take 4) c.to_le_bytes.ensures) (omega arith) c.self.invariant)
