-- Five numbers, one behind the other.
use Rattle.builder.proofs.Putting.{puts_then}
use Rattle.builder.proofs.Builder.trailer.Goals as goal

pub returns : goal.returns
returns c =
    let two = puts_then _ _ _ _ _ c.number.ensures c.number-2.ensures in
    let three = puts_then _ _ _ _ _ two c.number-3.ensures in
    let four = puts_then _ _ _ _ _ three c.number-4.ensures in
    puts_then _ _ _ _ _ four c.number-5.ensures
