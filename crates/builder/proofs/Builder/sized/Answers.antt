-- The four bytes, what the closure puts, and the four bytes again.
use Rattle.std.proofs.Common.{rules}
use Rattle.builder.proofs.Builder.sized.Goals as goal

pub returns : goal.returns
returns g c = (c.number.new.self, c.put.new.arg2, c.number.ensures, search rules, rw c.end-place.ensures at c.set_length.ensures)
