-- `targets::entries::place_of` meets its contract. Assumes nothing.
use Rattle.targets.proofs.Filling.{place-none, place-some}
use Rattle.targets.proofs.entries.place_of.Goals as goal

pub returns-then-at-eq-ABSENT : goal.returns-then-at-eq-ABSENT
returns-then-at-eq-ABSENT c = place-none c.if-at-eq-ABSENT.true

pub returns : goal.returns
returns c = place-some c.if-at-eq-ABSENT.false
