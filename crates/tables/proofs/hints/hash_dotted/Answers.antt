-- `hash_dotted`: on over the name and a dot, or no further. Assumes nothing.
use borrow.Author.Tests.{ne_eqb}
use Rattle.tables.specs.Hints.{dotted_hash}
use Rattle.tables.proofs.hints.hash_dotted.Goals as goal

pub returns-then-at-eq-ABSENT : goal.returns-then-at-eq-ABSENT
unfolding dotted_hash
returns-then-at-eq-ABSENT c = rw c.if-at-eq-ABSENT.true

pub returns : goal.returns
unfolding dotted_hash
returns c =
    rw (ne_eqb _ _ c.if-at-eq-ABSENT.false, ← c.name_at.ensures, ← c.hash_on.ensures) c.hash_on-2.ensures
