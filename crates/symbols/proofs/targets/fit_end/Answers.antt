-- `symbols::targets::fit_end` meets its contract, by its two tests. Assumes nothing.
use Rattle.symbols.proofs.targets.fit_end.Goals as goal

pub returns-then-same_name : goal.returns-then-same_name
returns-then-same_name c = rw (← c.same_name.ensures, c.if-same_name.true)

pub returns-then-is_some : goal.returns-then-is_some
returns-then-is_some c =
    rw (← c.same_name.ensures, c.if-same_name.false, ← c.before_dotted.ensures.ends, ← c.is_some.ensures, c.if-is_some.true)

pub returns : goal.returns
returns c =
    rw (← c.same_name.ensures, c.if-same_name.false, ← c.before_dotted.ensures.ends, ← c.is_some.ensures, c.if-is_some.false)
