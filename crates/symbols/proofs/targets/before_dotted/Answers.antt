-- `symbols::targets::before_dotted` meets its contract, by the lengths, the byte before the ending, and the comparison. Assumes nothing.
use mathlib.Core.Path.{sym}
use mathlib.Core.List.{◌∷◌}
use native.Mathlib.Omega.{arith}
use Rattle.names.proofs.Words.{ends-short}
use Rattle.symbols.proofs.Fits.{dot-other, dot-there, before}
use Rattle.symbols.proofs.targets.before_dotted.Goals as goal
use Rattle.symbols.proofs.targets.before_dotted.Goals.{else-word-dot-eq46-via-then-word-dot-eq46+else-same_name, else-word-dot-eq46-via-else-word-dot-eq46}

pub returns-then-word-end-clause-ends : goal.returns-then-word-end-clause-ends
returns-then-word-end-clause-ends c = sym (ends-short (46 ∷ c.args.end.now) c.args.word.now (omega arith))

pub returns-then-same_name-clause-ends : goal.returns-then-same_name-clause-ends
returns-then-same_name-clause-ends c =
    dot-there c.args.word.now c.args.end.now (omega arith) c.if-word-dot-eq46.true (rw (← c.if-same_name.true) c.same_name.ensures)

pub returns-then-same_name-clause-before : goal.returns-then-same_name-clause-before
returns-then-same_name-clause-before c =
    let there = dot-there c.args.word.now c.args.end.now (omega arith) c.if-word-dot-eq46.true c.same_name.ensures in
    before c.args.word.now c.args.end.now (rw (← there, c.if-same_name.true) tt)

pub returns-clause-ends : goal.returns-clause-ends
returns-clause-ends c =
    elim c.else-word-dot-eq46.branch [
      | else-word-dot-eq46-via-then-word-dot-eq46+else-same_name w ↦
          rw (← w.if-same_name.false) (dot-there c.args.word.now c.args.end.now (omega arith) w.if-word-dot-eq46.true w.same_name.ensures)
      | else-word-dot-eq46-via-else-word-dot-eq46 w ↦ dot-other c.args.word.now c.args.end.now (omega arith) w.if-word-dot-eq46.false
    ]
