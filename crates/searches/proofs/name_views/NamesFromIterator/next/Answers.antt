-- The next name, and those after it. Assumes nothing.
use Rattle.std.proofs.Common.{drop, ap, length, arith, rules}
use lib.ListN.{length-drop}
use Rattle.story.proofs.Unfolding.{names-n-zero, names-n-none}
use Rattle.searches.proofs.Names.{names-first}
use Rattle.searches.proofs.name_views.NamesFromIterator.next.Goals as goal
use Rattle.searches.proofs.name_views.NamesFromIterator.next.Goals.{then-self-eq0-via-then-self-eq0, then-self-eq0-via-else-self-eq0+then-self-at}

pub returns-then-self-eq0-clause-steps : goal.returns-then-self-eq0-clause-steps
returns-then-self-eq0-clause-steps c =
    let s = c.args.self.now in
    elim c.then-self-eq0.branch [
      | then-self-eq0-via-then-self-eq0 w ↦ let none = names-n-zero s.many s.at (drop s.at s.file.now) (omega (arith, w.if-self-eq0.true)) in (none, none)
      | then-self-eq0-via-else-self-eq0+then-self-at w ↦
          let none = names-n-none s.many s.at (drop s.at s.file.now) (omega (arith, w.if-self-at.true, length-drop s.at s.file.now)) in (none, none)
    ]

pub returns-clause-steps : goal.returns-clause-steps
returns-clause-steps c = rw c.name_at-bytes.ensures (names-first c.args.self.now.file.now c.args.self.now.many c.args.self.now.at (omega (arith, c.if-self-eq0.false)) (omega (arith, c.if-self-at.false)))

pub returns-clause-goes : goal.returns-clause-goes
returns-clause-goes c =
    let shorter = ap length (names-first c.args.self.now.file.now c.args.self.now.many c.args.self.now.at (omega (arith, c.if-self-eq0.false)) (omega (arith, c.if-self-at.false))) in
    search rules
