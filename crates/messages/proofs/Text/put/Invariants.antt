-- `messages::Text::put` meets its contract. The loop's invariant: the first i bytes of the piece are copied. Assumes nothing.
use mathlib.Core.Path.{◌≡◌}
use Rattle.messages.proofs.Wrote.{Copied}
use Rattle.messages.proofs.Text.put.Given as goal

abbrev pub invariant-loop-i : goal.invariant-loop-i
invariant-loop-i l = (l.self.out.ghost_name ≡ l.initial.self.out.ghost_name) × Copied l.initial.self.out.now l.start l.piece l.i l.self.out.now
