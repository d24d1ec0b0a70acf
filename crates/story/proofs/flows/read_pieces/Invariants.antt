-- `read_pieces`: what is left, by a loop over it. Assumes nothing.
use Rattle.std.proofs.Common.{◌≡◌, ◌≤◌, length}
use Rattle.records.specs.Grammar.{repeat, piece}
use Rattle.records.specs.Work.{st, over}
use Rattle.story.proofs.flows.read_pieces.Given as goal

abbrev pub invariant-loop-t : goal.invariant-loop-t
invariant-loop-t g l =
    ((length l.t.bytes.now ≤ length l.p.bytes.now) × (length l.out ≡ length l.initial.out))
    × (over l.p (st l.initial.out l.n) (repeat (piece g.P.Piece.reading)) ≡ over l.t (st l.out l.count) (repeat (piece g.P.Piece.reading)))

abbrev pub decreases-loop-t : goal.decreases-loop-t
decreases-loop-t g l = length l.t.bytes.now
