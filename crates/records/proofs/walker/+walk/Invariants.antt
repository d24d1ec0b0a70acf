-- The walk: the measure of each function, and what each loop keeps. Assumes nothing.
use Rattle.std.proofs.Common.{◌≤◌, length, ◌*◌, ◌+◌, ◌-◌, ◌≡◌}
use Rattle.records.specs.Grammar.{record_of, exact, repeat, branch, front, listed}
use Rattle.records.specs.Work.{st, over}
use Rattle.fields.specs.declared.Role.TheVariants.{Node}
use Rattle.records.proofs.Leaving.{Left}
use Rattle.records.proofs.walker.+walk.Given as goal

abbrev pub decreases-arms : goal.decreases-arms
decreases-arms l = 4 * length l.p.bytes.now + 1

abbrev pub decreases-assign : goal.decreases-assign
decreases-assign l = 4 * length l.p.bytes.now + 1

abbrev pub decreases-body : goal.decreases-body
decreases-body l = 4 * length l.p.bytes.now + 2

abbrev pub decreases-branch : goal.decreases-branch
decreases-branch l = 4 * length l.p.bytes.now + 1

abbrev pub decreases-branches : goal.decreases-branches
decreases-branches l = 4 * length l.p.bytes.now + 2

abbrev pub decreases-call : goal.decreases-call
decreases-call l = 4 * length l.p.bytes.now + 1

abbrev pub decreases-choice : goal.decreases-choice
decreases-choice l = 4 * length l.p.bytes.now + 1

abbrev pub decreases-choice_nodes : goal.decreases-choice_nodes
decreases-choice_nodes l = 4 * length l.p.bytes.now + 1

abbrev pub decreases-conditional : goal.decreases-conditional
decreases-conditional l = 4 * length l.p.bytes.now + 1

abbrev pub decreases-else_arm : goal.decreases-else_arm
decreases-else_arm l = 4 * length l.p.bytes.now + 1

abbrev pub decreases-exact : goal.decreases-exact
decreases-exact l = 4 * length l.p.bytes.now + 1

abbrev pub decreases-first : goal.decreases-first
decreases-first l = 4 * length l.p.bytes.now

abbrev pub decreases-front_list : goal.decreases-front_list
decreases-front_list l = 4 * length l.p.bytes.now

abbrev pub decreases-last : goal.decreases-last
decreases-last l = 4 * length l.p.bytes.now + 1

abbrev pub decreases-last_leaves : goal.decreases-last_leaves
decreases-last_leaves l = 4 * length l.p.bytes.now + 1

abbrev pub decreases-list : goal.decreases-list
decreases-list l = 4 * length l.p.bytes.now + 1

abbrev pub decreases-lists : goal.decreases-lists
decreases-lists l = 4 * length l.p.bytes.now + 1

abbrev pub decreases-options : goal.decreases-options
decreases-options l = 4 * length l.p.bytes.now + 1

abbrev pub decreases-record : goal.decreases-record
decreases-record l = 4 * (l.e - 5) + 3

abbrev pub decreases-set : goal.decreases-set
decreases-set l = 4 * length l.p.bytes.now + 1

abbrev pub decreases-switch : goal.decreases-switch
decreases-switch l = 4 * length l.p.bytes.now + 1

abbrev pub decreases-test : goal.decreases-test
decreases-test l = 4 * length l.p.bytes.now

abbrev pub invariant-branches-loop-t : goal.invariant-branches-loop-t
invariant-branches-loop-t l =
    ((length l.t.bytes.now ≤ length l.p.bytes.now) × (length l.out ≡ length l.initial.out))
    × (over l.p (st l.initial.out l.n) (repeat (branch (record_of l.left))) ≡ over l.t (st l.out l.count) (repeat (branch (record_of l.left))))

abbrev pub decreases-branches-loop-t : goal.decreases-branches-loop-t
decreases-branches-loop-t l = length l.t.bytes.now

abbrev pub invariant-exact-loop : goal.invariant-exact-loop
invariant-exact-loop l =
    ((length l.t.bytes.now ≤ length l.p.bytes.now) × (length l.out ≡ length l.initial.out))
    × (over l.p (st l.initial.out l.n) (exact l.many (record_of l.left l.role)) ≡ over l.t (st l.out l.count) (exact (l.many - l.counter) (record_of l.left l.role)))

abbrev pub invariant-last_leaves-loop-t : goal.invariant-last_leaves-loop-t
invariant-last_leaves-loop-t l =
    ((length l.t.bytes.now ≤ length l.p.bytes.now) × (length l.out ≡ length l.initial.out))
    × Left l.p.bytes.now l.leaves l.t.bytes.now
    × (over l.p (st l.initial.out l.n) (repeat (front (record_of l.left Node))) ≡ over l.t (st l.out l.count) (repeat (front (record_of l.left Node))))

abbrev pub decreases-last_leaves-loop-t : goal.decreases-last_leaves-loop-t
decreases-last_leaves-loop-t l = length l.t.bytes.now

abbrev pub invariant-list-loop-t : goal.invariant-list-loop-t
invariant-list-loop-t l =
    ((length l.t.bytes.now ≤ length l.p.bytes.now) × (length l.out ≡ length l.initial.out))
    × (over l.p (st l.initial.out l.n) (repeat (front (record_of l.left l.role))) ≡ over l.t (st l.out l.count) (repeat (front (record_of l.left l.role))))

abbrev pub decreases-list-loop-t : goal.decreases-list-loop-t
decreases-list-loop-t l = length l.t.bytes.now

abbrev pub invariant-lists-loop-t : goal.invariant-lists-loop-t
invariant-lists-loop-t l =
    ((length l.t.bytes.now ≤ length l.p.bytes.now) × (length l.out ≡ length l.initial.out))
    × (over l.p (st l.initial.out l.n) (repeat (listed (record_of l.left Node))) ≡ over l.t (st l.out l.count) (repeat (listed (record_of l.left Node))))

abbrev pub decreases-lists-loop-t : goal.decreases-lists-loop-t
decreases-lists-loop-t l = length l.t.bytes.now
