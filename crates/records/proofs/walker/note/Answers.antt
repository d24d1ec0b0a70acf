-- `note`: the record is plain, or kept in its slot, or there is none for it. Assumes nothing.
use Rattle.std.proofs.Common.{◌≡◌, ℕ, Bool, ◌<◌, ◌≤◌, arith, refl}
use denote.Enum.Declared.{tag_of}
use Rattle.records.specs.contracts.sorts.Sort.{the_type}
use Rattle.records.specs.declared.sorts.Sort.{Sort as Kind}
use Rattle.records.specs.Numbers.{bit}
use Rattle.records.proofs.Codes.{tag_code, tag_found, tag_plain, tag_other}
use Rattle.records.proofs.Marks.{code-small, bit-small, plain-noted, note-kept, note-full}
use Rattle.records.proofs.walker.note.Goals as goal

-- a sort, and the bits of a branch and of a label, are small
small : (s : Kind) (x y : Bool) {branch label : ℕ} → branch ≡ bit x → label ≡ bit y → (tag_of the_type s < 16) × (branch ≤ 1) × (label ≤ 1)
small s x y p q = omega (arith, code-small s, tag_code s, p, bit-small x, q, bit-small y)

pub returns-then-eq : goal.returns-then-eq
returns-then-eq c = plain-noted c.args.out.now c.args.n c.args.role c.args.kind c.args.place c.args.payload.now (tag_found c.sort_of-sort.ensures) (tag_plain _ c.eq.ensures c.if-eq.true) refl

pub overflow_mul-out : goal.overflow_mul-out
overflow_mul-out c = omega (arith, small c.sort_of-sort.result _ _ c.branch_bit-branch.ensures c.label_bit-label.ensures)

pub overflow_add-out : goal.overflow_add-out
overflow_add-out c = omega (arith, small c.sort_of-sort.result _ _ c.branch_bit-branch.ensures c.label_bit-label.ensures)

pub overflow_mul-out-then-slot-out : goal.overflow_mul-out-then-slot-out
overflow_mul-out-then-slot-out c = omega (arith, small c.sort_of-sort.result _ _ c.branch_bit-branch.ensures c.label_bit-label.ensures)

pub overflow_add-out-then-slot-out : goal.overflow_add-out-then-slot-out
overflow_add-out-then-slot-out c = omega (arith, small c.sort_of-sort.result _ _ c.branch_bit-branch.ensures c.label_bit-label.ensures)

pub overflow_mul-out-then-slot-out-2 : goal.overflow_mul-out-then-slot-out-2
overflow_mul-out-then-slot-out-2 c = omega (arith, small c.sort_of-sort.result _ _ c.branch_bit-branch.ensures c.label_bit-label.ensures)

pub overflow_add-out-then-slot-out-2 : goal.overflow_add-out-then-slot-out-2
overflow_add-out-then-slot-out-2 c = omega (arith, small c.sort_of-sort.result _ _ c.branch_bit-branch.ensures c.label_bit-label.ensures, c.requires)

pub returns-then-slot-out : goal.returns-then-slot-out
returns-then-slot-out c = note-kept c.args.out.now c.args.n c.args.role c.args.kind c.args.place c.args.payload.now (tag_found c.sort_of-sort.ensures) (tag_other _ c.eq.ensures c.if-eq.false) refl c.branch_bit-branch.ensures (rw (← c.sort_of-sort.ensures) c.label_bit-label.ensures) c.requires c.if-slot-out.true

pub returns : goal.returns
returns c = note-full c.args.out.now c.args.n c.args.role c.args.kind c.args.place c.args.payload.now (tag_found c.sort_of-sort.ensures) (tag_other _ c.eq.ensures c.if-eq.false) refl c.if-slot-out.false
