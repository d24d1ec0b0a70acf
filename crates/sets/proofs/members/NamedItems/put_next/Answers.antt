-- `sets::members::NamedItems::put_next` meets its contract. Assumes nothing.
use mathlib.Core.Path.{refl, sym, ◌∙◌, ap}
use native.Mathlib.Omega.{arith}
use lib.ListN.{get_or}
use Rattle.std.specs.Prelude.{is_err}
use Rattle.sets.proofs.Passing.{at_in, members-stay, members-other, members-full, members-put}
use Rattle.sets.proofs.members.NamedItems.put_next.Goals as goal

pub returns-then-rest-i : goal.returns-then-rest-i
returns-then-rest-i c = members-stay c.requires.members c.requires.in_bounds

pub put-requires : goal.put-requires
put-requires c =
    let file = c.args.self.file.now in
    let item = get_or c.args.self.items.now c.args.i 0 in
    let stands = c.args.self.names_stand.named item (at_in c.args.self.items.now c.args.i c.requires.in_bounds) c.args.sought (sym (c.is_of_sort.ensures file) ∙ c.if-not-is_of_sort.false) in
    record { place_bound = omega (arith, stands.0, c.named_at.ensures.0 file); reachable = c.requires.members.reachable }

pub returns-in-Err : goal.returns-in-Err
returns-in-Err c =
    members-full c.requires.members c.requires.in_bounds c.put.ensures refl (omega arith) (ap is_err c.in-Err.is)

pub returns-in-Ok : goal.returns-in-Ok
returns-in-Ok c =
    members-put c.requires.members c.requires.in_bounds c.put.ensures refl (omega arith) (ap is_err c.in-Ok.is) c.args.self.names_stand refl
    (c.named_at.ensures.0 c.args.self.file.now) (sym (c.is_of_sort.ensures c.args.self.file.now) ∙ c.if-not-is_of_sort.false)

pub returns-then-not-is_of_sort : goal.returns-then-not-is_of_sort
returns-then-not-is_of_sort c =
    members-other c.requires.members c.requires.in_bounds (omega arith) (c.is_of_sort.ensures c.args.self.file.now) c.if-not-is_of_sort.true
