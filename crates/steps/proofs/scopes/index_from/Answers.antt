-- `scopes::index_from` meets its contract: as many have a place before as were known, and those after them. Assumes nothing.
use native.Mathlib.Omega.{arith}
use Rattle.items.proofs.RisingPlaces.{number_fits, number-on, rest-rising}
use Rattle.steps.proofs.scopes.index_from.Goals as goal

pub offset_bounds-kept-start : goal.offset_bounds-kept-start
offset_bounds-kept-start c = omega (arith, c.requires, number_fits c.args.place c.args.kept.numbers.now)

pub slice_bounds-rest-count : goal.slice_bounds-rest-count
slice_bounds-rest-count c = omega (arith, c.requires, number_fits c.args.place c.args.kept.numbers.now)

pub slice_bounds-rest-start : goal.slice_bounds-rest-start
slice_bounds-rest-start c = omega (arith, c.requires, number_fits c.args.place c.args.kept.numbers.now)

pub invariant_of-rest : goal.invariant_of-rest
invariant_of-rest c = record { rising = rest-rising c.args.start c.args.kept.numbers.now c.args.kept.rising }

pub returns : goal.returns
returns c =
    let on = number-on c.args.place c.args.start c.args.kept.numbers.now c.args.kept.rising c.requires c.count_before.ensures.0 in
    (on, omega (arith, on, number_fits c.args.place c.args.kept.numbers.now))
