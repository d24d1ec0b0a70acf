-- `items::runs::KeptNumbers::count_before` meets its contract. The invariant: the count is from low to high. Assumes nothing.
use native.Mathlib.Omega.{arith}
use Rattle.items.proofs.RisingPlaces.{number_fits, reach-beyond, reach-upto}
use Rattle.items.proofs.runs.KeptNumbers.count_before.Goals as goal

pub loop-low-init : goal.loop-low-init
loop-low-init c = (omega arith, number_fits _ _, omega arith)

pub loop-low-preserved-then-place_in-place : goal.loop-low-preserved-then-place_in-place
loop-low-preserved-then-place_in-place c =
    let probe = c.probe-slot in
    let beyond = reach-beyond c.args.place c.args.self.numbers.now probe.result c.args.self.rising (omega (arith, probe.ensures)) c.place_in.ensures.0 c.if-place_in-place.true in
    (omega arith, omega arith, omega arith)

pub loop-low-preserved : goal.loop-low-preserved
loop-low-preserved c =
    let probe = c.probe-slot in
    let upto = reach-upto c.args.place c.args.self.numbers.now probe.result c.args.self.rising (omega (arith, probe.ensures)) c.place_in.ensures.0 c.if-place_in-place.false in
    (omega arith, omega arith, omega arith)

pub returns : goal.returns
returns c = (omega arith, omega arith)
