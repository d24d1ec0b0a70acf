-- `sets::known::put_known` meets its contract, class after class. Assumes nothing.
use native.Mathlib.Omega.{arith}
use Rattle.sets.specs.Sets.{name_slots}
use Rattle.sets.proofs.Holding.{empty-without}
use Rattle.sets.proofs.Classes.{without-externals, without-class, names_in}
use Rattle.sets.proofs.known.put_known.Goals as goal

pub put_names-globals-requires : goal.put_names-globals-requires
put_names-globals-requires c = record { from_le_to = (omega (arith, c.args.source.now.in_order), omega (arith, c.args.source.now.in_order), omega (arith, c.args.source.now.in_order)); without = empty-without (name_slots c.args.source.now.file.now) 0 c.clear.ensures }

pub put_names-externals-requires : goal.put_names-externals-requires
put_names-externals-requires c = record { from_le_to = (omega (arith, c.args.source.now.in_order), omega (arith, c.args.source.now.in_order), omega (arith, c.args.source.now.in_order)); without = without-externals c.args.source.now.sections c.clear.ensures c.put_names-globals.ensures }

pub put_flows-flows-requires : goal.put_flows-flows-requires
put_flows-flows-requires c = record { without = without-class c.args.source.now.sections c.clear.ensures c.put_names-globals.ensures c.put_names-externals.ensures 2 (λ z. omega arith) (λ z. omega arith); without_2 = without-class c.args.source.now.sections c.clear.ensures c.put_names-globals.ensures c.put_names-externals.ensures 3 (λ z. omega arith) (λ z. omega arith) }

pub returns : goal.returns
returns c = names_in c.args.source.now.sections c.clear.ensures c.put_names-globals.ensures c.put_names-externals.ensures c.put_flows-flows.ensures
