-- `enumerator::visits::visit_entry` meets its contract: each output is written by itself. Assumes nothing.
use mathlib.Core.Path.{refl}
use mathlib.Core.List.Memᴰ
use Rattle.enumerator.specs.Laws.{visited-one}
use Rattle.enumerator.proofs.visits.visit_entry.Goals as goal

pub put_targets-left-requires : goal.put_targets-left-requires
put_targets-left-requires c =
    record { places_fit = c.requires.fit _ (Memᴰ.head refl); reachable = c.requires.reachable }

pub returns : goal.returns
returns c =
    visited-one c.store_entry-count.ensures c.put_targets-left.ensures c.ask_entry-found.ensures
