-- `symbols::entries::put_names` meets its contract. The loop's invariant: what is left to be visited are the names that are left. Assumes nothing.
use Rattle.searches.specs.NameViews.{names_left}
use Rattle.searches.proofs.Names.{AllIn}
use Rattle.symbols.specs.Placed.{names_placed}
use Rattle.symbols.proofs.Visiting.{Visiting}
use Rattle.symbols.proofs.entries.put_names.Given as goal

abbrev pub invariant-loop-name : goal.invariant-loop-name
invariant-loop-name g l = record {
  inside : AllIn l.names.file.now (names_left l.name-iterator);
  left : Visiting g.V.Visit.visited l.initial.visitor (names_placed (names_left l.names)) l.visitor (names_placed (names_left l.name-iterator));
}
