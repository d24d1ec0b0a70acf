-- `symbols::targets::EntryIndex::find` meets its contract. The loop's invariant: the entries from number k on decide. Assumes nothing.
use Rattle.symbols.proofs.Searched.{Left}
use Rattle.symbols.proofs.targets.EntryIndex.find.Given as goal

abbrev pub invariant-loop-k : goal.invariant-loop-k
invariant-loop-k l = Left l.self.file.now l.self.numbers.now l.target l.self.count l.k l.exact l.ending
