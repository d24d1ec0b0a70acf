-- `tables::hints::find_in_slots` meets its contract. Assumes nothing.
use Rattle.std.proofs.Common.{rules, ◌≡◌, ℕ, Bool}
use mathlib.Core.Path.{refl}
use Rattle.sets.specs.declared.Sought.TheVariants as sought
use Rattle.symbols.specs.Rows.{spellings_of}
use Rattle.tables.specs.Hints.{Answered}
use Rattle.tables.proofs.Ending.{ends-met}
use Rattle.tables.proofs.hints.find_in_slots.Goals as goal

pub returns : goal.returns
returns c = record {
  some = λ q.
      let met : c.seek-found.result ≡ sought.Found = search (rules, q) in
      (ends-met (λ (n : ℕ) (b : Bool). Answered c.args.target.now (spellings_of c.args.index.now) b) c.args.table.now 8 _ (rw met at c.seek-found.ensures.ends)).1.some refl;
}
