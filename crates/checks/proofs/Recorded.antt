-- A kept number is that of a record: no parameter, no stitch's name and no flow. Assumes nothing.
use mathlib.Core.Path.{◌≡◌}
use mathlib.Core.Bool.{◌||◌}
use mathlib.Core.List.{List}
use Prim.Native.Nat.{ℕ, ◌≤◌}
use Rattle.fields.specs.Bytes.{pick}
use Rattle.names.specs.Words.{same}
use Rattle.names.specs.Reserved.{END, DONE}
use Rattle.records.specs.declared.sorts.Sort.TheVariants.{Temp as temp, Divert as divert, Choice as choice}
use Rattle.records.specs.Items.{code, What, is}
use Rattle.records.specs.Numbers.{item_in}
use Rattle.story.proofs.Unpacked.{number-record}
use Rattle.items.proofs.Sorts.{item-sort}
use Rattle.rules.specs.declared.Rule.TheVariants.{FunctionWithChoice, FunctionWithDivert}
use Rattle.rules.specs.Rules.{Known, Here}
use Rattle.rules.specs.Steps.{bracket, s5, temps}
use Rattle.std.proofs.Common.{Some, None}
use Rattle.checks.specs.Judged.{judged_by, temp_judged}
use Rattle.checks.proofs.Cases.{targets_judged, calls_judged, temps_judged, choices_judged, variable_diverts_judged, variables_judged, gathers_judged, purity_judged}

-- so the rules on temps and on functions need no test for those
module _ (k : Known) (h : Here) (before : List What) (file : List ℕ) (item : ℕ) where
  recorded : code (item_in file item).what.kind ≤ 9
  recorded = rw (item-sort file item) (number-record item)

  pub temps_at : judged_by k h temps before (item_in file item).what
      ≡ pick (is temp (item_in file item).what) (temp_judged k h (item_in file item).what.name) None
  temps_at = temps_judged k h before (item_in file item).what recorded

  pub purity_at : judged_by k h (bracket s5) before (item_in file item).what
      ≡ pick (is choice (item_in file item).what) (Some FunctionWithChoice)
      (pick (is divert (item_in file item).what)
      (pick (same END (item_in file item).what.name || same DONE (item_in file item).what.name) None (Some FunctionWithDivert)) None)
  purity_at = purity_judged k h before (item_in file item).what recorded

-- what each pass judges of a record, by the tests of its sort
pub ruleset recorded_judged = (temps_at, targets_judged, calls_judged, choices_judged, variable_diverts_judged, variables_judged, gathers_judged, purity_at)
