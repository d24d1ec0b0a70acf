-- The names of a breach are those that its rule states, and no others: `names-are`, `names-only`. Assumes nothing.
use mathlib.Core.Path.{◌≡◌, refl}
use mathlib.Core.Logic.{◌⊎◌, inl, inr, ⊎_elim}
use Prim.Native.Nat.{ℕ, ◌<◌}
use native.Mathlib.Omega.{arith}
use lib.Dec.{lit<}
use Rattle.symbols.specs.Numbers.{absent}
use Rattle.rules.specs.declared.Rule.{Rule}
use Rattle.rules.specs.declared.Rule.TheVariants.{FunctionDivertedTo, TargetNotFound, FlowCalled, NameIsFunction, NameIsGlobal, TempIsParameter, TempIsLabel, ParameterUnmarked, ParameterAlreadyMarked, GatherRepeated, ChoiceUndiverted, FunctionWithStitches, FunctionWithChoice, FunctionWithDivert, VariableForbidden}
use Rattle.rules.specs.Rules.{number}
use Rattle.rules.specs.Steps.{names_of}
use Rattle.rules.specs.Meaning.{NamesAre}

module _ {rule function own : ℕ} where
  both-names : rule ≡ 14 → NamesAre rule function own (function, own)
  both-names e = record {
    both = λ _. refl;
    neither = λ i. absurd (omega arith);
    the_function = λ i. absurd (omega arith);
    the_own = ⊎_elim (λ i. absurd (omega arith)) (λ i. absurd (omega arith));
  }

  no_names : rule ≡ 11 → NamesAre rule function own (absent, absent)
  no_names e = record {
    both = λ i. absurd (omega arith);
    neither = λ _. refl;
    the_function = λ i. absurd (omega arith);
    the_own = ⊎_elim (λ i. absurd (omega arith)) (λ i. absurd (omega arith));
  }

  function-name : 11 < rule → rule < 14 → NamesAre rule function own (function, absent)
  function-name g l = record {
    both = λ i. absurd (omega arith);
    neither = λ i. absurd (omega arith);
    the_function = λ _. refl;
    the_own = ⊎_elim (λ i. absurd (omega arith)) (λ i. absurd (omega arith));
  }

  own_name : (rule < 11) ⊎ (rule ≡ 15) → NamesAre rule function own (own, absent)
  own_name e = record {
    both = λ i. absurd (⊎_elim (λ j. omega arith) (λ j. omega arith) e);
    neither = λ i. absurd (⊎_elim (λ j. omega arith) (λ j. omega arith) e);
    the_function = λ i. absurd (⊎_elim (λ j. omega arith) (λ j. omega arith) e);
    the_own = λ _. refl;
  }

pub names-are : (r : Rule) (function own : ℕ) → NamesAre (number r) function own (names_of r function own)
names-are FunctionDivertedTo function own = own_name (inl (lit< tt))
names-are TargetNotFound function own = own_name (inl (lit< tt))
names-are FlowCalled function own = own_name (inl (lit< tt))
names-are NameIsFunction function own = own_name (inl (lit< tt))
names-are NameIsGlobal function own = own_name (inl (lit< tt))
names-are TempIsParameter function own = own_name (inl (lit< tt))
names-are TempIsLabel function own = own_name (inl (lit< tt))
names-are ParameterUnmarked function own = own_name (inl (lit< tt))
names-are ParameterAlreadyMarked function own = own_name (inl (lit< tt))
names-are GatherRepeated function own = own_name (inl (lit< tt))
names-are ChoiceUndiverted function own = no_names refl
names-are FunctionWithStitches function own = function-name (lit< tt) (lit< tt)
names-are FunctionWithChoice function own = function-name (lit< tt) (lit< tt)
names-are FunctionWithDivert function own = both-names refl
names-are VariableForbidden function own = own_name (inr refl)

pub names-only : (r : Rule) (function own : ℕ) (names : ℕ × ℕ) → NamesAre (number r) function own names → names ≡ names_of r function own
names-only FunctionDivertedTo function own names h = h.the_own (inl (lit< tt))
names-only TargetNotFound function own names h = h.the_own (inl (lit< tt))
names-only FlowCalled function own names h = h.the_own (inl (lit< tt))
names-only NameIsFunction function own names h = h.the_own (inl (lit< tt))
names-only NameIsGlobal function own names h = h.the_own (inl (lit< tt))
names-only TempIsParameter function own names h = h.the_own (inl (lit< tt))
names-only TempIsLabel function own names h = h.the_own (inl (lit< tt))
names-only ParameterUnmarked function own names h = h.the_own (inl (lit< tt))
names-only ParameterAlreadyMarked function own names h = h.the_own (inl (lit< tt))
names-only GatherRepeated function own names h = h.the_own (inl (lit< tt))
names-only ChoiceUndiverted function own names h = h.neither refl
names-only FunctionWithStitches function own names h = h.the_function (lit< tt, lit< tt)
names-only FunctionWithChoice function own names h = h.the_function (lit< tt, lit< tt)
names-only FunctionWithDivert function own names h = h.both refl
names-only VariableForbidden function own names h = h.the_own (inr refl)
