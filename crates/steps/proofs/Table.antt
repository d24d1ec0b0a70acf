-- The steps by their numbers: which of them are on gathers, and which have the rule on gathers. Assumes nothing.
use mathlib.Core.Path.{◌≡◌, refl, sym, ◌∙◌}
use mathlib.Core.Bool.{false}
use mathlib.Core.List.{List, [], ◌∷◌, ◌++◌}
use mathlib.Core.Logic.{inl, inr}
use Prim.Native.Nat.{ℕ, zero, suc, ◌<◌}
use native.Mathlib.Omega.{arith}
use lib.ListN.{length, get_or, get_or-map}
use types.Run.{OneOf}
use Rattle.names.specs.Words.{any}
use Rattle.records.proofs.Tables.{Misses, missed}
use Rattle.targets.proofs.Gaining.{or-false-left, or-false-right}
use Rattle.rules.specs.declared.Rule.{Rule}
use Rattle.rules.specs.declared.Rule.TheVariants.{NameIsFunction, NameIsGlobal, TempIsLabel, FunctionWithStitches, FunctionWithChoice, FunctionWithDivert, VariableForbidden}
use Rattle.rules.specs.Steps.{Step, s1, s2, s3, s4, s5, s6, s7, s8, s9, s10, s11, s12, s13, s14, s15, s16, s17, s18, s19, s20, bracket, targets, calls, choices, temps, variable_diverts, gathers}
use Rattle.steps.specs.Brackets.{steps, step_at, on_gathers}

-- 1. The steps on gathers

-- none of the first steps is on gathers
none_at : (xs ys : List Step) → any on_gathers xs ≡ false → (n : ℕ) → n < length xs → on_gathers (get_or (xs ++ ys) n s20) ≡ false
none_at [] ys e n l = absurd (omega arith)
none_at (x ∷ xs) ys e zero l = or-false-left (on_gathers x) (any on_gathers xs) e
none_at (x ∷ xs) ys e (suc n) l = none_at xs ys (or-false-right (on_gathers x) (any on_gathers xs) e) n (omega arith)

-- before 18 only 0 is the number of a step on gathers
pub plain-step : (n : ℕ) → n < 18 → (n ≡ 0 → ⊥) → on_gathers (step_at n) ≡ false
unfolding step_at
plain-step zero l z = absurd (z refl)
plain-step (suc n) l z =
    none_at (s1 ∷ s2 ∷ s3 ∷ s4 ∷ s5 ∷ s6 ∷ s7 ∷ s8 ∷ s9 ∷ s10 ∷ s11 ∷ s12 ∷ s13 ∷ s14 ∷ s15 ∷ s16 ∷ s17 ∷ []) (s18 ∷ s19 ∷ s20 ∷ []) refl n (omega arith)

-- 2. The steps that have the rule on gathers: those of every number but the numbers of the steps with other rules

-- the numbers of the steps that have other rules than the gathers', with their rules: the last number of each part names it
abbrev to-14 : List (ℕ × List Rule)
to-14 = (14, targets) ∷ (8, targets) ∷ (2, targets) ∷ (1, NameIsFunction ∷ TempIsLabel ∷ []) ∷ []

abbrev to-10 : List (ℕ × List Rule)
to-10 = (10, choices) ∷ (4, choices) ∷ (15, calls) ∷ (9, calls) ∷ (3, calls) ∷ to-14

abbrev to-13 : List (ℕ × List Rule)
to-13 = (13, temps) ∷ (7, temps) ∷ (6, NameIsFunction ∷ NameIsGlobal ∷ []) ∷ (5, FunctionWithStitches ∷ FunctionWithChoice ∷ FunctionWithDivert ∷ []) ∷ to-10

abbrev others : List (ℕ × List Rule)
others = (17, VariableForbidden ∷ []) ∷ (12, NameIsGlobal ∷ []) ∷ (16, variable_diverts) ∷ (11, variable_diverts) ∷ to-13

-- the number is none of those
abbrev Not : List ℕ → ℕ → Type 0
Not ks n = OneOf ks n → ⊥

abbrev Not-14 : ℕ → Type 0
Not-14 n = (Unit {0} × Not (1 ∷ []) n) × Not (2 ∷ 8 ∷ 14 ∷ []) n

abbrev Not-10 : ℕ → Type 0
Not-10 n = (Not-14 n × Not (3 ∷ 9 ∷ 15 ∷ []) n) × Not (4 ∷ 10 ∷ []) n

abbrev Not-13 : ℕ → Type 0
Not-13 n = ((Not-10 n × Not (5 ∷ []) n) × Not (6 ∷ []) n) × Not (7 ∷ 13 ∷ []) n

-- the number is that of no step with other rules
abbrev pub NoOther : ℕ → Type 0
NoOther n = ((Not-13 n × Not (11 ∷ 16 ∷ []) n) × Not (12 ∷ []) n) × Not (17 ∷ []) n

misses-14 : (n : ℕ) → Not-14 n → Misses gathers to-14 n
misses-14 n h = ((((tt, h.0.1), λ e. h.1 (inl e)), λ e. h.1 (inr (inl e))), λ e. h.1 (inr (inr e)))

misses-10 : (n : ℕ) → Not-10 n → Misses gathers to-10 n
misses-10 n h =
    (((((misses-14 n h.0.0, λ e. h.0.1 (inl e)), λ e. h.0.1 (inr (inl e))), λ e. h.0.1 (inr (inr e))), λ e. h.1 (inl e)), λ e. h.1 (inr e))

misses-13 : (n : ℕ) → Not-13 n → Misses gathers to-13 n
misses-13 n h = ((((misses-10 n h.0.0.0, h.0.0.1), h.0.1), λ e. h.1 (inl e)), λ e. h.1 (inr e))

none-of-others : (n : ℕ) → NoOther n → Misses gathers others n
none-of-others n h = ((((misses-13 n h.0.0.0, λ e. h.0.0.1 (inl e)), λ e. h.0.0.1 (inr e)), h.0.1), h.1)

-- such a step has the rule on gathers
pub gathers-step : (n : ℕ) → NoOther n → gathers ≡ bracket (step_at n)
unfolding step_at
gathers-step n h = sym (missed gathers 21 others n (none-of-others n h)) ∙ get_or-map bracket steps n s20
