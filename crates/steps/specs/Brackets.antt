-- Inner contract. The code's steps and courses, as the table of steps has them, and the steps by their numbers. Assumes nothing.
use Rattle.std.specs.Prelude.{ℕ, Bool, true, false, not, ◌&&◌, List, [], ◌∷◌, slice_index_or}
use Rattle.rules.specs.Steps.{Step, s1, s2, s3, s4, s5, s6, s7, s8, s9, s10, s11, s12, s13, s14, s15, s16, s17, s18, s19, s20, root_steps, flow_steps, stitch_steps}
use Rattle.steps.specs.declared.brackets.Step as code
use Rattle.steps.specs.declared.brackets.Step.TheVariants.{RootTemps, RootTargets, RootCalls, RootChoices, Purity, Parameters, Temps, Targets, Calls, Choices, VariableDiverts, StitchName, StitchTemps, StitchTargets, StitchCalls, StitchVariableDiverts, StitchVariables, StitchGathers, Gathers, RootGathers}
use Rattle.steps.specs.declared.brackets.Along as code_along
use Rattle.steps.specs.declared.brackets.Along.TheVariants as along

-- the step of the table
abbrev pub step_of : code.Step → Step
step_of RootTemps = s1
step_of RootTargets = s2
step_of RootCalls = s3
step_of RootChoices = s4
step_of Purity = s5
step_of Parameters = s6
step_of Temps = s7
step_of Targets = s8
step_of Calls = s9
step_of Choices = s10
step_of VariableDiverts = s11
step_of StitchName = s12
step_of StitchTemps = s13
step_of StitchTargets = s14
step_of StitchCalls = s15
step_of StitchVariableDiverts = s16
step_of StitchVariables = s17
step_of StitchGathers = s18
step_of Gathers = s19
step_of RootGathers = s20

-- the steps in the order of their numbers, from 1 on; 0 is no step's number
abbrev pub steps : List Step
steps = s20 ∷ s1 ∷ s2 ∷ s3 ∷ s4 ∷ s5 ∷ s6 ∷ s7 ∷ s8 ∷ s9 ∷ s10 ∷ s11 ∷ s12 ∷ s13 ∷ s14 ∷ s15 ∷ s16 ∷ s17 ∷ s18 ∷ s19 ∷ s20 ∷ []

-- the step of the number; for a number that no step has, the last one
unfoldable pub step_at : ℕ → Step
step_at n = slice_index_or steps n s20

-- a step on gathers
abbrev pub on_gathers : Step → Bool
on_gathers s18 = true
on_gathers s19 = true
on_gathers s20 = true
on_gathers _ = false

-- a step on gathers stands only last
unfoldable pub gathers_last : List Step → Bool
gathers_last [] = true
gathers_last (step ∷ []) = true
gathers_last (step ∷ next ∷ more) = not (on_gathers step) && gathers_last (next ∷ more)

-- the steps of a course
abbrev pub steps_along : code_along.Along → List Step
steps_along along.Root = root_steps
steps_along along.RootGathers = s20 ∷ []
steps_along along.Flow = flow_steps
steps_along along.FlowGathers = s19 ∷ []
steps_along along.Stitch = stitch_steps
