-- Whether a step finds a breach does not depend on the order of a body's records: `step-shuffled`. Only rule 10 looks at what stands
-- before, and whether some gather label stands twice does not depend on the order either. Assumes nothing.
use mathlib.Core.Path.{◌≡◌, refl, sym, ◌∙◌, ap, ap₂, subst}
use mathlib.Core.Bool.{Bool, true, false, ◌&&◌, ◌||◌, or-false, or-true, or_self, and-false}
use mathlib.Core.List.{List, [], ◌∷◌, ◌++◌, append-nil}
use mathlib.Core.Logic.{⊎_elim}
use Prim.Native.Nat.{ℕ, zero, suc, ◌+◌, ◌<◌}
use native.Mathlib.Omega.{arith}
use lib.Dec.{T}
use Rattle.names.specs.Words.{Bytes, same, any}
use Rattle.records.specs.declared.sorts.Sort.TheVariants.{Gather as gather}
use Rattle.records.specs.Items.{What, is}
use Rattle.rules.specs.declared.Rule.{Rule}
use Rattle.rules.specs.declared.Rule.TheVariants.{FunctionDivertedTo, TargetNotFound, FlowCalled, NameIsFunction, NameIsGlobal, TempIsParameter, TempIsLabel, ParameterUnmarked, ParameterAlreadyMarked, GatherRepeated, ChoiceUndiverted, FunctionWithStitches, FunctionWithChoice, FunctionWithDivert, VariableForbidden}
use Rattle.rules.specs.Rules.{Known, Here, broken}
use Rattle.rules.specs.Steps.{Step, bracket}
use Rattle.rules.specs.Alike.{more, Shuffled}
use Rattle.names.proofs.Any.{any_same}
use Rattle.names.proofs.Bools.{bool-ext, and_left, and_right, and_both, or_cases, or_left, or_right}
use Rattle.names.proofs.Words.{same-eq, same_refl}
use Rattle.rules.proofs.Paired.{any-paired}

-- the step finds a breach among the items ws, after those before
unfoldable pub step_finds : Known → Here → Step → List What → List What → Bool
step_finds k h st before [] = false
step_finds k h st before (w ∷ ws) = any (λ (r : Rule). broken k h before r w) (bracket st) || step_finds k h st (before ++ (w ∷ [])) ws

ten : Rule → Bool
ten FunctionDivertedTo = false
ten TargetNotFound = false
ten FlowCalled = false
ten NameIsFunction = false
ten NameIsGlobal = false
ten TempIsParameter = false
ten TempIsLabel = false
ten ParameterUnmarked = false
ten ParameterAlreadyMarked = false
ten GatherRepeated = true
ten ChoiceUndiverted = false
ten FunctionWithStitches = false
ten FunctionWithChoice = false
ten FunctionWithDivert = false
ten VariableForbidden = false

seen : List What → What → Bool
seen before w = is gather w && any (λ (v : What). is gather v && same w.name v.name) before

-- a rule is broken apart from what stands before, or it is rule 10
apart : (k : Known) (h : Here) (before : List What) (r : Rule) (w : What) → broken k h before r w ≡ broken k h [] r w || ten r && seen before w
unfolding broken ten seen
apart k h before FunctionDivertedTo w = sym (or-false _)
apart k h before TargetNotFound w = sym (or-false _)
apart k h before FlowCalled w = sym (or-false _)
apart k h before NameIsFunction w = sym (or-false _)
apart k h before NameIsGlobal w = sym (or-false _)
apart k h before TempIsParameter w = sym (or-false _)
apart k h before TempIsLabel w = sym (or-false _)
apart k h before ParameterUnmarked w = sym (or-false _)
apart k h before ParameterAlreadyMarked w = sym (or-false _)
apart k h before GatherRepeated w = rw and-false
apart k h before ChoiceUndiverted w = sym (or-false _)
apart k h before FunctionWithStitches w = sym (or-false _)
apart k h before FunctionWithChoice w = sym (or-false _)
apart k h before FunctionWithDivert w = sym (or-false _)
apart k h before VariableForbidden w = sym (or-false _)

-- some label of a gather stands among those before
again : List What → List What → Bool
again before [] = false
again before (w ∷ ws) = seen before w || again (before ++ (w ∷ [])) ws

mix : (a b c d t : Bool) → (a || t && b) || (c || t && d) ≡ (a || c) || t && (b || d)
mix true b c d t = refl
mix false b true d true = or-true b
mix false b true d false = refl
mix false true false d true = refl
mix false false false d true = refl
mix false b false d false = refl

any-apart : (p : Rule → Bool) (x : Bool) (rs : List Rule) → any (λ r. p r || ten r && x) rs ≡ any p rs || any ten rs && x
any-apart p x [] = refl
any-apart p x (r ∷ rs) = rw (any-apart p x rs) (mix' (p r) (any p rs) (ten r) (any ten rs) x)
  where
    mix' : (a b t u x : Bool) → (a || t && x) || (b || u && x) ≡ (a || b) || (t || u) && x
    mix' true b t u x = refl
    mix' false true true u x = or-true x
    mix' false true false u x = refl
    mix' false false true true x = or_self x
    mix' false false true false x = or-false x
    mix' false false false u x = refl

-- apart from what stands before, or some label again
step-apart : (k : Known) (h : Here) (st : Step) (before ws : List What)
    → step_finds k h st before ws ≡ any (λ (w : What). any (λ (r : Rule). broken k h [] r w) (bracket st)) ws || any ten (bracket st) && again before ws
unfolding step_finds again
step-apart k h st before [] = sym (and-false (any ten (bracket st)))
step-apart k h st before (w ∷ ws) =
    ap₂ ◌||◌ (any_same _ _ (λ r. apart k h before r w) (bracket st) ∙ any-apart (λ r. broken k h [] r w) (seen before w) (bracket st))
    (step-apart k h st (before ++ (w ∷ [])) ws)
    ∙ mix (any (λ (r : Rule). broken k h [] r w) (bracket st)) (seen before w)
    (any (λ (v : What). any (λ (r : Rule). broken k h [] r v) (bracket st)) ws) (again (before ++ (w ∷ [])) ws) (any ten (bracket st))

-- how many gathers have the label
tally : Bytes → List What → ℕ
tally n [] = 0
tally n (w ∷ ws) = more (is gather w && same n w.name) (tally n ws)

tally-middle : (n : Bytes) (a : List What) (y : What) (b : List What) → tally n (a ++ (y ∷ b)) ≡ more (is gather y && same n y.name) (tally n (a ++ b))
unfolding tally
tally-middle n [] y b = refl
tally-middle n (x ∷ xs) y b = rw (tally-middle n xs y b) (swap (is gather x && same n x.name) (is gather y && same n y.name) (tally n (xs ++ b)))
  where
    swap : (s t : Bool) (m : ℕ) → more s (more t m) ≡ more t (more s m)
    swap true true m = refl
    swap true false m = refl
    swap false true m = refl
    swap false false m = refl

tally-shuffled : (n : Bytes) (a b : List What) → Shuffled a b → tally n a ≡ tally n b
unfolding tally
tally-shuffled n [] b e = sym (ap (tally n) e)
tally-shuffled n (x ∷ xs) b w =
    ap₂ (λ (v : What) (m : ℕ). more (is gather v && same n v.name) m) w.4 (tally-shuffled n xs (w.1 ++ w.2) w.5)
    ∙ sym (tally-middle n w.1 w.0 w.2) ∙ sym (ap (tally n) w.3)

tally-last : (n : Bytes) (before : List What) (w : What) → tally n (before ++ (w ∷ [])) ≡ more (is gather w && same n w.name) (tally n before)
tally-last n before w = tally-middle n before w [] ∙ rw append-nil

-- among some items there is a gather with the label
tally-in : (n : Bytes) (l : List What) → T (any (λ (v : What). is gather v && same n v.name) l) → 0 < tally n l
unfolding tally
tally-in n [] h = absurd h
tally-in n (v ∷ vs) h = go (is gather v && same n v.name) (λ i. tally-in n vs i) h
  where
    go : (t : Bool) → (T (any (λ (v : What). is gather v && same n v.name) vs) → 0 < tally n vs)
        → T (t || any (λ (v : What). is gather v && same n v.name) vs) → 0 < more t (tally n vs)
    go true rest i = omega arith
    go false rest i = rest i

in-tally : (n : Bytes) (l : List What) → 0 < tally n l → T (any (λ (v : What). is gather v && same n v.name) l)
unfolding tally
in-tally n [] h = absurd (omega arith)
in-tally n (v ∷ vs) h = go (is gather v && same n v.name) (λ i. in-tally n vs i) h
  where
    go : (t : Bool) → (0 < tally n vs → T (any (λ (v : What). is gather v && same n v.name) vs))
        → 0 < more t (tally n vs) → T (t || any (λ (v : What). is gather v && same n v.name) vs)
    go true rest i = tt
    go false rest i = rest i

-- a label again: it stands among these, and twice among those before and these
Twice : List What → List What → Type 0
Twice before ws = (n : Bytes) × (0 < tally n ws) × (1 < tally n before + tally n ws)

pos : (t : Bool) (m b : ℕ) → T t → 0 < b → (0 < more t m) × (1 < b + more t m)
pos true m b h i = omega arith
pos false m b h i = absurd h

move : (t : Bool) (b m : ℕ) → 0 < m → 1 < more t b + m → (0 < more t m) × (1 < b + more t m)
move true b m h i = omega arith
move false b m h i = (h, i)

twice : (before ws : List What) → T (again before ws) → Twice before ws
unfolding again seen Twice tally
twice before [] h = absurd h
twice before (w ∷ ws) h =
    ⊎_elim (λ i. now i) (λ i. go (twice (before ++ (w ∷ [])) ws i)) (or_cases (seen before w) (again (before ++ (w ∷ [])) ws) h)
  where
    now : T (seen before w) → Twice before (w ∷ ws)
    now i =
        let a = and_left (is gather w) _ i in
        let r = pos (is gather w && same w.name w.name) (tally w.name ws) (tally w.name before)
        (and_both (is gather w) (same w.name w.name) a (same_refl w.name)) (tally-in w.name before (and_right (is gather w) _ i)) in
        (w.name, r.0, r.1)

    go : Twice (before ++ (w ∷ [])) ws → Twice before (w ∷ ws)
    go r =
        let m = move (is gather w && same r.0 w.name) (tally r.0 before) (tally r.0 ws) r.1
        (subst (λ (x : ℕ). 1 < x + tally r.0 ws) (tally-last r.0 before w) r.2) in
        (r.0, m.0, m.1)

again-of : (before ws : List What) → Twice before ws → T (again before ws)
unfolding again seen Twice tally
again-of before [] r = absurd (omega (arith, r.1))
again-of before (w ∷ ws) r =
    go (is gather w && same r.0 w.name) (tally r.0 before) now (tally-last r.0 before w) (λ x. again-of (before ++ (w ∷ [])) ws x) r.1 r.2
  where
    now : 0 < tally r.0 before → T (is gather w && same r.0 w.name) → T (seen before w)
    now i t =
        and_both (is gather w) _ (and_left (is gather w) _ t)
        (subst (λ (n : Bytes). T (any (λ (v : What). is gather v && same n v.name) before)) (same-eq r.0 w.name (and_right (is gather w) _ t))
        (in-tally r.0 before i))

    go : (t : Bool) (b : ℕ) → (0 < b → T t → T (seen before w)) → tally r.0 (before ++ (w ∷ [])) ≡ more t b
        → (Twice (before ++ (w ∷ [])) ws → T (again (before ++ (w ∷ [])) ws))
        → 0 < more t (tally r.0 ws) → 1 < b + more t (tally r.0 ws) → T (seen before w || again (before ++ (w ∷ [])) ws)
    go true zero f e rest p q = or_right (seen before w) _ (rest (r.0, omega arith, omega arith))
    go true (suc b) f e rest p q = or_left (seen before w) _ (f (omega arith) tt)
    go false b f e rest p q = or_right (seen before w) _ (rest (r.0, p, omega arith))

again-shuffled : (a b : List What) → Shuffled a b → again [] a ≡ again [] b
unfolding Twice tally
again-shuffled a b h = bool-ext (again [] a) (again [] b)
    (λ t. let r = twice [] a t in again-of [] b (r.0, omega (arith, r.1, tally-shuffled r.0 a b h), omega (arith, r.2, tally-shuffled r.0 a b h)))
    (λ t. let r = twice [] b t in again-of [] a (r.0, omega (arith, r.1, tally-shuffled r.0 a b h), omega (arith, r.2, tally-shuffled r.0 a b h)))

pub step-shuffled : (k : Known) (h : Here) (st : Step) (a b : List What) → Shuffled a b → step_finds k h st [] a ≡ step_finds k h st [] b
step-shuffled k h st a b e =
    step-apart k h st [] a
    ∙ ap₂ (λ x y. x || any ten (bracket st) && y)
    (any-paired (λ v w. v ≡ w) _ _ (λ v w i. ap (λ (z : What). any (λ (r : Rule). broken k h [] r z) (bracket st)) i) a b e) (again-shuffled a b e)
    ∙ sym (step-apart k h st [] b)
