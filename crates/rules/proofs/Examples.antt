-- P1 to P10 as stories with made-up places: the rule that the verdict names, 0 where accepted; and the numbers of some steps as run.
-- Assumes nothing.
use mathlib.Core.Path.{◌≡◌, refl}
use mathlib.Core.Bool.{Bool, true, false}
use mathlib.Core.List.{List, [], ◌∷◌, map}
use mathlib.Core.Option.{none, some}
use Prim.Native.Nat.{ℕ}
use Rattle.names.specs.Words.{Bytes}
use Rattle.names.specs.Reserved.{END, arrow, builtins}
use Rattle.records.specs.declared.sorts.Sort.{Sort as Kind}
use Rattle.records.specs.declared.sorts.Sort.TheVariants.{Temp as temp, Divert as divert, Thread as thread, Variable as variable, Choice as choice, Gather as gather}
use Rattle.records.specs.Items.{Item}
use Rattle.story.specs.Story.{Name, Stitch, Flow, Story}
use Rattle.symbols.specs.Index.{labelled, stitch_entries, flow_entries, entries}
use Rattle.rules.specs.Rules.{broken, known, here, number}
use Rattle.rules.specs.Rules as scope
use Rattle.rules.specs.Steps.{s6, s12, run, stitch_items, over, stitch_runs, flow_runs, runs, breaches, verdict}
use Rattle.rules.specs.Meaning.{Ran, ran_name, ran_params}
use Rattle.rules.proofs.Ran.{flows-in-order, stitches-in-order}

name : ℕ → Bytes → Name
name at b = record { at = at; bytes = b }

-- a record without a label, and one with a label, perhaps directly in a branch
node : ℕ → Kind → Bytes → Item
node p k n = record { place = p; named = p; what = record { kind = k; name = n; labels = false; branch = false; leaves = false } }

label : ℕ → Kind → Bytes → Bool → Item
label p k n branch = record { place = p; named = p; what = record { kind = k; name = n; labels = true; branch = branch; leaves = false } }

knot : Bytes → List Item → List Stitch → Flow
knot n body st = record { at = 20; function = false; name = name 24 n; params = []; marks = []; body = body; stitches = st }

function : Bytes → List Item → Flow
function n body = record { at = 20; function = true; name = name 24 n; params = []; marks = []; body = body; stitches = [] }

stitch : Bytes → List Item → Stitch
stitch n body = record { name = name 60 n; params = []; marks = []; body = body }

-- a story without externals
story : List Name → List Item → List Flow → Story
story globals root flows = record { globals = globals; externals = []; root = root; flows = flows }

rule : Story → ℕ
rule s = elim (verdict s) [ none ↦ 0 | some b ↦ number b.rule ]

-- the names that occur
abbrev a : Bytes
a = 97 ∷ []

abbrev f : Bytes
f = 102 ∷ []

abbrev k : Bytes
k = 107 ∷ []

abbrev s : Bytes
s = 115 ∷ []

abbrev t : Bytes
t = 116 ∷ []

abbrev x : Bytes
x = 120 ∷ []

-- a story, and the rule that the verdict names: 0 where it is accepted
record Row : Type 0 where
  given : Story
  expected : ℕ

row : Story → ℕ → Row
row given expected = record { given = given; expected = expected }

table : List Row
table =
    -- P1 the empty story
    row (story [] [] []) 0
    ∷
    -- P2 -> x
    row (story [] (node 0 divert x ∷ []) []) 2
    ∷
    -- P3 the same with global x
    row (story (name 0 x ∷ []) (node 2 divert x ∷ []) []) 0
    ∷
    -- P4 targets "", "->", "$x"
    row (story [] (node 0 divert [] ∷ node 6 divert arrow ∷ node 14 divert (36 ∷ x) ∷ []) []) 0
    ∷
    -- P5 function f, root -> f, global f too
    row (story (name 0 f ∷ []) (node 2 divert f ∷ []) (function f [] ∷ [])) 1
    ∷
    -- P6 knot k, stitch s: -> s and -> k.s; -> .s
    row (story [] (node 2 divert s ∷ node 9 divert (107 ∷ 46 ∷ s) ∷ []) (knot k [] (stitch s [] ∷ []) ∷ [])) 0
    ∷
    row (story [] (node 2 divert (46 ∷ s) ∷ []) (knot k [] (stitch s [] ∷ []) ∷ [])) 2
    ∷
    -- P7 beside a knot k, function body -> END; -> k; thread to k
    row (story [] [] (knot k [] [] ∷ function f (node 40 divert END ∷ []) ∷ [])) 0
    ∷
    row (story [] [] (knot k [] [] ∷ function f (node 40 divert k ∷ []) ∷ [])) 14
    ∷
    row (story [] [] (knot k [] [] ∷ function f (node 40 thread k ∷ []) ∷ [])) 0
    ∷
    -- P8 two choices labelled a; two gathers a
    row (story [] (label 0 choice a false ∷ label 9 choice a false ∷ []) []) 0
    ∷
    row (story [] (label 0 gather a false ∷ label 9 gather a false ∷ []) []) 10
    ∷
    -- P9 an undiverted choice in a conditional, in a knot; in a stitch
    row (story [] [] (knot k (label 40 choice a true ∷ []) [] ∷ [])) 11
    ∷
    row (story [] [] (knot k [] (stitch s (label 40 choice a true ∷ []) ∷ []) ∷ [])) 0
    ∷
    -- P10 knot temp t, stitch prints t; with its own temp t
    row (story [] [] (knot k (node 30 temp t ∷ []) (stitch s (node 70 variable t ∷ []) ∷ []) ∷ [])) 15
    ∷
    row (story [] [] (knot k (node 30 temp t ∷ []) (stitch s (node 70 variable t ∷ node 80 temp t ∷ []) ∷ []) ∷ [])) 0
    ∷
    -- two broken stitches: the first has no target t, the second bears the name of the global x
    row (story (name 0 x ∷ []) [] (knot k [] (stitch s (node 70 divert t ∷ []) ∷ stitch x [] ∷ []) ∷ [])) 2
    ∷
    -- two broken flows: the first has gather a twice, the second is a function with a choice
    row (story [] [] (knot k (label 40 gather a false ∷ label 49 gather a false ∷ []) [] ∷ function f (label 60 choice a false ∷ []) ∷ [])) 10
    ∷
    []

-- the verdict names the rule expected, in each row
examples : map (λ (r : Row). rule r.given) table ≡ map (λ (r : Row). r.expected) table
unfolding rule row table verdict breaches runs flow_runs stitch_runs over known entries flow_entries stitch_entries labelled here broken builtins name node label story knot function stitch
examples = refl

-- knot k with stitches s and t, and knot x
abbrev first : Flow
first = knot k [] (stitch s [] ∷ stitch t [] ∷ [])

abbrev second : Flow
second = knot x [] []

abbrev ordered : Story
ordered = story [] [] (first ∷ second ∷ [])

-- step 6 is run for k as number 5 and for x as number 27; step 12 for s as number 11 and for t as number 18
record InOrder : Type 0 where
  flows : Ran ordered 5 (run (scope.knot first) [] s6) × Ran ordered 27 (run (scope.knot second) [] s6)
  stitches : Ran ordered 11 (run (scope.stitch first (stitch s [])) (stitch_items (stitch s [])) s12)
      × Ran ordered 18 (run (scope.stitch first (stitch t [])) (stitch_items (stitch t [])) s12)

in_order : InOrder
unfolding story knot stitch
in_order =
    let p = flows-in-order ordered [] first [] second [] refl ran_params ran_params in
    let q = stitches-in-order ordered [] first (second ∷ []) refl [] (stitch s []) [] (stitch t []) [] refl ran_name ran_name in
    record { flows = (p.0, p.1); stitches = (q.0, q.1) }
