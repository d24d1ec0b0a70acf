-- Each rule's test passes exactly where its statement holds: `broken-means`. Assumes nothing.
use mathlib.Core.Path.{◌≡◌, subst}
use mathlib.Core.Bool.{Bool, true}
use mathlib.Core.List.{List, [], ◌∷◌, ◌++◌}
use mathlib.Core.Logic.{◌⊎◌, ◌↔◌}
use Prim.Native.Nat.{ℕ}
use lib.Dec.{T, eqb, eqb→eq, eqb_refl}
use Rattle.names.specs.Words.{Bytes, ◌∈◌}
use Rattle.names.specs.Reserved.{END, DONE, back, builtins}
use Rattle.names.proofs.Means.{Means, itself, never, both, three, four, either, either3, fails, some_of, some-both, equal, member, end, pass}
use Rattle.records.specs.declared.sorts.Sort.{Sort as Kind}
use Rattle.records.specs.declared.sorts.Sort.TheVariants.{Temp as temp, Divert as divert, Tunnel as tunnel, Thread as thread, Call as call, Variable as variable, Argument as argument, Choice as choice, Gather as gather, Parameter as parameter, StitchName as stitch_name, FlowStart as flow_start}
use Rattle.records.specs.Items.{code, What, is, Item}
use Rattle.story.specs.Story.{Flow, Story, words, whats}
use Rattle.items.specs.Search.{label_in, temp_in}
use Rattle.symbols.specs.Index.{spellings}
use Rattle.symbols.specs.Spelled.{LabelIn, Spelled}
use Rattle.symbols.proofs.Spelled.{spelled}
use Rattle.rules.specs.declared.Rule.{Rule}
use Rattle.rules.specs.declared.Rule.TheVariants.{FunctionDivertedTo, TargetNotFound, FlowCalled, NameIsFunction, NameIsGlobal, TempIsParameter, TempIsLabel, ParameterUnmarked, ParameterAlreadyMarked, GatherRepeated, ChoiceUndiverted, FunctionWithStitches, FunctionWithChoice, FunctionWithDivert, VariableForbidden}
use Rattle.rules.specs.Rules.{target, call_passes, broken, valid, ending, known, knot_label, Scope, root, knot, stitch, here}
use Rattle.rules.specs.Meaning.{Is, Target, Function, FlowName, CallPasses, Found, TempIn, KnotLabel, Param, Mark, Label, Forbidden, Stitched, Broken}

through : {a : Bool} {P Q : Type 0} → Means a P → P ↔ Q → Means a Q
through p e = record { to = λ h. e.0 (p.to h); from = λ h. p.from (e.1 h) }

kind : (k : Kind) (w : What) → Means (is k w) (Is k w)
kind k w = record {
  to = eqb→eq (code k) (code w.kind);
  from = λ e. subst (λ (x : ℕ). T (eqb (code k) x)) e (eqb_refl (code k));
}

-- what the story knows
module _ (s : Story) (n : Bytes) where
  a-function : Means ((known s).function n) (Function s n)
  unfolding known
  a-function = some-both s.flows (λ f. itself f.function) (λ f. equal n f.name.bytes)

  a-flow : Means ((known s).flow n) (FlowName s n)
  unfolding known
  a-flow = some_of s.flows (λ f. equal n f.name.bytes)

  a-global : Means ((known s).global n) (n ∈ words s.globals)
  unfolding known
  a-global = member n (words s.globals)

  an-external : Means ((known s).external n) (n ∈ words s.externals)
  unfolding known
  an-external = member n (words s.externals)

  is-valid : Means (valid s n) (n ∈ (END ∷ DONE ∷ back ∷ []) ⊎ Spelled s n)
  is-valid = either (member n (END ∷ DONE ∷ back ∷ [])) (through (member n (spellings s)) (spelled s n))

  is-ending : Means (ending s n) ((w : Bytes) × Spelled s w × ((p : Bytes) × (w ≡ p ++ (46 ∷ n))))
  is-ending = let m = some_of (spellings s) (end (46 ∷ n)) in record {
    to = λ h. let r = m.to h in (r.0, (spelled s r.0).0 r.1, r.2);
    from = λ h. m.from (h.0, (spelled s h.0).1 h.1, h.2);
  }

  found : Means ((known s).target n) (Found s n)
  unfolding known
  found = either is-valid is-ending

  call-passes : Means (call_passes (known s) n) (CallPasses s n)
  call-passes = either3 a-function an-external (member n builtins)

-- what a scope adds
label-in : (l : List Item) (n : Bytes) → Means (label_in l n) (LabelIn l n)
label-in l n = some-both (whats l) (λ w. itself w.labels) (λ w. equal n w.name)

temp-in : (l : List Item) (n : Bytes) → Means (temp_in l n) (TempIn l n)
temp-in l n = some-both (whats l) (kind temp) (λ w. equal n w.name)

knot-label : (f : Flow) (n : Bytes) → Means (knot_label f n) (KnotLabel f n)
knot-label f n = either (label-in f.body n) (some_of f.stitches (λ t. label-in t.body n))

module _ (s : Story) (n : Bytes) where
  a-param : (sc : Scope) → Means ((here s sc).param n) (Param sc n)
  unfolding here
  a-param root = never
  a-param (knot f) = member n (words f.params)
  a-param (stitch f t) = member n (words t.params)

  a-mark : (sc : Scope) → Means ((here s sc).mark n) (Mark sc n)
  unfolding here
  a-mark root = never
  a-mark (knot f) = member n (words f.marks)
  a-mark (stitch f t) = member n (words t.marks)

  a-label : (sc : Scope) → Means ((here s sc).label n) (Label s sc n)
  unfolding here
  a-label root = label-in s.root n
  a-label (knot f) = knot-label f n
  a-label (stitch f t) = knot-label f n

  is-forbidden : (sc : Scope) → Means ((here s sc).forbidden n) (Forbidden sc n)
  unfolding here
  is-forbidden root = never
  is-forbidden (knot f) = never
  is-forbidden (stitch f t) =
      both (either (member n (words f.params)) (temp-in f.body n)) (fails (either (member n (words t.params)) (temp-in t.body n)))

has-stitches : (s : Story) (sc : Scope) → Means (here s sc).stitched (Stitched sc)
unfolding here
has-stitches s root = never
has-stitches s (knot f) = let m = some_of f.stitches (λ t. itself true) in record {
  to = λ h. let r = m.to h in (r.0, r.1);
  from = λ h. m.from (h.0, h.1, tt);
}
has-stitches s (stitch f t) = never

-- THE RULES
a-target : (w : What) → Means (target w) (Target w)
a-target w = either3 (kind divert w) (kind tunnel w) (kind thread w)

pub broken-means : (s : Story) (sc : Scope) (before : List What) (r : Rule) (w : What)
    → Means (broken (known s) (here s sc) before r w) (Broken s sc before r w)
unfolding broken Broken
broken-means s sc before FunctionDivertedTo w = three (a-target w) (fails (pass w.name)) (a-function s w.name)
broken-means s sc before TargetNotFound w = four (a-target w) (fails (pass w.name)) (fails (a-function s w.name)) (fails (found s w.name))
broken-means s sc before FlowCalled w = three (kind call w) (fails (call-passes s w.name)) (a-flow s w.name)
broken-means s sc before NameIsFunction w = both (either (kind temp w) (kind parameter w)) (a-function s w.name)
broken-means s sc before NameIsGlobal w = both (either (kind parameter w) (kind stitch_name w)) (a-global s w.name)
broken-means s sc before TempIsParameter w = both (kind temp w) (a-param s w.name sc)
broken-means s sc before TempIsLabel w = both (kind temp w) (a-label s w.name sc)
broken-means s sc before ParameterUnmarked w = three (a-target w) (a-param s w.name sc) (fails (a-mark s w.name sc))
broken-means s sc before ParameterAlreadyMarked w = both (kind argument w) (a-mark s w.name sc)
broken-means s sc before GatherRepeated w = both (kind gather w) (some-both before (kind gather) (λ v. equal w.name v.name))
broken-means s sc before ChoiceUndiverted w = three (kind choice w) (itself w.branch) (fails (itself w.leaves))
broken-means s sc before FunctionWithStitches w = both (kind flow_start w) (has-stitches s sc)
broken-means s sc before FunctionWithChoice w = kind choice w
broken-means s sc before FunctionWithDivert w = both (kind divert w) (fails (either (equal END w.name) (equal DONE w.name)))
broken-means s sc before VariableForbidden w = both (kind variable w) (is-forbidden s w.name sc)
