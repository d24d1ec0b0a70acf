-- At the place that a breach gives for a name, the file has that name: `names_stand`, and `verdict-names` of the verdict. Assumes nothing.
use mathlib.Core.Path.{◌≡◌, refl, sym, ◌∙◌, subst}
use mathlib.Core.Bool.{Bool, false, not, ◌&&◌, ◌||◌}
use mathlib.Core.List.Memᴰ
use mathlib.Core.List.{List, ◌++◌}
use mathlib.Core.Logic.{◌⊎◌, inl, inr, ⊎_elim}
use mathlib.Core.Option.{some}
use Prim.Native.Nat.{ℕ, ◌<◌}
use native.Mathlib.Omega.{arith}
use lib.Dec.{T, eqb, ltb, eqb→eq, lt→ltb}
use Rattle.names.specs.Words.{any, each, ◌∈◌}
use Rattle.names.specs.Counted.{name_at}
use Rattle.names.proofs.Bools.{is_false, and_both}
use Rattle.names.proofs.Any.{any-in}
use Rattle.names.proofs.Lists.{in-each}
use Rattle.records.specs.Trace.{met}
use Rattle.records.specs.Grammar.{nodes}
use Rattle.records.specs.declared.sorts.Sort.{Sort as Kind}
use Rattle.records.specs.declared.sorts.Sort.TheVariants.{Plain as plain, Temp as temp, Divert as divert, Tunnel as tunnel, Thread as thread, Call as call, Variable as variable, Argument as argument, Choice as choice, Gather as gather, Parameter as parameter, StitchName as stitch_name, FlowStart as flow_start}
use Rattle.records.specs.Items.{code, What, Item, sort_of, nameless, same_kind, what_of, item_as, item_of}
use Rattle.story.specs.Story.{Name, Stitch, Flow, Story, whats}
use Rattle.story.proofs.Readable as reader
use Rattle.story.proofs.Named.{record-as-file}
use Rattle.story.proofs.Owned.{label_names, stitch_names, flow_names, own_names, story-own}
use Rattle.rules.specs.declared.Rule.{Rule}
use Rattle.rules.specs.declared.Rule.TheVariants.{FunctionDivertedTo, TargetNotFound, FlowCalled, NameIsFunction, NameIsGlobal, TempIsParameter, TempIsLabel, ParameterUnmarked, ParameterAlreadyMarked, GatherRepeated, ChoiceUndiverted, FunctionWithStitches, FunctionWithChoice, FunctionWithDivert, VariableForbidden}
use Rattle.rules.specs.Rules.{number, Scope, knot}
use Rattle.rules.specs.Steps.{Step, Run, name_item, flow_named, Breach, verdict}
use Rattle.rules.specs.Meaning.{Is, Target, Broken, bracketed, RanInStitch, ran_name, ran_stitch_body, RanInFlow, ran_purity, ran_no_purity, ran_params, ran_flow_body, ran_stitch, ran_flow_gathers, Ran, ran_root, ran_flow, ran_root_gathers, Stands}
use Rattle.rules.specs.Reader.{Readable, story_of}
use Rattle.rules.specs.Sorts.{BodyOf, of_root, of_flow, of_stitch}
use Rattle.rules.proofs.Placed.{in_split}
use Rattle.rules.proofs.Files.{file-least}
use Rattle.rules.proofs.Reader.{story-told, supplied}
use Rattle.rules.proofs.FileBodies.{file-bodies}

-- 1. What has a name

-- neither plain nor a choice: those have no name, or may have none
pub record WithName (w : What) : Type 0 where
  pub not_plain : Is plain w → ⊥
  pub not-choice : Is choice w → ⊥

-- what is of another kind has a name
of_kind : {w : What} (k : Kind) → T (not (same_kind k plain || same_kind k choice)) → Is k w → WithName w
of_kind {w} k t e = record {
  not_plain = λ p. subst (λ (n : ℕ). T (not (eqb n 0 || eqb n 8))) (e ∙ sym p) t;
  not-choice = λ p. subst (λ (n : ℕ). T (not (eqb n 0 || eqb n 8))) (e ∙ sym p) t;
}

-- kinds 3, 4 and 5
of-target : {w : What} → Target w → WithName w
of-target (inl e) = of_kind divert tt e
of-target (inr (inl e)) = of_kind tunnel tt e
of-target (inr (inr e)) = of_kind thread tt e

-- where a rule other than 11 and 13 is broken, there is a name
broken-named : (s : Story) (sc : Scope) (before : List What) {w : What} (r : Rule) → (number r ≡ 11 → ⊥) → (number r ≡ 13 → ⊥) → Broken s sc before r w → WithName w
unfolding Broken
broken-named s sc before FunctionDivertedTo p q h = of-target h.0
broken-named s sc before TargetNotFound p q h = of-target h.0
broken-named s sc before FlowCalled p q h = of_kind call tt h.0
broken-named s sc before NameIsFunction p q h = ⊎_elim (of_kind temp tt) (of_kind parameter tt) h.0
broken-named s sc before NameIsGlobal p q h = ⊎_elim (of_kind parameter tt) (of_kind stitch_name tt) h.0
broken-named s sc before TempIsParameter p q h = of_kind temp tt h.0
broken-named s sc before TempIsLabel p q h = of_kind temp tt h.0
broken-named s sc before ParameterUnmarked p q h = of-target h.0
broken-named s sc before ParameterAlreadyMarked p q h = of_kind argument tt h.0
broken-named s sc before GatherRepeated p q h = of_kind gather tt h.0
broken-named s sc before ChoiceUndiverted p q h = absurd (p refl)
broken-named s sc before FunctionWithStitches p q h = of_kind flow_start tt h.0
broken-named s sc before FunctionWithChoice p q h = absurd (q refl)
broken-named s sc before FunctionWithDivert p q h = of_kind divert tt h.0
broken-named s sc before VariableForbidden p q h = of_kind variable tt h.0

-- a record neither plain nor a choice is not nameless
not-nameless : (sort : Kind) (payload : List ℕ) → (code plain ≡ code sort → ⊥) → (code choice ≡ code sort → ⊥) → nameless sort payload ≡ false
unfolding nameless
not-nameless sort payload p q =
    rw (is_false (eqb (code sort) 0) (λ t. p (sym (eqb→eq (code sort) 0 t))), is_false (eqb (code sort) 8) (λ t. q (sym (eqb→eq (code sort) 8 t))))

-- 2. What a step visits

module _ (file : List ℕ) (readable : Readable file) where
  -- globals, names of flows and stitches, their parameters, labels: the file has each at its place
  pub owned-in-file : (m : Name) → m ∈ own_names (story_of file) → name_at file m.at ≡ m.bytes
  owned-in-file m i =
      let c = readable.sections in
      sym ((story-own c file (reader.readable file c refl readable.told)).as-file m (rw (story-told file c readable.told) at i))

  -- those of a flow
  of-flow-in-file : {f : Flow} → f ∈ (story_of file).flows → {m : Name} → m ∈ flow_names f → name_at file m.at ≡ m.bytes
  of-flow-in-file i {m} j = owned-in-file m (Memᴰ.append_right ((story_of file).globals ++ label_names (story_of file).root) (in-each flow_names i j))

  -- the name of a flow
  pub flow-in-file : {f : Flow} → f ∈ (story_of file).flows → name_at file f.name.at ≡ f.name.bytes
  flow-in-file i = of-flow-in-file i (Memᴰ.head refl)

  -- the name of an item of a body
  body-in-file : {items : List Item} → BodyOf (story_of file) items → (i : Item) → i ∈ items → WithName i.what → name_at file i.named ≡ i.what.name
  unfolding item_of item_as what_of
  body-in-file {items} b i m h =
      let w = file-bodies file readable items b in
      let o = Memᴰ.of_map item_of (met w.at (nodes w.bytes)) (rw w.all at m) in
      let r = o.0 in
      let has : WithName (item_of r).what = rw (← o.2) at h in
      rw (← o.2) (sym (record-as-file w.lies w.good r o.1 (not-nameless (sort_of r.role r.kind r.payload) r.payload has.not_plain has.not-choice)).name)

  -- in a stitch
  in-stitch : {f : Flow} {t : Stitch} → f ∈ (story_of file).flows → t ∈ f.stitches → {begin n : ℕ} {u : Run} → RanInStitch f t begin n u
      → (i : Item) → i ∈ u.items → WithName i.what → name_at file i.named ≡ i.what.name
  in-stitch {f} m k ran_name i j h =
      rw (Memᴰ.eq_of_singleton j)
      (of-flow-in-file m (Memᴰ.tail (Memᴰ.append_right (f.params ++ label_names f.body) (in-each stitch_names k (Memᴰ.head refl)))))
  in-stitch m k (ran_stitch_body _) i j h = body-in-file (of_stitch m k) i j h

  -- in a flow
  in-flow : {f : Flow} → f ∈ (story_of file).flows → {begin n : ℕ} {u : Run} → RanInFlow f begin n u
      → (i : Item) → i ∈ u.items → WithName i.what → name_at file i.named ≡ i.what.name
  in-flow m (ran_purity t) i j h = ⊎_elim (λ e. rw e (flow-in-file m)) (λ n. body-in-file (of_flow m) i n h) (Memᴰ.cases_cons j)
  in-flow m (ran_no_purity t) i j h = absurd (Memᴰ.not-nil j)
  in-flow {f} m ran_params i j h =
      let o = Memᴰ.of_map (λ (n : Name). name_item parameter n.at n) f.params j in
      rw (← o.2)
      (of-flow-in-file m (Memᴰ.tail (Memᴰ.append_left (each stitch_names f.stitches) (Memᴰ.append_left (label_names f.body) o.1))))
  in-flow m (ran_flow_body _) i j h = body-in-file (of_flow m) i j h
  in-flow m (ran_stitch before t after e r) i j h = in-stitch m (in_split before t after e) r i j h
  in-flow m ran_flow_gathers i j h = body-in-file (of_flow m) i j h

  -- in a step as run
  visited-in-file : {n : ℕ} {u : Run} → Ran (story_of file) n u → (i : Item) → i ∈ u.items → WithName i.what → name_at file i.named ≡ i.what.name
  visited-in-file (ran_root _) i j h = body-in-file of_root i j h
  visited-in-file (ran_flow before f after e r) i j h = in-flow (in_split before f after e) r i j h
  visited-in-file ran_root_gathers i j h = body-in-file of_root i j h

-- 3. The function at hand

-- rules 12, 13 or 14 are bracketed at the step
abbrev purity : Step → Bool
purity st = any (λ (k : ℕ). ltb 11 k && ltb k 15) (bracketed st)

-- the step runs for a function of the story
pub record ForFunction (s : Story) (u : Run) : Type 0 where
  pub function : Flow
  pub in-story : function ∈ s.flows
  pub is-function : T function.function
  pub at-hand : u.scope ≡ knot function

-- no step of a stitch has rules 12 to 14
no-stitch-purity : {f : Flow} {t : Stitch} {begin n : ℕ} {u : Run} → RanInStitch f t begin n u → T (purity u.step) → ⊥
no-stitch-purity ran_name p = p
no-stitch-purity (ran_stitch_body m) p = any-in purity m p

-- of a flow, only the step of a function that visits something
flow-purity : {s : Story} {f : Flow} → f ∈ s.flows → {begin n : ℕ} {u : Run} → RanInFlow f begin n u → T (purity u.step) → {i : Item} → i ∈ u.items → ForFunction s u
flow-purity {f = f} m (ran_purity t) p j = record { function = f; in-story = m; is-function = t; at-hand = refl }
flow-purity m (ran_no_purity t) p j = absurd (Memᴰ.not-nil j)
flow-purity m ran_params p j = absurd p
flow-purity m (ran_flow_body k) p j = absurd (any-in purity k p)
flow-purity m (ran_stitch before t after e r) p j = absurd (no-stitch-purity r p)
flow-purity m ran_flow_gathers p j = absurd p

-- a step that has rules 12 to 14 and visits something runs for a function
step-purity : (s : Story) {n : ℕ} {u : Run} → Ran s n u → T (purity u.step) → {i : Item} → i ∈ u.items → ForFunction s u
step-purity s (ran_root k) p j = absurd (any-in purity k p)
step-purity s (ran_flow before f after e r) p j = flow-purity (in_split before f after e) r p j
step-purity s ran_root_gathers p j = absurd p

-- 4. A breach

module _ (file : List ℕ) (readable : Readable file) (b : Breach) (s : Stands (story_of file) b) where
  -- the item is visited
  visited : s.item ∈ s.step.items
  visited = in_split s.earlier s.item s.after s.visits_it

  -- at the place of the item's name the file has the name
  pub names-in-file : WithName s.item.what → name_at file s.item.named ≡ s.item.what.name
  names-in-file h = visited-in-file file readable s.runs_it s.item visited h

  -- that which broke the rule
  own-in-file : (number s.rule ≡ 11 → ⊥) → (number s.rule ≡ 13 → ⊥) → name_at file s.item.named ≡ s.item.what.name
  own-in-file p q = names-in-file (broken-named (story_of file) s.step.scope (whats s.earlier) s.rule p q s.is_broken)

  -- rules 12, 13 and 14: the step runs for a function
  for-function : 11 < number s.rule → number s.rule < 15 → ForFunction (story_of file) s.step
  for-function p q =
      step-purity (story_of file) s.runs_it
      (any-in (λ (k : ℕ). ltb 11 k && ltb k 15) s.of_step (and_both (ltb 11 (number s.rule)) (ltb (number s.rule) 15) (lt→ltb 11 (number s.rule) p) (lt→ltb (number s.rule) 15 q)))
      visited

-- the file has at the place the name of the function that the step runs for
pub record FunctionAt (file : List ℕ) (u : Run) (place : ℕ) : Type 0 where
  pub at-hand : ForFunction (story_of file) u
  pub name : name_at file place ≡ at-hand.function.name.bytes

-- A NAME IS GIVEN AS THE PLACE OF ITS COUNT BYTE, that of the offending name, and the numbers are in the text's order
pub record NamesStand (file : List ℕ) (b : Breach) (s : Stands (story_of file) b) : Type 0 where
  -- 14 has function and target
  pub both : number s.rule ≡ 14 → FunctionAt file s.step b.names.0 × (name_at file b.names.1 ≡ s.item.what.name)
  -- 12 and 13 have the function
  pub the_function : (11 < number s.rule) × (number s.rule < 14) → FunctionAt file s.step b.names.0
  -- 1 to 10 and 15 have the name that broke the rule
  pub the_own : (number s.rule < 11) ⊎ (number s.rule ≡ 15) → name_at file b.names.0 ≡ s.item.what.name

-- so of every breach that stands in a readable file
pub names_stand : (file : List ℕ) → Readable file → (b : Breach) → (s : Stands (story_of file) b) → NamesStand file b s
names_stand file readable b s = record {
  both = λ e. rw (s.the_names.both e) (function (for-function file readable b s (omega arith) (omega arith)), own-in-file file readable b s (λ p. omega arith) (λ p. omega arith));
  the_function = λ e. rw (s.the_names.the_function e) (function (for-function file readable b s e.0 (omega arith)));
  the_own = λ e. rw (s.the_names.the_own e)
      (own-in-file file readable b s (λ p. ⊎_elim (λ h. omega arith) (λ h. omega arith) e) (λ p. ⊎_elim (λ h. omega arith) (λ h. omega arith) e));
}
  where
    function : ForFunction (story_of file) s.step → FunctionAt file s.step (flow_named s.step.scope)
    function f = record { at-hand = f; name = rw f.at-hand (flow-in-file file readable f.in-story) }

-- and of the verdict's, from which the text is made
pub verdict-names : (file : List ℕ) → Readable file → (b : Breach) → verdict (story_of file) ≡ some b → (s : Stands (story_of file) b) × NamesStand file b s
verdict-names file readable b e =
    let s = (file-least supplied file readable).found b e in (s, names_stand file readable b s)
