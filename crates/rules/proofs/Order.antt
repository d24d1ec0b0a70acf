-- Demand 3's order law: of two stories alike in all but order both are accepted or both are found in breach: `order-law`.
-- Every test on a story is an `any` over its lists, so alike stories have the same tests. Assumes nothing.
use mathlib.Core.Path.{◌≡◌, refl, sym, ◌∙◌, ap₂}
use mathlib.Core.Bool.{Bool, true, false, ◌||◌, and-true, true≢false}
use mathlib.Core.List.{List, [], ◌∷◌, ◌++◌, map}
use mathlib.Core.Logic.{◌↔◌}
use mathlib.Core.Option.{none, some-ne-none}
use Rattle.names.specs.Words.{Bytes, same, any, ends}
use Rattle.records.specs.declared.sorts.Sort.{Sort as Kind}
use Rattle.records.specs.declared.sorts.Sort.TheVariants.{Parameter as parameter, StitchName as stitch_name, FlowStart as flow_start}
use Rattle.records.specs.Items.{What, Item}
use Rattle.story.specs.Story.{Name, Stitch, Flow, Story, words, whats}
use Rattle.items.specs.Search.{label_in, temp_in}
use Rattle.rules.specs.Rules.{Known, Here, known, knot_label, Scope, root, knot, stitch, here}
use Rattle.rules.specs.Steps.{Visit, visits, Step, s5, s6, s12, s19, s20, bracket, root_steps, flow_steps, stitch_steps, Run, over, param_items, purity_items, stitch_runs, flow_runs, runs, Breach, breaks, breaches, first, verdict}
use Rattle.rules.specs.Alike.{AlikeStitch, AlikeFlow, Alike, Shuffled, AlikeShuffled}
use Rattle.names.proofs.Any.{any_append, any-only, any-each, any_same}
use Rattle.rules.proofs.Paired.{paired-eq, paired-weaken, any-numbered, any-paired, any-often}
use Rattle.rules.proofs.Shuffle.{step_finds, step-shuffled}
use Rattle.rules.proofs.Spellings.{any-shuffled, alike-spellings}

-- 1. WHAT THE RULES ASK: alike stories have the same names, and so have alike flows and stitches

pub same_known : (k l : Known) → ((n : Bytes) → k.function n ≡ l.function n) → ((n : Bytes) → k.flow n ≡ l.flow n)
    → ((n : Bytes) → k.global n ≡ l.global n) → ((n : Bytes) → k.external n ≡ l.external n) → ((n : Bytes) → k.target n ≡ l.target n) → k ≡ l
same_known k l a b c d e = λ i. record {
  function = λ n. a n i;
  flow = λ n. b n i;
  global = λ n. c n i;
  external = λ n. d n i;
  target = λ n. e n i;
}

alike-known : (s t : Story) → AlikeShuffled s t → known s ≡ known t
unfolding known
alike-known s t h = same_known (known s) (known t)
    (λ n. any-paired (AlikeFlow Shuffled) _ _ (λ f g a. cc) s.flows t.flows h.flows)
    (λ n. any-paired (AlikeFlow Shuffled) _ _ (λ f g a. cc) s.flows t.flows h.flows)
    (λ n. any-often (same n) (words s.globals) (words t.globals) h.globals)
    (λ n. any-often (same n) (words s.externals) (words t.externals) h.externals)
    (λ n. rw (alike-spellings (same n) s t h, alike-spellings (ends (46 ∷ n)) s t h))

pub same_here : (h k : Here) → ((n : Bytes) → h.param n ≡ k.param n) → ((n : Bytes) → h.mark n ≡ k.mark n)
    → ((n : Bytes) → h.label n ≡ k.label n) → ((n : Bytes) → h.forbidden n ≡ k.forbidden n) → h.stitched ≡ k.stitched → h ≡ k
same_here h k a b c d e = λ i. record {
  param = λ n. a n i;
  mark = λ n. b n i;
  label = λ n. c n i;
  forbidden = λ n. d n i;
  stitched = e i;
}

label-in : (n : Bytes) (a b : List Item) → Shuffled (whats a) (whats b) → label_in a n ≡ label_in b n
label-in n a b h = any-shuffled _ (whats a) (whats b) h

temp-in : (n : Bytes) (a b : List Item) → Shuffled (whats a) (whats b) → temp_in a n ≡ temp_in b n
temp-in n a b h = any-shuffled _ (whats a) (whats b) h

alike-root : (s t : Story) → AlikeShuffled s t → here s root ≡ here t root
unfolding here
alike-root s t h = same_here (here s root) (here t root) (λ n. refl) (λ n. refl) (λ n. label-in n s.root t.root h.root) (λ n. refl) refl

alike-labels : (f g : Flow) → AlikeFlow Shuffled f g → (n : Bytes) → knot_label f n ≡ knot_label g n
alike-labels f g h n =
    let e = any-paired (AlikeStitch Shuffled) (λ t. label_in t.body n) (λ t. label_in t.body n) (λ a b i. label-in n a.body b.body i.body)
    f.stitches g.stitches h.stitches in
    rw (label-in n f.body g.body h.body, e)

module _ (s t : Story) (f g : Flow) (h : AlikeFlow Shuffled f g) where
  alike-flow : here s (knot f) ≡ here t (knot g)
  unfolding here
  alike-flow = same_here (here s (knot f)) (here t (knot g)) (λ n. rw h.params) (λ n. rw h.marks) (alike-labels f g h) (λ n. refl)
      (any-paired (AlikeStitch Shuffled) (λ (x : Stitch). true) (λ (x : Stitch). true) (λ a b i. refl) f.stitches g.stitches h.stitches)

  alike-stitch : (a b : Stitch) → AlikeStitch Shuffled a b → here s (stitch f a) ≡ here t (stitch g b)
  unfolding here
  alike-stitch a b i = same_here (here s (stitch f a)) (here t (stitch g b)) (λ n. rw i.params) (λ n. rw i.marks) (alike-labels f g h)
      (λ n. rw (h.params, temp-in n f.body g.body h.body, i.params, temp-in n a.body b.body i.body)) refl

-- 2. WHAT THE STEPS FIND: by what they visit, without places

-- one of the steps finds a breach
steps_find : Known → Here → List What → List Step → Bool
steps_find k h ws sts = any (λ (st : Step). step_finds k h st [] ws) sts

steps-shuffled : (k : Known) (h : Here) (a b : List What) (sts : List Step) → Shuffled a b → steps_find k h a sts ≡ steps_find k h b sts
unfolding steps_find
steps-shuffled k h a b sts e = any_same _ _ (λ st. step-shuffled k h st a b e) sts

in_breach : Story → Run → Bool
in_breach s u = any (λ (v : Visit). any (breaks s u v) (bracket u.step)) (visits [] u.items)

visits-find : (s : Story) (sc : Scope) (st : Step) (all : List Item) (before : List What) (items : List Item)
    → any (λ (v : Visit). any (breaks s (record { step = st; scope = sc; items = all }) v) (bracket st)) (visits before items)
    ≡ step_finds (known s) (here s sc) st before (whats items)
unfolding step_finds
visits-find s sc st all before [] = refl
visits-find s sc st all before (i ∷ is) = rw (visits-find s sc st all (before ++ (i.what ∷ [])) is)

runs-find : (s : Story) (sc : Scope) (items : List Item) (sts : List Step)
    → any (in_breach s) (over sc items sts) ≡ steps_find (known s) (here s sc) (whats items) sts
unfolding over in_breach steps_find
runs-find s sc items [] = refl
runs-find s sc items (st ∷ sts) = ap₂ ◌||◌ (visits-find s sc st items [] items) (runs-find s sc items sts)

name_whats : Kind → List Bytes → List What
name_whats k l = map (λ (n : Bytes). record { kind = k; name = n; labels = false; branch = false; leaves = false }) l

params-whats : (l : List Name) → whats (param_items l) ≡ name_whats parameter (words l)
unfolding name_whats
params-whats [] = refl
params-whats (n ∷ ns) = rw (params-whats ns)

purity_whats : Bool → Bytes → List What → List What
purity_whats true n body = name_whats flow_start (n ∷ []) ++ body
purity_whats false n body = []

purity-whats : (b : Bool) (f : Flow) → whats (purity_items b f) ≡ purity_whats b f.name.bytes (whats f.body)
unfolding purity_whats name_whats
purity-whats true f = refl
purity-whats false f = refl

purity-shuffled : (t : Bool) (n : Bytes) (a b : List What) → Shuffled a b → Shuffled (purity_whats t n a) (purity_whats t n b)
unfolding purity_whats name_whats
purity-shuffled true n a b h = (_, [], b, refl, refl, h)
purity-shuffled false n a b h = refl

stitch_finds : Known → Here → Bytes → List What → Bool
stitch_finds k h name body = steps_find k h (name_whats stitch_name (name ∷ [])) (s12 ∷ []) || steps_find k h body stitch_steps

stitch-finds : (s : Story) (f : Flow) (t : Stitch)
    → any (in_breach s) (stitch_runs f t) ≡ stitch_finds (known s) (here s (stitch f t)) t.name.bytes (whats t.body)
unfolding stitch_runs stitch_finds name_whats
stitch-finds s f t = simp (any_append, runs-find)

flow_finds : Known → Here → Bool → Bytes → List Bytes → List What → Bool → Bool
flow_finds k h function name params body stitches =
    (((steps_find k h (purity_whats function name body) (s5 ∷ [])
    || steps_find k h (name_whats parameter params) (s6 ∷ []))
    || steps_find k h body flow_steps)
    || stitches)
    || steps_find k h body (s19 ∷ [])

flow-finds : (s : Story) (f : Flow)
    → any (in_breach s) (flow_runs f)
    ≡ flow_finds (known s) (here s (knot f)) f.function f.name.bytes (words f.params) (whats f.body)
    (any (λ (t : Stitch). any (in_breach s) (stitch_runs f t)) f.stitches)
unfolding flow_runs flow_finds
flow-finds s f = simp (any_append, any-each, runs-find, params-whats, purity-whats)

module _ (s t : Story) (h : AlikeShuffled s t) where
  find-stitch : (f g : Flow) → AlikeFlow Shuffled f g → (a b : Stitch) → AlikeStitch Shuffled a b → any (in_breach s) (stitch_runs f a) ≡ any (in_breach t) (stitch_runs g b)
  unfolding stitch_finds
  find-stitch f g e a b i =
      let l = steps-shuffled (known t) (here t (stitch g b)) (whats a.body) (whats b.body) stitch_steps i.body in
      cc (stitch-finds s f a, stitch-finds t g b, alike-stitch s t f g e a b i, alike-known s t h)

  find-flow : (f g : Flow) → AlikeFlow Shuffled f g → any (in_breach s) (flow_runs f) ≡ any (in_breach t) (flow_runs g)
  unfolding flow_finds
  find-flow f g e =
      let p = any-paired (AlikeStitch Shuffled) (λ a. any (in_breach s) (stitch_runs f a)) (λ a. any (in_breach t) (stitch_runs g a))
      (find-stitch f g e) f.stitches g.stitches e.stitches in
      let k = known t in
      let x = here t (knot g) in
      let l = steps-shuffled k x (purity_whats g.function g.name.bytes (whats f.body)) (purity_whats g.function g.name.bytes (whats g.body)) (s5 ∷ []) (purity-shuffled g.function g.name.bytes (whats f.body) (whats g.body) e.body) in
      let m = steps-shuffled k x (whats f.body) (whats g.body) flow_steps e.body in
      let n = steps-shuffled k x (whats f.body) (whats g.body) (s19 ∷ []) e.body in
      cc (flow-finds s f, flow-finds t g, alike-flow s t f g e, alike-known s t h)

  find-story : any (in_breach s) (runs s) ≡ any (in_breach t) (runs t)
  unfolding runs
  find-story =
      let p = any-paired (AlikeFlow Shuffled) (λ f. any (in_breach s) (flow_runs f)) (λ f. any (in_breach t) (flow_runs f)) find-flow s.flows t.flows h.flows in
      let m = steps-shuffled (known t) (here t root) (whats s.root) (whats t.root) root_steps h.root in
      let n = steps-shuffled (known t) (here t root) (whats s.root) (whats t.root) (s20 ∷ []) h.root in
      simp (any_append, any-each, runs-find) (cc (alike-root s t h, alike-known s t h))

-- 3. THE LAW

some-breach : (s : Story) → any (λ (b : Breach). true) (breaches s) ≡ any (in_breach s) (runs s)
unfolding breaches in_breach
some-breach s = simp (any-each, any-only, and-true) (any-numbered (in_breach s) 0 (runs s))

empty : (l : List Breach) → (first l ≡ none) ↔ (any (λ (b : Breach). true) l ≡ false)
empty [] = (λ e. refl, λ e. refl)
empty (x ∷ xs) = (λ e. absurd (some-ne-none x e), λ e. absurd (true≢false e))

-- in any order of the records of each body too
pub shuffle_law : (s t : Story) → AlikeShuffled s t → (verdict s ≡ none) ↔ (verdict t ≡ none)
unfolding verdict
shuffle_law s t h =
    let e : any (λ (b : Breach). true) (breaches s) ≡ any (λ (b : Breach). true) (breaches t) =
    some-breach s ∙ find-story s t h ∙ sym (some-breach t) in
    (λ n. (empty (breaches t)).1 (sym e ∙ (empty (breaches s)).0 n), λ n. (empty (breaches s)).1 (e ∙ (empty (breaches t)).0 n))

pub order-law : (s t : Story) → Alike s t → (verdict s ≡ none) ↔ (verdict t ≡ none)
order-law s t h = shuffle_law s t (record {
  globals = h.globals;
  externals = h.externals;
  root = paired-eq _ _ h.root;
  flows = paired-weaken _ _ (λ f g i. record {
    function = i.function;
    name = i.name;
    params = i.params;
    marks = i.marks;
    body = paired-eq _ _ i.body;
    stitches = paired-weaken _ _ (λ a b j. record {
      name = j.name;
      params = j.params;
      marks = j.marks;
      body = paired-eq _ _ j.body;
    }) f.stitches g.stitches i.stitches;
  }) s.flows t.flows h.flows;
})
