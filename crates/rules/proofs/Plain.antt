-- Plain items change nothing that the rules find: a story with fewer of them has like breaches, in order. Assumes nothing.
use mathlib.Core.Path.{◌≡◌, refl, sym, ◌∙◌, ap, ap₂, subst}
use mathlib.Core.Bool.{Bool, true, false, ◌&&◌, ◌||◌, or-false}
use mathlib.Core.List.{List, [], ◌∷◌, ◌++◌}
use Prim.Native.Nat.{ℕ, suc}
use Rattle.names.specs.Words.{Bytes, same, any, only, each}
use Rattle.names.proofs.Any.{any_append}
use Rattle.records.specs.declared.sorts.Sort.{Sort as Kind}
use Rattle.records.specs.declared.sorts.Sort.TheVariants.{Plain as plain, Temp as temp, Gather as gather, Parameter as parameter, StitchName as stitch_name, FlowStart as flow_start}
use Rattle.records.specs.Items.{What, is, Item}
use Rattle.story.specs.Story.{Name, Stitch, Flow, Story, whats}
use Rattle.story.specs.Plain.{without_plain, Unlabelled, UnlabelledStory}
use Rattle.story.specs.Fewer.{Aligned, end, next, Matching, same_places, LikeName, LikeItem, IsPlain, Fewer, none, kept, left, FewerStitch, FewerFlow, FewerStory}
use Rattle.story.proofs.Plain.{aligned-append, aligned-only, aligned-each, aligned-paths, aligned-words, not-plain-fewer, without-plain-fewer}
use Rattle.searches.specs.Called.{is_flow, is_function}
use Rattle.items.specs.Search.{label_in, temp_in, gather_among}
use Rattle.symbols.specs.Numbers.{absent}
use Rattle.symbols.proofs.Plain.{same-spellings, entries-plain, spellings-plain}
use Rattle.rules.specs.declared.Rule.{Rule}
use Rattle.rules.specs.declared.Rule.TheVariants.{FunctionDivertedTo, TargetNotFound, FlowCalled, NameIsFunction, NameIsGlobal, TempIsParameter, TempIsLabel, ParameterUnmarked, ParameterAlreadyMarked, GatherRepeated, ChoiceUndiverted, FunctionWithStitches, FunctionWithChoice, FunctionWithDivert, VariableForbidden}
use Rattle.rules.specs.Rules.{Known, Here, broken, known, Scope, root, knot, stitch, knot_label, here}
use Rattle.rules.specs.Steps.{Step, s5, s6, s12, s19, s20, bracket, Run, over, name_item, param_items, stitch_items, purity_items, root_steps, flow_steps, stitch_steps, stitch_runs, flow_runs, runs, Numbered, numbered, Breach, names_of, flow_named, visits, breach, breaks, in_visit, in_run, breaches, first, verdict}
use Rattle.rules.specs.Sorts.{BodyOf, of_root, of_flow, of_stitch}
use Rattle.rules.specs.Plain.{LikeBreach, PlainChangeNothing}
use Rattle.rules.proofs.Order.{same_known, same_here}

-- 1. Plain items

-- no rule is broken at a plain item
pub plain-breaks-none : (k : Known) (h : Here) (before : List What) (r : Rule) (w : What) → w.kind ≡ plain → broken k h before r w ≡ false
unfolding broken
plain-breaks-none k h before FunctionDivertedTo w e = rw e
plain-breaks-none k h before TargetNotFound w e = rw e
plain-breaks-none k h before FlowCalled w e = rw e
plain-breaks-none k h before NameIsFunction w e = rw e
plain-breaks-none k h before NameIsGlobal w e = rw e
plain-breaks-none k h before TempIsParameter w e = rw e
plain-breaks-none k h before TempIsLabel w e = rw e
plain-breaks-none k h before ParameterUnmarked w e = rw e
plain-breaks-none k h before ParameterAlreadyMarked w e = rw e
plain-breaks-none k h before GatherRepeated w e = rw e
plain-breaks-none k h before ChoiceUndiverted w e = rw e
plain-breaks-none k h before FunctionWithStitches w e = rw e
plain-breaks-none k h before FunctionWithChoice w e = rw e
plain-breaks-none k h before FunctionWithDivert w e = rw e
plain-breaks-none k h before VariableForbidden w e = rw e

-- the same gathers before: all that a rule asks of what stands before
abbrev pub SameGathers : List What → List What → Type 0
SameGathers a b = (n : Bytes) → gather_among a n ≡ gather_among b n

pub broken-after : (k : Known) (h : Here) (a b : List What) → SameGathers a b → (r : Rule) (w : What) → broken k h a r w ≡ broken k h b r w
unfolding broken
broken-after k h a b g FunctionDivertedTo w = refl
broken-after k h a b g TargetNotFound w = refl
broken-after k h a b g FlowCalled w = refl
broken-after k h a b g NameIsFunction w = refl
broken-after k h a b g NameIsGlobal w = refl
broken-after k h a b g TempIsParameter w = refl
broken-after k h a b g TempIsLabel w = refl
broken-after k h a b g ParameterUnmarked w = refl
broken-after k h a b g ParameterAlreadyMarked w = refl
broken-after k h a b g GatherRepeated w = ap (λ (x : Bool). is gather w && x) (g w.name)
broken-after k h a b g ChoiceUndiverted w = refl
broken-after k h a b g FunctionWithStitches w = refl
broken-after k h a b g FunctionWithChoice w = refl
broken-after k h a b g FunctionWithDivert w = refl
broken-after k h a b g VariableForbidden w = refl

gathers-after : (a b : List What) (w v : What) → w ≡ v → SameGathers a b → SameGathers (a ++ (w ∷ [])) (b ++ (v ∷ []))
gathers-after a b w v e g n =
    let p : What → Bool = λ x. is gather x && same n x.name in
    any_append p a (w ∷ []) ∙ ap₂ (λ (x : Bool) (y : What). x || any p (y ∷ [])) (g n) e ∙ sym (any_append p b (v ∷ []))

-- a plain item is none
gathers-plain : (a b : List What) (w : What) → w.kind ≡ plain → SameGathers a b → SameGathers (a ++ (w ∷ [])) b
gathers-plain a b w e g n =
    let p : What → Bool = λ x. is gather x && same n x.name in any_append p a (w ∷ []) ∙ rw e (or-false (any p a)) ∙ g n

-- 2. What the rules ask

any-aligned : {A : Type 0} {R : A → A → Type 0} (p q : A → Bool) → ((x y : A) → R x y → p x ≡ q y) → {xs ys : List A} → Aligned R xs ys → any p xs ≡ any q ys
any-aligned p q h end = refl
any-aligned p q h (next {x = x} {y = y} r a) = ap₂ ◌||◌ (h x y r) (any-aligned p q h a)

module _ {m : Matching} where
  -- a test that fails for plain items
  any-fewer : {a b : List Item} (p : What → Bool) → ((w : What) → IsPlain w → p w ≡ false) → Fewer m a b → any p (whats a) ≡ any p (whats b)
  any-fewer p q none = refl
  any-fewer p q (kept h f) = ap₂ (λ (w : What) (x : Bool). p w || x) h.what (any-fewer p q f)
  any-fewer p q (left {i = i} e f) = rw (q i.what e) (any-fewer p q f)

  pub label-fewer : {a b : List Item} (n : Bytes) → Fewer m a b → label_in a n ≡ label_in b n
  label-fewer n f = any-fewer (λ (w : What). w.labels && same n w.name) (λ w e. rw e.labels) f

  pub temp-fewer : {a b : List Item} (n : Bytes) → Fewer m a b → temp_in a n ≡ temp_in b n
  temp-fewer n f = any-fewer (λ (w : What). is temp w && same n w.name) (λ w e. rw e.kind) f

  pub known-fewer : (s t : Story) → FewerStory m s t → known s ≡ known t
  unfolding known
  known-fewer s t h = same_known (known s) (known t)
      (λ n. any-aligned (is_function n) (is_function n) (λ f g a. rw (a.function, a.name.bytes)) h.flows)
      (λ n. any-aligned (is_flow n) (is_flow n) (λ f g a. rw a.name.bytes) h.flows)
      (λ n. rw (aligned-words h.globals))
      (λ n. rw h.externals)
      (λ n. rw (same-spellings s t h))

  knot-labels : (f g : Flow) → FewerFlow m f g → (n : Bytes) → knot_label f n ≡ knot_label g n
  knot-labels f g h n =
      ap₂ ◌||◌ (label-fewer n h.body)
      (any-aligned (λ (t : Stitch). label_in t.body n) (λ (t : Stitch). label_in t.body n) (λ a b k. label-fewer n k.body) h.stitches)

  root-here : (s t : Story) → FewerStory m s t → here s root ≡ here t root
  unfolding here
  root-here s t h = same_here (here s root) (here t root) (λ n. refl) (λ n. refl) (λ n. label-fewer n h.root) (λ n. refl) refl

  module _ (s t : Story) (f g : Flow) (h : FewerFlow m f g) where
    knot-here : here s (knot f) ≡ here t (knot g)
    unfolding here
    knot-here = same_here (here s (knot f)) (here t (knot g)) (λ n. rw (aligned-words h.params)) (λ n. rw h.marks) (knot-labels f g h) (λ n. refl)
        (any-aligned (λ (x : Stitch). true) (λ (x : Stitch). true) (λ a b k. refl) h.stitches)

    stitch-here : (a b : Stitch) → FewerStitch m a b → here s (stitch f a) ≡ here t (stitch g b)
    unfolding here
    stitch-here a b k = same_here (here s (stitch f a)) (here t (stitch g b)) (λ n. rw (aligned-words k.params)) (λ n. rw k.marks) (knot-labels f g h)
        (λ n. rw (aligned-words h.params, temp-fewer n h.body, aligned-words k.params, temp-fewer n k.body)) refl

-- 3. The steps as run

-- the same step, asking the same, over fewer plain items
record LikeRun (m : Matching) (s t : Story) (u v : Run) : Type 0 where
  step : u.step ≡ v.step
  asks : here s u.scope ≡ here t v.scope
  flow : m.name (flow_named u.scope) (flow_named v.scope)
  items : Fewer m u.items v.items

module _ (m : Matching) (missing : m.name absent absent) where
  -- the names of a breach
  like-names : (r : Rule) (f g x y : ℕ) → m.name f g → m.name x y
      → m.name (names_of r f x).0 (names_of r g y).0 × m.name (names_of r f x).1 (names_of r g y).1
  like-names FunctionDivertedTo f g x y p q = (q, missing)
  like-names TargetNotFound f g x y p q = (q, missing)
  like-names FlowCalled f g x y p q = (q, missing)
  like-names NameIsFunction f g x y p q = (q, missing)
  like-names NameIsGlobal f g x y p q = (q, missing)
  like-names TempIsParameter f g x y p q = (q, missing)
  like-names TempIsLabel f g x y p q = (q, missing)
  like-names ParameterUnmarked f g x y p q = (q, missing)
  like-names ParameterAlreadyMarked f g x y p q = (q, missing)
  like-names GatherRepeated f g x y p q = (q, missing)
  like-names ChoiceUndiverted f g x y p q = (missing, missing)
  like-names FunctionWithStitches f g x y p q = (p, missing)
  like-names FunctionWithChoice f g x y p q = (p, missing)
  like-names FunctionWithDivert f g x y p q = (p, q)
  like-names VariableForbidden f g x y p q = (q, missing)

  module _ (s t : Story) (asked : known s ≡ known t) (n : ℕ) (u v : Run) (l : LikeRun m s t u v) where
    -- the two runs, of the same number
    abbrev one : Numbered Run
    one = record { no = n; it = u }

    abbrev other : Numbered Run
    other = record { no = n; it = v }

    -- at like items, after the same gathers
    like-visit : (i j : Item) → LikeItem m i j → (x y : List What) → SameGathers x y
        → Aligned (LikeBreach m) (in_visit s one (record { item = i; before = x })) (in_visit t other (record { item = j; before = y }))
    like-visit i j e x y g =
        subst (λ (st : Step). Aligned (LikeBreach m) (each found (bracket u.step)) (each also-found (bracket st))) l.step (by-rules (bracket u.step))
      where
        found : Rule → List Breach
        found r = only (breaks s u (record { item = i; before = x }) r) (breach one (record { item = i; before = x }) r)

        also-found : Rule → List Breach
        also-found r = only (breaks t v (record { item = j; before = y }) r) (breach other (record { item = j; before = y }) r)

        as-broken : (r : Rule) → breaks s u (record { item = i; before = x }) r ≡ breaks t v (record { item = j; before = y }) r
        as-broken r = broken-after (known s) (here s u.scope) x y g r i.what ∙ (λ k. broken (asked k) (l.asks k) y r (e.what k))

        by-rules : (rs : List Rule) → Aligned (LikeBreach m) (each found rs) (each also-found rs)
        by-rules [] = end
        by-rules (r ∷ rs) =
            let names = like-names r (flow_named u.scope) (flow_named v.scope) i.named j.named l.flow e.named in
            aligned-append
            (aligned-only (LikeBreach m) (breaks s u (record { item = i; before = x }) r) (breaks t v (record { item = j; before = y }) r) (as-broken r)
            (record { instance = refl; rule = refl; place = e.place; first = names.0; second = names.1 }))
            (by-rules rs)

    -- nothing at a plain item
    no-visit : (i : Item) → i.what.kind ≡ plain → (x : List What) → in_visit s one (record { item = i; before = x }) ≡ []
    no-visit i e x = by-rules (bracket u.step)
      where
        by-rules : (rs : List Rule) → each (λ (r : Rule). only (breaks s u (record { item = i; before = x }) r) (breach one (record { item = i; before = x }) r)) rs ≡ []
        by-rules [] = refl
        by-rules (r ∷ rs) = rw (plain-breaks-none (known s) (here s u.scope) x r i.what e) (by-rules rs)

    like-visits : {a b : List Item} → Fewer m a b → (x y : List What) → SameGathers x y
        → Aligned (LikeBreach m) (each (in_visit s one) (visits x a)) (each (in_visit t other) (visits y b))
    like-visits none x y g = end
    like-visits (kept {i = i} {j = j} e f) x y g =
        aligned-append (like-visit i j e x y g) (like-visits f (x ++ (i.what ∷ [])) (y ++ (j.what ∷ [])) (gathers-after x y i.what j.what e.what g))
    like-visits (left {i = i} e f) x y g =
        rw (no-visit i e.kind x) (like-visits f (x ++ (i.what ∷ [])) y (gathers-plain x y i.what e.kind g))

    like-run : Aligned (LikeBreach m) (in_run s one) (in_run t other)
    like-run = like-visits l.items [] [] (λ n. refl)

  like-numbered : (s t : Story) → known s ≡ known t → (n : ℕ) {us vs : List Run} → Aligned (LikeRun m s t) us vs
      → Aligned (LikeBreach m) (each (in_run s) (numbered n us)) (each (in_run t) (numbered n vs))
  like-numbered s t e n end = end
  like-numbered s t e n (next {x = u} {y = v} l rest) = aligned-append (like-run s t e n u v l) (like-numbered s t e (suc n) rest)

  -- 4. The steps of stitches, flows and the root

  like-over : (s t : Story) (x y : Scope) (a b : List Item) → here s x ≡ here t y → m.name (flow_named x) (flow_named y) → Fewer m a b
      → (steps : List Step) → Aligned (LikeRun m s t) (over x a steps) (over y b steps)
  unfolding over
  like-over s t x y a b p q f [] = end
  like-over s t x y a b p q f (st ∷ steps) = next (record { step = refl; asks = p; flow = q; items = f }) (like-over s t x y a b p q f steps)

  -- a name as an item
  like-item : (k : Kind) (x y : ℕ) (a b : Name) → m.item x y → LikeName m a b → LikeItem m (name_item k x a) (name_item k y b)
  like-item k x y a b p h = record {
    place = p;
    named = h.at;
    what = λ i. record { kind = k; name = h.bytes i; labels = false; branch = false; leaves = false };
  }

  -- a name visited at its own place
  like-visited : (k : Kind) (a b : Name) → LikeName m a b → LikeItem m (name_item k a.at a) (name_item k b.at b)
  like-visited k a b h = like-item k a.at b.at a b (m.visited a.at b.at h.at) h

  like-params : {a b : List Name} → Aligned (LikeName m) a b → Fewer m (param_items a) (param_items b)
  like-params end = none
  like-params (next {x = x} {y = y} h rest) = kept (like-visited parameter x y h) (like-params rest)

  like-title : (a b : Stitch) → FewerStitch m a b → Fewer m (stitch_items a) (stitch_items b)
  like-title a b h = kept (like-visited stitch_name a.name b.name h.name) none

  like-purity : (f g : Flow) → FewerFlow m f g → Fewer m (purity_items f.function f) (purity_items g.function g)
  like-purity f g h = subst (λ (i : Bool). Fewer m (purity_items f.function f) (purity_items i g)) h.function (by_flag f.function)
    where
      by_flag : (i : Bool) → Fewer m (purity_items i f) (purity_items i g)
      by_flag true = kept (like-item flow_start f.at g.at f.name g.name h.at h.name) h.body
      by_flag false = none

  module _ (s t : Story) where
    like-stitch : (f g : Flow) → FewerFlow m f g → (a b : Stitch) → FewerStitch m a b → Aligned (LikeRun m s t) (stitch_runs f a) (stitch_runs g b)
    unfolding stitch_runs
    like-stitch f g h a b k =
        let asks = stitch-here s t f g h a b k in
        aligned-append (like-over s t (stitch f a) (stitch g b) (stitch_items a) (stitch_items b) asks h.name.at (like-title a b k) (s12 ∷ []))
        (like-over s t (stitch f a) (stitch g b) a.body b.body asks h.name.at k.body stitch_steps)

    like-flow : (f g : Flow) → FewerFlow m f g → Aligned (LikeRun m s t) (flow_runs f) (flow_runs g)
    unfolding flow_runs
    like-flow f g h =
        let asks = knot-here s t f g h in
        let pure = like-over s t (knot f) (knot g) (purity_items f.function f) (purity_items g.function g) asks h.name.at (like-purity f g h) (s5 ∷ []) in
        let params = like-over s t (knot f) (knot g) (param_items f.params) (param_items g.params) asks h.name.at (like-params h.params) (s6 ∷ []) in
        let body = like-over s t (knot f) (knot g) f.body g.body asks h.name.at h.body flow_steps in
        let inner = aligned-each (stitch_runs f) (stitch_runs g) (like-stitch f g h) h.stitches in
        let last = like-over s t (knot f) (knot g) f.body g.body asks h.name.at h.body (s19 ∷ []) in
        aligned-append (aligned-append (aligned-append (aligned-append pure params) body) inner) last

    like-runs : FewerStory m s t → Aligned (LikeRun m s t) (runs s) (runs t)
    unfolding runs
    like-runs h =
        let asks = root-here s t h in
        aligned-append (aligned-append (like-over s t root root s.root t.root asks missing h.root root_steps) (aligned-each flow_runs flow_runs like-flow h.flows))
        (like-over s t root root s.root t.root asks missing h.root (s20 ∷ []))

    -- FEWER PLAIN ITEMS: like breaches, in order
    pub like-breaches : FewerStory m s t → Aligned (LikeBreach m) (breaches s) (breaches t)
    unfolding breaches
    like-breaches h = like-numbered s t (known-fewer s t h) 0 (like-runs h)

-- 5. Without plain items

equal-breach : (b c : Breach) → LikeBreach same_places b c → b ≡ c
equal-breach b c h = λ i. record { instance = h.instance i; rule = h.rule i; place = h.place i; names = (h.first i, h.second i) }

-- no plain item of a body bears a label
body-unlabelled : (s : Story) → UnlabelledStory s → {l : List Item} → BodyOf s l → Unlabelled l
body-unlabelled s h of_root = h.root
body-unlabelled s h (of_flow {f} m) = (h.flows f m).body
body-unlabelled s h (of_stitch {f} {t} m q) = (h.flows f m).stitches t q

pub known-plain : (s : Story) → UnlabelledStory s → known (without_plain s) ≡ known s
known-plain s h = sym (known-fewer s (without_plain s) (without-plain-fewer s h))

pub breaches-plain : (s : Story) → UnlabelledStory s → breaches (without_plain s) ≡ breaches s
breaches-plain s h = sym (aligned-paths equal-breach (like-breaches same_places refl s (without_plain s) (without-plain-fewer s h)))

pub verdict-plain : (s : Story) → UnlabelledStory s → verdict (without_plain s) ≡ verdict s
unfolding verdict
verdict-plain s h = ap first (breaches-plain s h)

pub plain-change-nothing : (s : Story) → UnlabelledStory s → PlainChangeNothing s
plain-change-nothing s h = record {
  labels = λ l m n. sym (label-fewer n (not-plain-fewer l (body-unlabelled s h m)));
  temps = λ l m n. sym (temp-fewer n (not-plain-fewer l (body-unlabelled s h m)));
  entries = entries-plain s h;
  spellings = spellings-plain s h;
  known = known-plain s h;
  breaches = breaches-plain s h;
  verdict = verdict-plain s h;
}
