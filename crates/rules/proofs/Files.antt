-- Demand 3 for files, from what a reader supplies: its verdicts, its order law, and that no breach is listed twice. Assumes nothing.
use mathlib.Core.Path.{◌≡◌, refl, sym, ◌∙◌, ap, ap₂, subst, subst₂}
use mathlib.Core.List.{List, [], ◌∷◌, ◌++◌, map, map-append, nil≢cons}
use mathlib.Core.Logic.{◌↔◌}
use mathlib.Core.Option.{none}
use Prim.Native.Nat.{ℕ}
use Rattle.names.specs.Words.{Sorted}
use Rattle.story.specs.Story.{Stitch, Flow, Story}
use Rattle.rules.specs.Steps.{Breach, breaches, verdict}
use Rattle.rules.specs.Alike.{EquallyOften, Paired, AlikeStitch, AlikeFlow, Alike}
use Rattle.rules.specs.Files.{FlowBytes, FileBytes, AlikeFlowBytes, AlikeFiles, UnplacedStitch, UnplacedFlow, UnplacedStory, unplaced_stitch, unplaced_flow, unplaced, Reading, flow_read, file_read, Supplied}
use Rattle.rules.proofs.Paired.{paired-weaken}
use Rattle.rules.proofs.Placed.{ordered}
use Rattle.rules.proofs.Least.{Least, once}
use Rattle.rules.proofs.Demand.{demand3}

-- 1. Paired lists and maps

-- a list that maps to a list with y in it has itself something there
record Split {A B : Type 0} (f : A → B) (xs : List A) (before : List B) (y : B) (after : List B) : Type 0 where
  b : List A
  x : A
  a : List A
  parts : xs ≡ b ++ (x ∷ a)
  to-before : map f b ≡ before
  to-y : f x ≡ y
  to-after : map f a ≡ after

map-split : {A B : Type 0} (f : A → B) (xs : List A) (before : List B) (y : B) (after : List B) → map f xs ≡ before ++ (y ∷ after) → Split f xs before y after
map-split f [] [] y after e = absurd (nil≢cons e)
map-split f [] (z ∷ before) y after e = absurd (nil≢cons e)
map-split f (x ∷ xs) [] y after e = record { b = []; x = x; a = xs; parts = refl; to-before = refl; to-y = cc; to-after = cc }
map-split f (x ∷ xs) (z ∷ before) y after e = more (map-split f xs before y after (cc)) (cc)
  where
    more : Split f xs before y after → f x ≡ z → Split f (x ∷ xs) (z ∷ before) y after
    more r h = record {
      b = x ∷ r.b;
      x = r.x;
      a = r.a;
      parts = ap (λ l. x ∷ l) r.parts;
      to-before = ap₂ ◌∷◌ h r.to-before;
      to-y = r.to-y;
      to-after = r.to-after;
    }

paired-unmap : {A B : Type 0} (R : B → B → Type 0) (f : A → B) (xs ys : List A) → Paired R (map f xs) (map f ys) → Paired (λ x y. R (f x) (f y)) xs ys
paired-unmap R f [] [] e = refl
paired-unmap R f [] (y ∷ ys) e = absurd (nil≢cons (sym e))
paired-unmap R f (x ∷ xs) ys w =
    let r = map-split f ys w.1 w.0 w.2 w.3 in (
      r.x,
      r.b,
      r.a,
      r.parts,
      subst (R (f x)) (sym r.to-y) w.4,
      paired-unmap R f xs (r.b ++ r.a) (subst (Paired R (map f xs)) (sym (map-append f r.b r.a ∙ ap₂ ◌++◌ r.to-before r.to-after)) w.5),
    )

paired-map : {A B : Type 0} (Q : A → A → Type 0) (R : B → B → Type 0) (f : A → B) → ((x y : A) → Q x y → R (f x) (f y)) → (xs ys : List A) → Paired Q xs ys → Paired R (map f xs) (map f ys)
paired-map Q R f h [] ys e = ap (map f) e
paired-map Q R f h (x ∷ xs) ys w = (
  f w.0,
  map f w.1,
  map f w.2,
  ap (map f) w.3 ∙ map-append f w.1 (w.0 ∷ w.2),
  h x w.0 w.4,
  subst (Paired R (map f xs)) (map-append f w.1 w.2) (paired-map Q R f h xs (w.1 ++ w.2) w.5),
)

-- 2. Alike, of stories without places

-- flows alike in all but the order of their stitches
record AlikeOwn (f g : UnplacedFlow) : Type 0 where
  function : f.function ≡ g.function
  own : f.own ≡ g.own
  stitches : Paired (λ (s t : UnplacedStitch). s ≡ t) f.stitches g.stitches

alike-stitch : (s t : Stitch) → unplaced_stitch s ≡ unplaced_stitch t → AlikeStitch (λ a b. a ≡ b) s t
unfolding unplaced_stitch
alike-stitch s t e = record {
  name = ap (λ (u : UnplacedStitch). u.name) e;
  params = ap (λ (u : UnplacedStitch). u.params) e;
  marks = ap (λ (u : UnplacedStitch). u.marks) e;
  body = ap (λ (u : UnplacedStitch). u.body) e;
}

alike-flow : (f g : Flow) → AlikeOwn (unplaced_flow f) (unplaced_flow g) → AlikeFlow (λ a b. a ≡ b) f g
unfolding unplaced_flow
alike-flow f g h = record {
  function = h.function;
  name = ap (λ (u : UnplacedStitch). u.name) h.own;
  params = ap (λ (u : UnplacedStitch). u.params) h.own;
  marks = ap (λ (u : UnplacedStitch). u.marks) h.own;
  body = ap (λ (u : UnplacedStitch). u.body) h.own;
  stitches = paired-weaken _ _ alike-stitch f.stitches g.stitches
      (paired-unmap (λ (s t : UnplacedStitch). s ≡ t) unplaced_stitch f.stitches g.stitches h.stitches);
}

-- 3. From alike bytes to alike stories
module _ (r : Reading) where
  read-flow : (f g : FlowBytes) → AlikeFlowBytes f g → AlikeOwn (flow_read r f) (flow_read r g)
  unfolding flow_read
  read-flow f g h = record {
    function = ap r.flag h.flag;
    own = λ i. record { name = r.name (h.name i); params = r.names (h.params i); marks = r.names (h.marks i); body = r.nodes (h.nodes i) };
    stitches = paired-map (λ (s t : List ℕ). s ≡ t) (λ (s t : UnplacedStitch). s ≡ t) r.stitch (λ s t e. ap r.stitch e) f.stitches g.stitches h.stitches;
  }

  alike_read : (a b : FileBytes) (s t : Story) → unplaced s ≡ file_read r a → unplaced t ≡ file_read r b → AlikeFiles a b → Alike s t
  unfolding unplaced file_read
  alike_read a b s t e f h = record {
    globals = subst₂ EquallyOften (sym (ap (λ (u : UnplacedStory). u.globals) e)) (sym (ap (λ (u : UnplacedStory). u.globals) f)) h.globals;
    externals = subst₂ EquallyOften (sym (ap (λ (u : UnplacedStory). u.externals) e)) (sym (ap (λ (u : UnplacedStory). u.externals) f)) h.externals;
    root = ap (λ (u : UnplacedStory). u.root) e ∙ ap r.nodes h.root ∙ sym (ap (λ (u : UnplacedStory). u.root) f);
    flows = paired-weaken _ _ alike-flow s.flows t.flows
        (paired-unmap AlikeOwn unplaced_flow s.flows t.flows
        (subst₂ (Paired AlikeOwn) (sym (ap (λ (u : UnplacedStory). u.flows) e)) (sym (ap (λ (u : UnplacedStory). u.flows) f))
        (paired-map AlikeFlowBytes AlikeOwn (flow_read r) read-flow a.flows b.flows h.flows)));
  }

-- 4. For readable files

module _ {readable : List ℕ → Type 0} {story_of : List ℕ → Story} {parts_of : List ℕ → FileBytes} {r : Reading} (h : Supplied readable story_of parts_of r) where
  pub file-least : (file : List ℕ) → readable file → Least (story_of file)
  file-least file i = demand3.verdicts (story_of file) (h.placed file i)

  pub file-alike : (a b : List ℕ) → readable a → readable b → AlikeFiles (parts_of a) (parts_of b) → Alike (story_of a) (story_of b)
  file-alike a b i j k = alike_read r (parts_of a) (parts_of b) (story_of a) (story_of b) (h.read a i) (h.read b j) k

  pub file-order : (a b : List ℕ) → readable a → readable b → AlikeFiles (parts_of a) (parts_of b) → (verdict (story_of a) ≡ none) ↔ (verdict (story_of b) ≡ none)
  file-order a b i j k = demand3.order (story_of a) (story_of b) (file-alike a b i j k)

  pub file-once : (file : List ℕ) → readable file → Sorted (λ (b c : Breach). b ≡ c → ⊥) (breaches (story_of file))
  file-once file i = once (story_of file) (ordered (story_of file) (h.placed file i))
