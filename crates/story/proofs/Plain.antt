-- Plain items bear no label in any story that is read, and a story without them is one with fewer plain items. Assumes nothing.
use Rattle.std.specs.Prelude.{Result, Ok, Err}
use Rattle.fields.specs.declared.Refusal.{Refusal}
use Rattle.story.specs.declared.Heading.{Heading}
use mathlib.Core.Path.{◌≡◌, refl, sym, ◌∙◌, ap, ap₂, subst}
use mathlib.Core.Bool.{Bool, true, false}
use mathlib.Core.List.Memᴰ
use mathlib.Core.List.{List, [], ◌∷◌, ◌++◌, map, map-id, Memᴰ}
use Prim.Native.Nat.{ℕ, ◌+◌}
use native.Mathlib.Omega.{arith}
use lib.Dec.{eqb}
use lib.ListN.{drop}
use Rattle.fields.specs.Bytes.{pick}
use Rattle.names.specs.Words.{only, each}
use Rattle.records.specs.Trace.{Record}
use Rattle.story.specs.declared.Sections.{Sections}
use Rattle.records.specs.declared.sorts.Sort.{Sort as Kind}
use Rattle.records.specs.declared.sorts.Sort.TheVariants.{Plain as plain, Temp as temp, Divert as divert, Tunnel as tunnel, Thread as thread, Call as call, Variable as variable, Argument as argument, Choice as choice, Gather as gather, Parameter as parameter, StitchName as stitch_name, FlowStart as flow_start}
use Rattle.records.specs.Items.{code, What, is, Item, labelled, what_of, item_as, item_of, items_in}
use Rattle.story.specs.Story.{Name, Stitch, Flow, Story, words}
use Rattle.story.specs.Headings.{heading_of}
use Rattle.story.specs.Flows.{part, titled_at, titled_in, stitch_in, title_end, flow_in, flows_in}
use Rattle.story.specs.File.{story_in}
use Rattle.story.specs.Plain.{not_plain, stitch_without_plain, flow_without_plain, without_plain, Unlabelled, UnlabelledFlow, UnlabelledStory}
use Rattle.story.specs.Fewer.{Aligned, end, next, Matching, same_places, LikeName, Fewer, none, kept, left, FewerStitch, FewerFlow, FewerStory}
use Rattle.story.proofs.Places.{item-of, piece_of}

-- 1. Lists that stand in a relation one by one

pub aligned-same : {A : Type 0} {R : A → A → Type 0} → ((x : A) → R x x) → (xs : List A) → Aligned R xs xs
aligned-same h [] = end
aligned-same h (x ∷ xs) = next (h x) (aligned-same h xs)

pub aligned-append : {A : Type 0} {R : A → A → Type 0} {a b c d : List A} → Aligned R a b → Aligned R c d → Aligned R (a ++ c) (b ++ d)
aligned-append end h = h
aligned-append (next r g) h = next r (aligned-append g h)

pub aligned-only : {A : Type 0} (R : A → A → Type 0) {x y : A} (s t : Bool) → s ≡ t → R x y → Aligned R (only s x) (only t y)
aligned-only R true true e r = next r end
aligned-only R false false e r = end
aligned-only R true false e r = let z : ◌≡◌ {A = ℕ} 0 1 = cc in absurd (omega arith)
aligned-only R false true e r = let z : ◌≡◌ {A = ℕ} 0 1 = cc in absurd (omega arith)

pub aligned-map : {A B : Type 0} {Q : A → A → Type 0} {R : B → B → Type 0} (f g : A → B) → ((x y : A) → Q x y → R (f x) (g y))
    → {xs ys : List A} → Aligned Q xs ys → Aligned R (map f xs) (map g ys)
aligned-map f g h end = end
aligned-map f g h (next {x = x} {y = y} q r) = next (h x y q) (aligned-map f g h r)

pub aligned-each : {A B : Type 0} {Q : A → A → Type 0} {R : B → B → Type 0} (f g : A → List B) → ((x y : A) → Q x y → Aligned R (f x) (g y))
    → {xs ys : List A} → Aligned Q xs ys → Aligned R (each f xs) (each g ys)
aligned-each f g h end = end
aligned-each f g h (next {x = x} {y = y} q r) = aligned-append (h x y q) (aligned-each f g h r)

pub aligned-equal : {A B : Type 0} {R : A → A → Type 0} (f g : A → B) → ((x y : A) → R x y → f x ≡ g y)
    → {xs ys : List A} → Aligned R xs ys → map f xs ≡ map g ys
aligned-equal f g h end = refl
aligned-equal f g h (next {x = x} {y = y} r a) = ap₂ ◌∷◌ (h x y r) (aligned-equal f g h a)

pub aligned-paths : {A : Type 0} {R : A → A → Type 0} → ((x y : A) → R x y → x ≡ y) → {xs ys : List A} → Aligned R xs ys → xs ≡ ys
aligned-paths h {xs} {ys} a = sym (map-id xs) ∙ aligned-equal (λ x. x) (λ x. x) h a ∙ map-id ys

pub aligned-words : {p : Matching} {l m : List Name} → Aligned (LikeName p) l m → words l ≡ words m
aligned-words h = aligned-equal (λ (n : Name). n.bytes) (λ (n : Name). n.bytes) (λ x y r. r.bytes) h

-- 2. A plain record has no label

pub plain-kind : (w : What) → is plain w ≡ true → w.kind ≡ plain
plain-kind w e = by_kind w.kind e
  where
    by_kind : (k : Kind) → eqb (code plain) (code k) ≡ true → k ≡ plain
    by_kind plain h = refl
    by_kind temp h = let z : ◌≡◌ {A = ℕ} 0 1 = cc in absurd (omega arith)
    by_kind divert h = let z : ◌≡◌ {A = ℕ} 0 1 = cc in absurd (omega arith)
    by_kind tunnel h = let z : ◌≡◌ {A = ℕ} 0 1 = cc in absurd (omega arith)
    by_kind thread h = let z : ◌≡◌ {A = ℕ} 0 1 = cc in absurd (omega arith)
    by_kind call h = let z : ◌≡◌ {A = ℕ} 0 1 = cc in absurd (omega arith)
    by_kind variable h = let z : ◌≡◌ {A = ℕ} 0 1 = cc in absurd (omega arith)
    by_kind argument h = let z : ◌≡◌ {A = ℕ} 0 1 = cc in absurd (omega arith)
    by_kind choice h = let z : ◌≡◌ {A = ℕ} 0 1 = cc in absurd (omega arith)
    by_kind gather h = let z : ◌≡◌ {A = ℕ} 0 1 = cc in absurd (omega arith)
    by_kind parameter h = let z : ◌≡◌ {A = ℕ} 0 1 = cc in absurd (omega arith)
    by_kind stitch_name h = let z : ◌≡◌ {A = ℕ} 0 1 = cc in absurd (omega arith)
    by_kind flow_start h = let z : ◌≡◌ {A = ℕ} 0 1 = cc in absurd (omega arith)

-- a record as an item
record-unlabelled : (r : Record) → (item_of r).what.kind ≡ plain → (item_of r).what.labels ≡ false
unfolding item_of item_as what_of labelled
record-unlabelled r e = rw e

pub items-unlabelled : (b : ℕ) (s : List ℕ) → Unlabelled (items_in b s)
items-unlabelled b s i m p =
    let o = item-of b s i m in
    subst (λ (j : Item). j.what.labels ≡ false) o.2 (record-unlabelled o.0 (ap (λ (j : Item). j.what.kind) o.2 ∙ plain-kind i.what p))

titled-unlabelled : (at : ℕ) (s : List ℕ) → Unlabelled (titled_in at s).body
unfolding titled_in titled_at
titled-unlabelled at s = by-heading (heading_of s)
  where
    by-heading : (r : Result Heading Refusal) → Unlabelled (titled_at r at s).body
    by-heading (Ok h) = items-unlabelled (at + h.nodes) (part h.nodes h.end s)
    by-heading (Err r) = λ i m p. absurd (Memᴰ.not-nil m)

pub stitch-unlabelled : (at : ℕ) (s : List ℕ) → Unlabelled (stitch_in at s).body
unfolding stitch_in
stitch-unlabelled at s = titled-unlabelled (at + 4) s

pub flow-unlabelled : (at : ℕ) (s : List ℕ) → UnlabelledFlow (flow_in at s)
unfolding flow_in
flow-unlabelled at s = record {
  body = titled-unlabelled (at + 5) (drop 1 s);
  stitches = λ t m.
      let rest = title_end (heading_of (drop 1 s)) in
      let o = piece_of stitch_in (at + (5 + rest)) (drop (1 + rest) s) t m in
      subst (λ (x : Stitch). Unlabelled x.body) (sym o.2) (stitch-unlabelled o.0 o.1);
}

-- no plain item of a story that is read bears a label
pub story-unlabelled : (c : Sections) (file : List ℕ) → UnlabelledStory (story_in c file)
unfolding story_in flows_in
story-unlabelled c file = record {
  root = items-unlabelled c.root (part c.root c.flows file);
  flows = λ f m.
      let o = piece_of flow_in c.flows (part c.flows c.end file) f m in
      subst UnlabelledFlow (sym o.2) (flow-unlabelled o.0 o.1);
}

-- 3. Without its plain items a story has fewer

same_name : (n : Name) → LikeName same_places n n
same_name n = record { at = refl; bytes = refl }

pub not-plain-fewer : (l : List Item) → Unlabelled l → Fewer same_places l (not_plain l)
unfolding not_plain
not-plain-fewer [] h = none
not-plain-fewer (i ∷ l) h = by-test (is plain i.what) refl (not-plain-fewer l (λ j m. h j (Memᴰ.tail m)))
  where
    by-test : (t : Bool) → is plain i.what ≡ t → Fewer same_places l (not_plain l) → Fewer same_places (i ∷ l) (pick t (not_plain l) (i ∷ not_plain l))
    by-test true e f = left (record { kind = plain-kind i.what e; labels = h i (Memᴰ.head refl) e }) f
    by-test false e f = kept (record { place = refl; named = refl; what = refl }) f

-- each of a list, where the law holds of all in it
aligned-on : {A : Type 0} {R : A → A → Type 0} (f : A → A) (xs : List A) → ((x : A) → Memᴰ x xs → R x (f x)) → Aligned R xs (map f xs)
aligned-on f [] h = end
aligned-on f (x ∷ xs) h = next (h x (Memᴰ.head refl)) (aligned-on f xs (λ y m. h y (Memᴰ.tail m)))

pub stitch-fewer : (t : Stitch) → Unlabelled t.body → FewerStitch same_places t (stitch_without_plain t)
unfolding stitch_without_plain
stitch-fewer t h = record {
  name = same_name t.name;
  params = aligned-same same_name t.params;
  marks = refl;
  body = not-plain-fewer t.body h;
}

pub flow-fewer : (f : Flow) → UnlabelledFlow f → FewerFlow same_places f (flow_without_plain f)
unfolding flow_without_plain
flow-fewer f h = record {
  at = refl;
  function = refl;
  name = same_name f.name;
  params = aligned-same same_name f.params;
  marks = refl;
  body = not-plain-fewer f.body h.body;
  stitches = aligned-on stitch_without_plain f.stitches (λ t m. stitch-fewer t (h.stitches t m));
}

pub without-plain-fewer : (s : Story) → UnlabelledStory s → FewerStory same_places s (without_plain s)
unfolding without_plain
without-plain-fewer s h = record {
  globals = aligned-same same_name s.globals;
  externals = refl;
  root = not-plain-fewer s.root h.root;
  flows = aligned-on flow_without_plain s.flows (λ f m. flow-fewer f (h.flows f m));
}
