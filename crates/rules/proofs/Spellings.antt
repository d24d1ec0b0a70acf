-- Whether some spelling passes a test does not depend on the order of globals, flows, stitches and records: `alike-spellings`.
-- Assumes nothing.
use mathlib.Core.Path.{◌≡◌, refl, sym, ◌∙◌, ap, ap₂}
use mathlib.Core.Bool.{Bool, ◌&&◌, ◌||◌}
use mathlib.Core.List.{List, [], ◌∷◌, ◌++◌, map}
use mathlib.Core.Option.{Option}
use Rattle.names.specs.Words.{Bytes, any, only}
use Rattle.records.specs.Items.{What, Item}
use Rattle.story.specs.Story.{Name, Stitch, Flow, Story, words, whats, own_name}
use Rattle.symbols.specs.Index.{Entry, dotted, spelling, alone, labelled, prefix, stitch_entries, flow_entries, entries, spellings}
use Rattle.rules.specs.Alike.{AlikeStitch, AlikeFlow, Shuffled, AlikeShuffled}
use Rattle.names.proofs.Any.{any_append, any-only, any-each, any-map}
use Rattle.rules.proofs.Paired.{any-paired, any-often}

-- a test of items, over a body in another order
pub any-shuffled : (p : What → Bool) (a b : List What) → Shuffled a b → any p a ≡ any p b
any-shuffled p a b h = any-paired (λ v w. v ≡ w) p p (λ v w e. ap p e) a b h

-- what stands before a label of a flow, and of a stitch
before : Bytes → Bytes → Bytes
before [] r = r
before (x ∷ xs) r = (x ∷ xs) ++ (46 ∷ r)

before-both : Bytes → Bytes → Bytes → Bytes
before-both f t r = f ++ (46 ∷ (t ++ (46 ∷ r)))

prefix-before : (m : Name) (r : Bytes) → dotted (prefix m.bytes m) r ≡ before m.bytes r
unfolding before
prefix-before m r = go m.bytes refl
  where
    go : (b : Bytes) → m.bytes ≡ b → dotted (prefix b m) r ≡ before b r
    go [] e = refl
    go (x ∷ xs) e = ap (λ (z : Bytes). z ++ (46 ∷ r)) e

module _ (p : Bytes → Bool) where
  -- the entry's spelling passes
  abbrev spelt : Entry → Bool
  spelt e = p (spelling e)

  -- the item is a label whose spelling passes
  label-spelt : (Bytes → Bytes) → What → Bool
  label-spelt with w = w.labels && p (with w.name)

  alone-spelt : (l : List Name) → any spelt (map alone l) ≡ any p (words l)
  alone-spelt [] = refl
  alone-spelt (x ∷ xs) = rw (alone-spelt xs)

  labelled-spelt : (f t : Option Name) (body : List Item) → any spelt (labelled f t body) ≡ any (label-spelt (λ r. dotted f (dotted t r))) (whats body)
  unfolding labelled label-spelt
  labelled-spelt f t [] = refl
  labelled-spelt f t (i ∷ is) =
      any_append spelt (only i.what.labels (record { flow = f; stitch = t; own = own_name i })) (labelled f t is)
      ∙ ap₂ ◌||◌ (any-only spelt i.what.labels (record { flow = f; stitch = t; own = own_name i })) (labelled-spelt f t is)

  stitch_spelt : Bytes → Bytes → List Bytes → List What → Bool
  stitch_spelt f t params body = (p (f ++ (46 ∷ t)) || any p params) || any (label-spelt (before-both f t)) body

  stitch-spelt : (f : Flow) (t : Stitch)
      → any spelt (stitch_entries f t) ≡ stitch_spelt f.name.bytes t.name.bytes (words t.params) (whats t.body)
  unfolding stitch_entries stitch_spelt before-both
  stitch-spelt f t = simp (any_append, alone-spelt, labelled-spelt)

  flow_spelt : Bytes → List Bytes → List What → Bool → Bool
  flow_spelt f params body stitches = ((p f || any p params) || any (label-spelt (before f)) body) || stitches

  flow-spelt : (f : Flow)
      → any spelt (flow_entries f)
      ≡ flow_spelt f.name.bytes (words f.params) (whats f.body) (any (λ (t : Stitch). any spelt (stitch_entries f t)) f.stitches)
  unfolding flow_entries flow_spelt
  flow-spelt f = simp (any_append, any-each, alone-spelt, labelled-spelt, prefix-before)

  alike-stitch : (f g : Flow) → f.name.bytes ≡ g.name.bytes → (a b : Stitch) → AlikeStitch Shuffled a b
      → any spelt (stitch_entries f a) ≡ any spelt (stitch_entries g b)
  unfolding stitch_spelt
  alike-stitch f g e a b h =
      let l = any-shuffled (label-spelt (before-both g.name.bytes b.name.bytes)) (whats a.body) (whats b.body) h.body in
      cc (stitch-spelt f a, stitch-spelt g b)

  alike-flow : (f g : Flow) → AlikeFlow Shuffled f g → any spelt (flow_entries f) ≡ any spelt (flow_entries g)
  unfolding flow_spelt
  alike-flow f g h =
      let e = any-paired (AlikeStitch Shuffled) (λ t. any spelt (stitch_entries f t)) (λ t. any spelt (stitch_entries g t))
      (alike-stitch f g h.name) f.stitches g.stitches h.stitches in
      let l = any-shuffled (label-spelt (before g.name.bytes)) (whats f.body) (whats g.body) h.body in
      cc (flow-spelt f, flow-spelt g)

  alike-entries : (s t : Story) → AlikeShuffled s t → any spelt (entries s) ≡ any spelt (entries t)
  unfolding entries
  alike-entries s t h =
      let e = any-paired (AlikeFlow Shuffled) (λ f. any spelt (flow_entries f)) (λ f. any spelt (flow_entries f))
      alike-flow s.flows t.flows h.flows in
      let g = any-often p (words s.globals) (words t.globals) h.globals in
      let l = any-shuffled (label-spelt (λ r. r)) (whats s.root) (whats t.root) h.root in
      simp (any_append, any-each, alone-spelt, labelled-spelt) cc

  pub alike-spellings : (s t : Story) → AlikeShuffled s t → any p (spellings s) ≡ any p (spellings t)
  alike-spellings s t h = any-map p spelling (entries s) ∙ alike-entries s t h ∙ sym (any-map p spelling (entries t))
