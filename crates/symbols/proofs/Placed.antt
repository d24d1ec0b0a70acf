-- The entries of a story as places: part by part they are those of the definition. Assumes nothing.
use mathlib.Core.Path.{◌≡◌, refl, ◌∙◌, ap}
use mathlib.Core.Bool.{Bool, true, false}
use mathlib.Core.List.{List, [], ◌∷◌, ◌++◌, map}
use mathlib.Core.Option.{Option, none, some}
use lib.ListN.{length, length-map}
use Rattle.names.specs.Words.{Bytes, only, each}
use Rattle.records.specs.Items.{Item}
use Rattle.story.specs.Story.{Name, Stitch, Flow, Story, own_name}
use Rattle.symbols.specs.declared.Places.{Places}
use Rattle.symbols.specs.Index.{Entry, alone, labelled, prefix, stitch_entries, flow_entries, entries}
use Rattle.symbols.specs.Numbers.{absent, number_of, places_of}
use Rattle.symbols.specs.Placed.{placed, names_placed, labels_placed, prefix_number, stitch_placed}
use Rattle.symbols.proofs.Named.{alone_at}

-- 1. Lists

pub placed-append : (es fs : List Entry) → placed (es ++ fs) ≡ placed es ++ placed fs
unfolding placed
placed-append [] fs = refl
placed-append (e ∷ es) fs = ap (λ (l : List Places). places_of e ∷ l) (placed-append es fs)

pub placed-each : {A : Type 0} (f : A → List Entry) (xs : List A) → placed (each f xs) ≡ each (λ (x : A). placed (f x)) xs
unfolding placed
placed-each f [] = refl
placed-each f (x ∷ xs) = rw (placed-append (f x) (each f xs), placed-each f xs)

pub placed-length : (es : List Entry) → length (placed es) ≡ length es
unfolding placed
placed-length es = length-map es places_of

-- the same for each element is the same for all
pub each_same : {A B : Type 0} (f g : A → List B) → ((x : A) → f x ≡ g x) → (xs : List A) → each f xs ≡ each g xs
each_same f g e [] = refl
each_same f g e (x ∷ xs) = rw (e x, each_same f g e xs)

-- 2. Parts of a story

pub names-placed : (ns : List Name) → placed (map alone ns) ≡ names_placed ns
unfolding names_placed
names-placed ns = refl

-- a name, and the parameters after it
first-placed : (e : Entry) (ns : List Name) → placed (e ∷ map alone ns) ≡ places_of e ∷ names_placed ns
unfolding placed names_placed
first-placed e ns = refl

module _ (f t : Option Name) where
  label-placed : (i : Item) → placed (only i.what.labels (record { flow = f; stitch = t; own = own_name i }))
      ≡ only i.what.labels (record { flow = number_of f; stitch = number_of t; own = i.named })
  unfolding placed
  label-placed i = by-label i.what.labels
    where
      by-label : (b : Bool) → placed (only b (record { flow = f; stitch = t; own = own_name i })) ≡ only b (record { flow = number_of f; stitch = number_of t; own = i.named })
      by-label true = refl
      by-label false = refl

  pub labels-placed : (body : List Item) → placed (labelled f t body) ≡ labels_placed (number_of f) (number_of t) body
  unfolding labelled labels_placed
  labels-placed body =
      placed-each (λ (i : Item). only i.what.labels (record { flow = f; stitch = t; own = own_name i })) body
      ∙ each_same _ _ label-placed body

pub stitch-placed : (f : Flow) (t : Stitch) → placed (stitch_entries f t) ≡ stitch_placed f.name.at t
unfolding stitch_entries stitch_placed
stitch-placed f t =
    let first : List Entry = record { flow = some f.name; stitch = none; own = t.name } ∷ map alone t.params in
    placed-append first (labelled (some f.name) (some t.name) t.body)
    ∙ rw (labels-placed (some f.name) (some t.name) t.body, first-placed (record { flow = some f.name; stitch = none; own = t.name }) t.params)

prefix-number : (w : Bytes) (n : Name) → number_of (prefix w n) ≡ prefix_number w n.at
prefix-number [] n = refl
prefix-number (x ∷ xs) n = refl

pub flow-placed : (f : Flow) → placed (flow_entries f)
    ≡ alone_at f.name.at
    ∷ names_placed f.params
    ++ labels_placed (prefix_number f.name.bytes f.name.at) absent f.body
    ++ each (stitch_placed f.name.at) f.stitches
unfolding flow_entries
flow-placed f =
    let first = alone f.name ∷ map alone f.params in
    let own = labelled (prefix f.name.bytes f.name) none f.body in
    placed-append (first ++ own) (each (stitch_entries f) f.stitches)
    ∙ rw (placed-append first own, labels-placed (prefix f.name.bytes f.name) none f.body, prefix-number f.name.bytes f.name, first-placed (alone f.name) f.params)
    (ap (λ (l : List Places). (alone_at f.name.at ∷ names_placed f.params) ++ labels_placed (prefix_number f.name.bytes f.name.at) absent f.body ++ l)
    (placed-each (stitch_entries f) f.stitches ∙ each_same _ _ (stitch-placed f) f.stitches))

-- flows one after the other
pub flows-none : {fs : List Flow} → fs ≡ [] → placed (each flow_entries fs) ≡ []
unfolding placed
flows-none e = rw e

pub flows-next : {fs gs : List Flow} {f : Flow} → fs ≡ f ∷ gs → placed (each flow_entries fs) ≡ placed (flow_entries f) ++ placed (each flow_entries gs)
flows-next {gs = gs} {f = f} e = rw e (placed-append (flow_entries f) (each flow_entries gs))

pub story-placed : (s : Story) → placed (entries s)
    ≡ names_placed s.globals ++ labels_placed absent absent s.root ++ placed (each flow_entries s.flows)
unfolding entries
story-placed s =
    placed-append (map alone s.globals ++ labelled none none s.root) (each flow_entries s.flows)
    ∙ rw (placed-append (map alone s.globals) (labelled none none s.root), names-placed s.globals, labels-placed none none s.root)
