-- The labels of lists that are joined, and of stitches without their plain items. Assumes nothing.
use mathlib.Core.Path.{◌≡◌, refl, ◌∙◌}
use mathlib.Core.Bool.{Bool, true, false, ◌&&◌, ◌||◌}
use mathlib.Core.List.{List, [], ◌∷◌, ◌++◌, map, map-append}
use Rattle.fields.specs.Bytes.{pick}
use Rattle.names.specs.Words.{Bytes, same, any, each}
use Rattle.names.proofs.Any.{any_append}
use Rattle.records.specs.declared.sorts.Sort.TheVariants.{Plain as plain}
use Rattle.records.specs.Items.{What, is, Item}
use Rattle.story.specs.Story.{Stitch, whats, stitch_items}
use Rattle.story.specs.Plain.{not_plain, stitch_without_plain}
use Rattle.items.specs.Search.{label_in}

pub not-plain-append : (l m : List Item) → not_plain (l ++ m) ≡ not_plain l ++ not_plain m
unfolding not_plain
not-plain-append [] m = refl
not-plain-append (i ∷ l) m = by-test (is plain i.what) (not-plain-append l m)
  where
    by-test : (x : Bool) → not_plain (l ++ m) ≡ not_plain l ++ not_plain m → pick x (not_plain (l ++ m)) (i ∷ not_plain (l ++ m)) ≡ pick x (not_plain l) (i ∷ not_plain l) ++ not_plain m
    by-test true e = e
    by-test false e = rw e

module _ (n : Bytes) where
  pub labels_append : (l m : List Item) → label_in (l ++ m) n ≡ label_in l n || label_in m n
  labels_append l m = rw (map-append (λ (i : Item). i.what) l m) (any_append (λ (w : What). w.labels && same n w.name) (whats l) (whats m))

  pub stitches-labels : (ts : List Stitch) → label_in (not_plain (each stitch_items ts)) n ≡ any (λ (t : Stitch). label_in t.body n) (map stitch_without_plain ts)
  unfolding not_plain stitch_without_plain
  stitches-labels [] = refl
  stitches-labels (t ∷ ts) = rw (not-plain-append t.body (each stitch_items ts)) (labels_append (not_plain t.body) (not_plain (each stitch_items ts)) ∙ rw (stitches-labels ts))
