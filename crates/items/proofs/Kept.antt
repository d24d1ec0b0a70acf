-- The kept numbers from one place to another are those of what stands there: of the root, of a flow's own list and its stitches, of a stitch. Assumes nothing.
use Rattle.std.specs.Prelude.{Option, Some}
use mathlib.Core.Path.{◌≡◌, refl, sym, ap, ◌∙◌}
use mathlib.Core.Bool.{Bool, true, false, ◌||◌}
use mathlib.Core.List.Memᴰ
use mathlib.Core.List.{List, [], ◌∷◌, ◌++◌, map, map-append, Memᴰ}
use mathlib.Core.Logic.{◌⊎◌, inl, inr}
use Prim.Native.Nat.{ℕ, ◌≤◌, ◌<◌}
use native.Mathlib.Omega.{arith}
use lib.ListN.{length}
use Rattle.fields.specs.Bytes.{pick}
use Rattle.names.specs.Words.{Bytes, Sorted, any, each}
use Rattle.records.specs.Trace.{well, ends}
use Rattle.story.specs.declared.Sections.{Sections}
use Rattle.records.specs.declared.sorts.Sort.TheVariants.{Plain as plain}
use Rattle.records.specs.Items.{is, Item, item_of, item_as}
use Rattle.story.specs.Story.{Stitch, stitch_items, flow_items, story_items}
use Rattle.story.specs.Plain.{not_plain, stitch_without_plain, flow_without_plain}
use Rattle.story.specs.Flows.{part, pieces_in, stitch, stitch_in, stitches, flows, flows_in}
use Rattle.story.specs.File.{story_in, InOrder}
use Rattle.story.proofs.Places.{ItemBefore}
use Rattle.story.proofs.Readable.{readable}
use Rattle.records.specs.Numbers.{number_of, kept_numbers, place_in, item_in, between}
use Rattle.story.proofs.StoryItems.{pieces-items, stitch-items}
use Rattle.story.proofs.Standing.{pieces-places, stitch-places, story-stands}
use Rattle.story.proofs.Unpacked.{place-back, reading-back, items_back, map_back}
use Rattle.story.proofs.BodyRuns.{kept_append, Lies, lies-wider, lies-append, between-inside, all-between, between_first, between-second, nodes-lie, stitches-lie-there, flows-lie-there}
use Rattle.story.proofs.Opening.{sections-well}
use Rattle.story.proofs.Files.{places-rise, root-is-run, flows-are-run}
use Rattle.searches.specs.declared.views.StitchView.{StitchView}
use Rattle.searches.specs.declared.views.FlowView.{FlowView}
use Rattle.searches.specs.Views.{stitch_view_of, flow_view_of, viewed_stitch, viewed_flow}
use Rattle.searches.proofs.Viewed.{StitchLaid, stitch-viewed, stitch-laid, FlowLaid, flow-viewed, flow-laid}
use Rattle.searches.proofs.Readable.{stitch-readable, GoodFlow, flow-readable}
use Rattle.items.specs.Bodies.{body_in, items_at, kept_in, Rising, kept_stitch, kept_stitches, kept_flow, Kept, BodyKept, StitchesKept, FlowsKept}
use Rattle.items.specs.Runs.{numbers_from}
use Rattle.items.specs.Search.{label_in}
use Rattle.items.proofs.RisingPlaces.{from-rising, from-run}
use Rattle.items.proofs.Labels.{labels_append, stitches-labels}

-- 1. Numbers kept of items whose places rise

pub of-kept : (l : List Item) (y : ℕ) → Memᴰ y (kept_numbers l) → (j : Item) × Memᴰ j l × (number_of j ≡ y)
unfolding kept_numbers
of-kept [] y m = absurd (Memᴰ.not-nil m)
of-kept (i ∷ l) y m = by-test (is plain i.what) (λ n. of-kept l y n) m
  where
    by-case : (Memᴰ y (kept_numbers l) → (j : Item) × Memᴰ j l × (number_of j ≡ y)) → (y ≡ number_of i) ⊎ Memᴰ y (kept_numbers l) → (j : Item) × Memᴰ j (i ∷ l) × (number_of j ≡ y)
    by-case later (inl e) = (i, Memᴰ.head refl, sym e)
    by-case later (inr n) = let x = later n in (x.0, Memᴰ.tail x.1, x.2)

    by-test : (b : Bool) → (Memᴰ y (kept_numbers l) → (j : Item) × Memᴰ j l × (number_of j ≡ y)) → Memᴰ y (pick b (kept_numbers l) (number_of i ∷ kept_numbers l))
        → (j : Item) × Memᴰ j (i ∷ l) × (number_of j ≡ y)
    by-test true later n = by-case later (inr n)
    by-test false later n = by-case later (Memᴰ.cases_cons n)

numbers-rise : (l : List Item) → Sorted ItemBefore l → ((i : Item) → Memᴰ i l → i.place < 1048576) → Rising (kept_numbers l)
unfolding kept_numbers
numbers-rise [] h low = tt
numbers-rise (i ∷ l) h low = by-test (is plain i.what) (numbers-rise l h.1 (λ j m. low j (Memᴰ.tail m)))
  where
    later : (y : ℕ) → Memᴰ y (kept_numbers l) → place_in (number_of i) ≤ place_in y
    later y m =
        let x = of-kept l y m in
        rw (← x.2, place-back i (low i (Memᴰ.head refl)), place-back x.0 (low x.0 (Memᴰ.tail x.1))) (omega (arith, h.0 x.0 x.1))

    by-test : (b : Bool) → Rising (kept_numbers l) → Rising (pick b (kept_numbers l) (number_of i ∷ kept_numbers l))
    by-test true r = r
    by-test false r = (later, r)

-- 2. Some nodes of the file: the items of the numbers kept of them are those that are not plain

pub body-plain : {file kept : List ℕ} {from to : ℕ} → length file ≤ 1048576 → BodyKept file kept from to → kept_in file kept from to ≡ not_plain (body_in file from to)
body-plain {file} {kept} {from} {to} short h = rw h.run (map_back file (body_in file from to) (items_back file from to short))

-- 3. A file

module _ {file : List ℕ} {c : Sections} {kept : List ℕ} (h : Kept file c kept) where
  pub order : InOrder c file
  order = (readable file c refl h.read).order

  pub kept-rising : Rising kept
  unfolding item_of item_as
  kept-rising = rw h.numbers (numbers-rise (story_items (story_in c file)) (places-rise file c h.read) low)
    where
      low : (i : Item) → Memᴰ i (story_items (story_in c file)) → i.place < 1048576
      low i m =
          let x = story-stands c file order (sections-well file c h.read) i m in
          omega (arith, x.3, order.short, ap (λ (j : Item). j.place) x.1)

  pub kept-root : BodyKept file kept c.root c.flows
  unfolding story_in
  kept-root = record { rising = kept-rising; run = rw h.numbers (root-is-run file c h.read) }

  pub kept-flows : FlowsKept file kept c.flows c.end
  unfolding story_in
  kept-flows =
      let f = each flow_items (flows_in c.flows (part c.flows c.end file)) in
      let lie = flows-lie-there c.flows c.end file order.flows (omega (arith, order)) (readable file c refl h.read).flows in
      record {
        rising = kept-rising;
        run = rw h.numbers (flows-are-run file c h.read c.flows c.end (omega arith) ∙ all-between c.flows c.end f lie (omega (arith, order)) (omega arith) (omega arith));
      }

  pub root-plain : kept_in file kept c.root c.flows ≡ not_plain (story_in c file).root
  unfolding story_in
  root-plain = body-plain order.short kept-root

-- 4. Flows

module _ (file kept : List ℕ) (at end : ℕ) (ordered : at ≤ end) (within : end ≤ length file) (short : length file ≤ 1048576)
    (good : ends (flows (part at end file)) ≡ well) (h : FlowsKept file kept at end) (v : FlowView) {r : Option FlowView} (told : r ≡ flow_view_of file at end) (given : r ≡ Some v) where
  laid : FlowLaid at end v
  laid = flow-laid file at end v told given

  fine : GoodFlow file end v
  fine = flow-readable file at end good told v given

  -- its own list, its stitches, and the flows after it
  abbrev own : List Item
  own = body_in file v.from v.to

  abbrev stitched : List Item
  stitched = each stitch_items (pieces_in stitch_in v.stitches (part v.stitches v.end file))

  abbrev later : List Item
  later = each flow_items (flows_in v.end (part v.end end file))

  own-lies : Lies v.from v.stitches own
  own-lies = lies-wider own (omega arith) (omega (arith, laid)) (nodes-lie v.from v.to file laid.from (omega (arith, laid)))

  stitched-lies : Lies v.stitches v.end stitched
  stitched-lies = stitches-lie-there v.stitches v.end file laid.stitches (omega (arith, laid)) fine.own

  both-lie : Lies v.from v.end (own ++ stitched)
  both-lie = lies-append v.from v.end own stitched (lies-wider own (omega arith) laid.stitches own-lies) (lies-wider stitched (omega (arith, laid)) (omega arith) stitched-lies)

  later-lies : Lies v.end end later
  later-lies = flows-lie-there v.end end file laid.within within fine.rest

  inside : (a b : ℕ) → at ≤ a → b ≤ end → between a b kept ≡ between a b (kept_numbers ((own ++ stitched) ++ later))
  unfolding flow_items
  inside a b p q = sym (between-inside a b at end p q kept) ∙ rw (h.run, flow-viewed file at end v told given)

  -- before its end stand its own
  within-flow : (a b : ℕ) → at ≤ a → b ≤ v.end → between a b kept ≡ between a b (kept_numbers (own ++ stitched))
  within-flow a b p q = inside a b p (omega (arith, laid)) ∙ between_first a b (own ++ stitched) later later-lies (omega arith) q

  flow-run : between v.from v.end kept ≡ kept_numbers own ++ kept_numbers stitched
  flow-run =
      within-flow v.from v.end (omega (arith, laid)) (omega arith)
      ∙ all-between v.from v.end (own ++ stitched) both-lie (omega (arith, laid)) (omega arith) (omega arith)
      ∙ kept_append own stitched

  pub flow-own : BodyKept file kept v.from v.to
  flow-own = record {
    rising = h.rising;
    run =
        within-flow v.from v.to (omega (arith, laid)) (omega (arith, laid))
        ∙ between_first v.from v.to own stitched stitched-lies (omega (arith, laid)) (omega (arith, laid))
        ∙ all-between v.from v.to own own-lies (omega (arith, laid)) (omega arith) (omega (arith, laid));
  }

  pub flow-stitches : StitchesKept file kept v.stitches v.end
  flow-stitches = record {
    rising = h.rising;
    run =
        within-flow v.stitches v.end (omega (arith, laid)) (omega arith)
        ∙ between-second v.stitches v.end v.from own stitched own-lies (omega (arith, laid)) (omega arith)
        ∙ all-between v.stitches v.end stitched stitched-lies (omega (arith, laid)) (omega arith) (omega arith);
  }

  pub flow-rest : FlowsKept file kept v.end end
  flow-rest = record {
    rising = h.rising;
    run =
        inside v.end end (omega (arith, laid)) (omega arith)
        ∙ between-second v.end end v.from (own ++ stitched) later both-lie (omega (arith, laid)) (omega arith)
        ∙ all-between v.end end later later-lies (omega arith) (omega arith) (omega arith);
  }

  pub flow-plain : kept_flow file kept v ≡ flow_without_plain (viewed_flow file v)
  unfolding flow_without_plain
  flow-plain = rw (body-plain short flow-own)

  -- the flows from the place on: this one, then those after it
  pub flows-plain : map flow_without_plain (flows_in at (part at end file)) ≡ kept_flow file kept v ∷ map flow_without_plain (flows_in v.end (part v.end end file))
  flows-plain = rw (flow-viewed file at end v told given, flow-plain)

  -- the labels of the flow are those of its own list and of its stitches
  pub flow-labels : (n : Bytes) → label_in (kept_in file kept v.from v.end) n ≡ label_in (kept_in file kept v.from v.to) n || any (λ (t : Stitch). label_in t.body n) (kept_stitches file v.stitches v.end)
  flow-labels n =
      rw (flow-run, flow-own.run, map-append (item_in file) (kept_numbers own) (kept_numbers stitched), map_back file stitched stitched-back)
      (labels_append n (items_at file (kept_numbers own)) (not_plain stitched) ∙ rw (stitches-labels n (pieces_in stitch_in v.stitches (part v.stitches v.end file))))
    where
      stitched-back : (i : Item) → Memᴰ i stitched → item_in file (number_of i) ≡ i
      stitched-back i m =
          let s = part v.stitches v.end file in
          reading-back file v.stitches v.end short stitches (pieces-places stitch stitch-places) i (rw (← pieces-items stitch stitch_in stitch_items stitch-items v.stitches s fine.own) at m)

-- 5. Stitches

module _ (file kept : List ℕ) (at end : ℕ) (ordered : at ≤ end) (within : end ≤ length file) (short : length file ≤ 1048576)
    (good : ends (stitches (part at end file)) ≡ well) (h : StitchesKept file kept at end) (w : StitchView) {r : Option StitchView} (told : r ≡ stitch_view_of file at end) (given : r ≡ Some w) where
  set : StitchLaid at end w
  set = stitch-laid file at end w told given

  abbrev body : List Item
  body = body_in file w.from w.to

  abbrev others : List Item
  others = each stitch_items (pieces_in stitch_in w.end (part w.end end file))

  body-lies : Lies w.from w.to body
  body-lies = nodes-lie w.from w.to file set.from (omega (arith, set))

  others-lie : Lies w.end end others
  others-lie = stitches-lie-there w.end end file set.within within (stitch-readable file at end good told w given).rest

  among : (a b : ℕ) → at ≤ a → b ≤ end → between a b kept ≡ between a b (kept_numbers (body ++ others))
  among a b p q = sym (between-inside a b at end p q kept) ∙ rw (h.run, stitch-viewed file at end w told given)

  pub stitch-own : BodyKept file kept w.from w.to
  stitch-own = record {
    rising = h.rising;
    run =
        among w.from w.to (omega (arith, set)) (omega (arith, set))
        ∙ between_first w.from w.to body others others-lie (omega arith) set.to
        ∙ all-between w.from w.to body body-lies (omega (arith, set)) (omega arith) (omega arith);
  }

  pub stitch-rest : StitchesKept file kept w.end end
  stitch-rest = record {
    rising = h.rising;
    run =
        among w.end end (omega (arith, set)) (omega arith)
        ∙ between-second w.end end w.from body others body-lies (omega (arith, set)) set.to
        ∙ all-between w.end end others others-lie (omega arith) (omega arith) (omega arith);
  }

  pub stitch-plain : kept_stitch file kept w ≡ stitch_without_plain (viewed_stitch file w)
  unfolding stitch_without_plain
  stitch-plain = rw (body-plain short stitch-own)

  -- the stitches from the place on: this one, then those after it
  pub stitches-plain : kept_stitches file at end ≡ kept_stitch file kept w ∷ kept_stitches file w.end end
  stitches-plain = rw (stitch-viewed file at end w told given, stitch-plain)

-- 6. For what stands from a place on, the numbers from that place on will do

rest-run : (at end : ℕ) (kept : List ℕ) {rest run : List ℕ} → rest ≡ numbers_from at kept → Rising kept → between at end kept ≡ run → Rising rest × (between at end rest ≡ run)
rest-run at end kept q h r = rw q (from-rising at kept h, from-run at end kept h ∙ r)

module _ {file kept rest : List ℕ} {at end : ℕ} (q : rest ≡ numbers_from at kept) where
  pub flows-from : FlowsKept file kept at end → FlowsKept file rest at end
  flows-from k = let r = rest-run at end kept q k.rising k.run in record { rising = r.0; run = r.1 }

  pub stitches-from : StitchesKept file kept at end → StitchesKept file rest at end
  stitches-from k = let r = rest-run at end kept q k.rising k.run in record { rising = r.0; run = r.1 }
