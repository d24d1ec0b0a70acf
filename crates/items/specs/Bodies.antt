-- Inner contract. The items of a body, a flow and a stitch, by the numbers that were kept of them. Assumes nothing.
use Rattle.std.specs.Prelude.{ℕ, ◌≤◌, ◌≡◌, List, [], ◌∷◌, map, length, drop, Ok}
use Rattle.std.specs.Coded.{×_prop, Π_prop, →_prop, Unit-prop, le_prop}
use Rattle.names.specs.Words.{Sorted, each}
use Rattle.names.specs.Counted.{name_at}
use Rattle.story.specs.declared.Sections.{Sections}
use Rattle.records.specs.Items.{Item, items_in}
use Rattle.story.specs.Story.{Stitch, Flow, Story, stitch_items, flow_items, story_items}
use Rattle.story.specs.Plain.{stitch_without_plain, without_plain}
use Rattle.story.specs.Flows.{counted_in, part, pieces_in, stitch_in, flows_in}
use Rattle.story.specs.File.{read_of, story_in}
use Rattle.records.specs.Numbers.{place_in, item_in, between, kept_numbers}
use Rattle.searches.specs.declared.views.StitchView.{StitchView}
use Rattle.searches.specs.declared.views.FlowView.{FlowView}

-- the items of the nodes from the place `from` to the place `to`: none where they cannot be read
abbrev pub body_in : List ℕ → ℕ → ℕ → List Item
body_in file from to = items_in from (part from to file)

-- a range of a file that is not too long
pub record Range (file : List ℕ) (from to : ℕ) : Type 0 where
  pub ordered : from ≤ to
  pub within : to ≤ length file
  pub short : length file ≤ 1048576

-- the items of some numbers
abbrev pub items_at : List ℕ → List ℕ → List Item
items_at file xs = map (item_in file) xs

-- the items of the kept numbers from the one place to the other
abbrev pub kept_in : List ℕ → List ℕ → ℕ → ℕ → List Item
kept_in file kept from to = items_at file (between from to kept)

-- the one number's place is not after the other's
abbrev pub NotAfter : ℕ → ℕ → Type 0
NotAfter x y = place_in x ≤ place_in y

-- the places of the numbers never fall
abbrev pub Rising : List ℕ → Type 0
Rising kept = Sorted NotAfter kept

-- a list is sorted in one way at most
sorted_prop : {A : Type 0} {R : A → A → Type 0} → ((x y : A) → IsProp (R x y)) → (xs : List A) → IsProp (Sorted R xs)
sorted_prop p [] = Unit-prop
sorted_prop p (x ∷ xs) = ×_prop (Π_prop (λ y. →_prop (p x y))) (sorted_prop p xs)

-- numbers rise in one way at most
pub rising_prop : (kept : List ℕ) → IsProp (Rising kept)
rising_prop kept = sorted_prop (λ x y. le_prop) kept

-- the story of the file without its plain items, which the kept numbers tell
abbrev pub kept_story : Sections → List ℕ → Story
kept_story c file = without_plain (story_in c file)

-- the stitch of a view, its items by the kept numbers
abbrev pub kept_stitch : List ℕ → List ℕ → StitchView → Stitch
kept_stitch file kept v = record {
  name = record { at = v.name; bytes = name_at file v.name };
  params = counted_in v.params (drop v.params file);
  marks = counted_in v.marks (drop v.marks file);
  body = kept_in file kept v.from v.to;
}

-- the stitches from the place on to the end, without their plain items
abbrev pub kept_stitches : List ℕ → ℕ → ℕ → List Stitch
kept_stitches file at end = map stitch_without_plain (pieces_in stitch_in at (part at end file))

-- the flow of a view, its items by the kept numbers
abbrev pub kept_flow : List ℕ → List ℕ → FlowView → Flow
kept_flow file kept v = record {
  at = v.at;
  function = v.function;
  name = record { at = v.name; bytes = name_at file v.name };
  params = counted_in v.params (drop v.params file);
  marks = counted_in v.marks (drop v.marks file);
  body = kept_in file kept v.from v.to;
  stitches = kept_stitches file v.stitches v.end;
}

-- the numbers are those kept of a readable file
pub record Kept (file : List ℕ) (c : Sections) (kept : List ℕ) : Type 0 where
  pub read : read_of file ≡ Ok c
  pub numbers : kept ≡ kept_numbers (story_items (story_in c file))

-- of the numbers, those from the one place to the other are those kept of the nodes there
pub record BodyKept (file kept : List ℕ) (from to : ℕ) : Type 0 where
  pub rising : Rising kept
  pub run : between from to kept ≡ kept_numbers (body_in file from to)

-- those kept of the stitches there
pub record StitchesKept (file kept : List ℕ) (at end : ℕ) : Type 0 where
  pub rising : Rising kept
  pub run : between at end kept ≡ kept_numbers (each stitch_items (pieces_in stitch_in at (part at end file)))

-- those kept of the flows there
pub record FlowsKept (file kept : List ℕ) (at end : ℕ) : Type 0 where
  pub rising : Rising kept
  pub run : between at end kept ≡ kept_numbers (each flow_items (flows_in at (part at end file)))
