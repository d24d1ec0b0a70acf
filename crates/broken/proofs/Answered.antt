-- What the sets answer is what the rules ask of the story. Assumes nothing.
use mathlib.Core.Path.{◌≡◌, refl, sym, ◌∙◌}
use mathlib.Core.Bool.{Bool, true, false, ◌||◌, or-true}
use mathlib.Core.List.{List, [], ◌∷◌, map}
use Prim.Native.Nat.{ℕ}
use Rattle.names.specs.Words.{Bytes, same, any, one_of, ends}
use Rattle.names.specs.Reserved.{END, DONE, back}
use Rattle.names.proofs.Bools.{or-found}
use Rattle.names.proofs.Any.{any-map}
use Rattle.story.specs.declared.Sections.{Sections}
use Rattle.story.specs.Story.{Flow, words}
use Rattle.story.specs.File.{story_in}
use Rattle.story.specs.Plain.{flow_without_plain, without_plain}
use Rattle.story.proofs.Plain.{story-unlabelled}
use Rattle.story.proofs.Readable.{readable}
use Rattle.searches.specs.Called.{is_flow, is_function, called_as}
use Rattle.sets.specs.Sets.{held}
use Rattle.symbols.specs.Fits.{answers}
use Rattle.targets.specs.Slots.{end_slots}
use Rattle.targets.proofs.Filling.{targets-found, targets-whole}
use Rattle.items.specs.Bodies.{kept_story}
use Rattle.symbols.specs.Index.{spellings}
use Rattle.enumerator.proofs.Spelled.{places-spelled}
use Rattle.symbols.proofs.Plain.{spellings-plain}
use Rattle.rules.specs.Rules.{known}
use Rattle.broken.specs.declared.StoryView.{StoryView}
use Rattle.broken.specs.Scopes.{known_in, TargetsReady}

-- 1. The names of the whole story

-- a flow keeps its name and its flag without its plain items
called-plain : (f : Bool) (n : Bytes) (l : List Flow) → any (called_as f n) (map flow_without_plain l) ≡ any (called_as f n) l
unfolding flow_without_plain
called-plain true n l = any-map (is_function n) flow_without_plain l
called-plain false n l = any-map (is_flow n) flow_without_plain l

module _ (file : List ℕ) (c : Sections) (n : Bytes) {r : Bool} where
  pub function_asked : r ≡ any (is_function n) (story_in c file).flows → r ≡ (known_in c file).function n
  unfolding known without_plain
  function_asked e = e ∙ sym (called-plain true n (story_in c file).flows)

  pub flow_asked : r ≡ any (is_flow n) (story_in c file).flows → r ≡ (known_in c file).flow n
  unfolding known without_plain
  flow_asked e = e ∙ sym (called-plain false n (story_in c file).flows)

  pub global_asked : r ≡ one_of n (words (story_in c file).globals) → r ≡ (known_in c file).global n
  unfolding known without_plain
  global_asked e = e

  pub external_asked : r ≡ one_of n (words (story_in c file).externals) → r ≡ (known_in c file).external n
  unfolding known without_plain
  external_asked e = e

-- what the set of the story's names answers
pub ruleset names_asked = (function_asked, flow_asked, global_asked, external_asked)

-- 2. Targets

-- some word answers: it is the target, or it ends in "." and the target
any-answers : (n : Bytes) (l : List Bytes) → any (answers n) l ≡ one_of n l || any (ends (46 ∷ n)) l
any-answers n [] = refl
any-answers n (x ∷ xs) = rw (any-answers n xs) (between (same n x) (ends (46 ∷ n) x) (one_of n xs) (any (ends (46 ∷ n)) xs))
  where
    between : (a b p q : Bool) → (a || b) || (p || q) ≡ (a || p) || (b || q)
    between true b p q = refl
    between false true p q = sym (or-true p)
    between false false p q = refl

module _ (file : List ℕ) (c : Sections) (n : Bytes) {b : Bool} (e : b ≡ one_of n (END ∷ DONE ∷ back ∷ [])) where
  pub target-reserved : b ≡ true → true ≡ (known_in c file).target n
  unfolding known
  target-reserved t = or-found (any (ends (46 ∷ n)) (spellings (kept_story c file))) (or-found (one_of n (spellings (kept_story c file))) e t) refl

  pub target-asked : b ≡ false → {r : Bool} → r ≡ any (answers n) (spellings (story_in c file)) → r ≡ (known_in c file).target n
  unfolding known
  target-asked f g = rw (← e, f) (g ∙ rw (← spellings-plain (story_in c file) (story-unlabelled c file)) (any-answers n (spellings (kept_story c file))))

module _ {file : List ℕ} {v : StoryView} {kept targets : List ℕ} (ready : TargetsReady file v kept targets) (n : Bytes) {h : Bool} (e : h ≡ one_of n (held (end_slots file) targets)) where
  -- the set has the target
  pub target-held : h ≡ true → true ≡ any (answers n) (spellings (story_in v.sections file))
  target-held q = sym (rw (places-spelled v.sections file (readable file v.sections refl ready.read.read)) at (targets-found ready.put n e q))

  -- the set has all targets
  pub target-lacking : h ≡ false → v.left ≡ false → false ≡ any (answers n) (spellings (story_in v.sections file))
  target-lacking q l = sym q ∙ rw (places-spelled v.sections file (readable file v.sections refl ready.read.read)) at (targets-whole ready.put n e l)
