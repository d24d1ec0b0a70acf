-- What the searches answer is what the rules ask of the story. Assumes nothing.
use mathlib.Core.Path.{◌≡◌, refl, sym, ◌∙◌}
use mathlib.Core.Bool.{Bool, true, false, ◌||◌, or-true}
use mathlib.Core.List.{List, [], ◌∷◌, map}
use Prim.Native.Nat.{ℕ, ◌-◌}
use lib.ListN.{take, drop}
use Rattle.names.specs.Words.{Bytes, same, any, one_of, ends}
use Rattle.names.specs.Reserved.{END, DONE, back}
use Rattle.names.proofs.Bools.{or-found}
use Rattle.names.proofs.Any.{any-map}
use Rattle.story.specs.declared.Sections.{Sections}
use Rattle.story.specs.Story.{Flow, words}
use Rattle.story.specs.Flows.{names_in, flows_in}
use Rattle.story.specs.File.{story_in}
use Rattle.story.specs.Plain.{flow_without_plain, without_plain}
use Rattle.searches.specs.Called.{is_flow, is_function, called_as}
use Rattle.searches.proofs.Answers.{section-answer, flows-answer}
use Rattle.items.specs.Bodies.{kept_story}
use Rattle.symbols.specs.Index.{spellings}
use Rattle.symbols.specs.Fits.{answers}
use Rattle.rules.specs.Rules.{known}
use Rattle.checks.specs.Context.{known_in}

-- 1. The names of the whole story

-- a flow keeps its name and its flag without its plain items
called-plain : (f : Bool) (n : Bytes) (l : List Flow) → any (called_as f n) (map flow_without_plain l) ≡ any (called_as f n) l
unfolding flow_without_plain
called-plain true n l = any-map (is_function n) flow_without_plain l
called-plain false n l = any-map (is_flow n) flow_without_plain l

module _ (file : List ℕ) (c : Sections) (n : Bytes) {r : Bool} where
  pub function_asked : r ≡ any (is_function n) (story_in c file).flows → r ≡ (known_in c file).function n
  unfolding known without_plain
  function_asked e = e ∙ sym (called-plain true n (story_in c file).flows)

  pub flow_asked : r ≡ any (is_flow n) (flows_in 0 (take (c.end - c.flows) (drop c.flows file))) → r ≡ (known_in c file).flow n
  unfolding known story_in without_plain
  flow_asked e = flows-answer file n c.flows false c.end e ∙ sym (called-plain false n (story_in c file).flows)

  pub global_asked : r ≡ one_of n (words (names_in 0 (take (c.externals - 0) (drop 0 file)))) → r ≡ (known_in c file).global n
  unfolding known story_in without_plain
  global_asked e = section-answer file n 0 c.externals e

  pub external_asked : r ≡ one_of n (words (names_in 0 (take (c.root - c.externals) (drop c.externals file)))) → r ≡ (known_in c file).external n
  unfolding known story_in without_plain
  external_asked e = section-answer file n c.externals c.root e

-- some word answers: it is the target, or it ends in "." and the target
any-answers : (n : Bytes) (l : List Bytes) → any (answers n) l ≡ one_of n l || any (ends (46 ∷ n)) l
any-answers n [] = refl
any-answers n (x ∷ xs) = rw (any-answers n xs) (between (same n x) (ends (46 ∷ n) x) (one_of n xs) (any (ends (46 ∷ n)) xs))
  where
    between : (a b p q : Bool) → (a || b) || (p || q) ≡ (a || p) || (b || q)
    between true b p q = refl
    between false true p q = sym (or-true p)
    between false false p q = refl

module _ (file : List ℕ) (c : Sections) (n : Bytes) {b : Bool} (e : b ≡ one_of n (END ∷ DONE ∷ back ∷ [])) where
  pub target_reserved : b ≡ true → true ≡ (known_in c file).target n
  unfolding known
  target_reserved t = or-found (any (ends (46 ∷ n)) (spellings (kept_story c file))) (or-found (one_of n (spellings (kept_story c file))) e t) refl

  pub target_asked : b ≡ false → {spelled : List Bytes} → spelled ≡ spellings (kept_story c file) → {r : Bool} → r ≡ any (answers n) spelled → r ≡ (known_in c file).target n
  unfolding known
  target_asked f told g = rw (← e, f) (g ∙ rw told (any-answers n (spellings (kept_story c file))))
