-- What the searches answer on parts of the file, in the form that the story has. Assumes nothing.
use mathlib.Core.Path.{◌≡◌, ap, ◌∙◌}
use mathlib.Core.List.{List}
use mathlib.Core.Bool.{Bool}
use Prim.Native.Nat.{ℕ, ◌-◌}
use lib.ListN.{length, take, drop}
use Rattle.fields.proofs.Laws.{to_end}
use Rattle.names.specs.Words.{Bytes, one_of, any}
use Rattle.story.specs.Story.{words}
use Rattle.story.specs.Flows.{names_in, counted_in, flows_in, part}
use Rattle.story.proofs.Alike.{same-names-in, same-counted}
use Rattle.searches.specs.Called.{called_as}
use Rattle.searches.proofs.Called.{any-flows}

module _ (file : List ℕ) (n : Bytes) (a : ℕ) {r : Bool} where
  -- of `counted_has_name(&file[a..], n)`
  pub counted-answer : r ≡ one_of n (words (counted_in 0 (take (length file - a) (drop a file)))) → r ≡ one_of n (words (counted_in a (drop a file)))
  counted-answer e = e ∙ rw (to_end a file) (ap (one_of n) (same-counted 0 a (drop a file)))

  -- of `section_has_name(&file[a..b], n)`
  pub section-answer : (b : ℕ) → r ≡ one_of n (words (names_in 0 (take (b - a) (drop a file)))) → r ≡ one_of n (words (names_in a (part a b file)))
  unfolding part
  section-answer b e = e ∙ ap (one_of n) (same-names-in 0 a (take (b - a) (drop a file)))

  -- of `is_function_name(&file[a..b], n)` where f is true, and of `is_flow_name(&file[a..b], n)` where it is false
  pub flows-answer : (f : Bool) (b : ℕ) → r ≡ any (called_as f n) (flows_in 0 (take (b - a) (drop a file))) → r ≡ any (called_as f n) (flows_in a (part a b file))
  unfolding part
  flows-answer f b e = e ∙ any-flows f n 0 a (take (b - a) (drop a file))
