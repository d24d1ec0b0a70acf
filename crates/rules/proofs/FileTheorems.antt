-- What the theorems on files and on stories say of the files of FileExamples. Assumes nothing.
use mathlib.Core.Path.{◌≡◌, sym, ◌∙◌, ap}
use mathlib.Core.List.{[], ◌∷◌}
use mathlib.Core.Logic.{◌↔◌, inl}
use mathlib.Core.Option.{none}
use Prim.Native.Nat.{ℕ}
use native.Mathlib.Omega.{arith}
use lib.Dec.{lit<}
use Rattle.names.specs.Words.{Sorted}
use Rattle.names.specs.Counted.{name_at}
use Rattle.rules.specs.Steps.{Breach, breaches, verdict}
use Rattle.rules.specs.Meaning.{Stands}
use Rattle.rules.specs.Placed.{Placed}
use Rattle.rules.specs.Alike.{Alike}
use Rattle.rules.specs.Reader.{story_of}
use Rattle.rules.proofs.Placed.{ordered}
use Rattle.rules.proofs.Least.{Least, once}
use Rattle.rules.proofs.Order.{shuffle_law}
use Rattle.rules.proofs.Demand.{demand3}
use Rattle.rules.proofs.Files.{file-alike}
use Rattle.rules.proofs.Reader.{supplied}
use Rattle.rules.proofs.FileDemand.{file-demand3}
use Rattle.rules.proofs.NamesInFile.{verdict-names}
use Rattle.rules.proofs.FileExamples.{file, in_order, exchanged, two_diverts, rule_of, not_found, examples}

-- the order law of files: the second too is accepted where x is t, and in breach where it is x
by-order-law : (x : ℕ) → (verdict (story_of (in_order x)) ≡ none) ↔ (verdict (story_of (exchanged x)) ≡ none)
by-order-law x = file-demand3.order-law-of-files (in_order x) (exchanged x) (examples.first x) (examples.second x) (examples.alike x)

accepted-too : verdict (story_of (exchanged 116)) ≡ none
accepted-too = (by-order-law 116).0 examples.accepted

in-breach-too : verdict (story_of (exchanged 120)) ≡ none → ⊥
in-breach-too e = let z : ◌≡◌ {A = ℕ} 0 2 = sym (ap rule_of ((by-order-law 120).1 e)) ∙ examples.in-breach in omega arith

-- the name that broke rule 2 is the file's at the place 5: x
offending : (s : Stands (story_of (file 3)) not_found) × (s.item.what.name ≡ 120 ∷ [])
unfolding file name_at
offending =
    let n = verdict-names (file 3) examples.target-missing.readable not_found examples.missing in
    (n.0, sym (n.1.the_own (inl (rw (← n.0.the_rule) (lit< tt)))))

-- what `demand3` asks of stories: places rise, and two are alike
placed : (x : ℕ) → Placed (story_of (in_order x))
placed x = supplied.placed (in_order x) (examples.first x)

alike-stories : (x : ℕ) → Alike (story_of (in_order x)) (story_of (exchanged x))
alike-stories x = file-alike supplied (in_order x) (exchanged x) (examples.first x) (examples.second x) (examples.alike x)

-- what is so by the theorems on stories
record OfStories : Type 0 where
  verdicts : (x : ℕ) → Least (story_of (in_order x))
  order : (x : ℕ) → (verdict (story_of (in_order x)) ≡ none) ↔ (verdict (story_of (exchanged x)) ≡ none)
  shuffled : (x y : ℕ) → (verdict (story_of (two_diverts x y)) ≡ none) ↔ (verdict (story_of (two_diverts y x)) ≡ none)
  once-listed : (x : ℕ) → Sorted (λ (b c : Breach). b ≡ c → ⊥) (breaches (story_of (in_order x)))

of-stories : OfStories
of-stories = record {
  verdicts = λ x. demand3.verdicts (story_of (in_order x)) (placed x);
  order = λ x. demand3.order (story_of (in_order x)) (story_of (exchanged x)) (alike-stories x);
  shuffled = λ x y. shuffle_law (story_of (two_diverts x y)) (story_of (two_diverts y x)) (examples.shuffled x y);
  once-listed = λ x. once (story_of (in_order x)) (ordered (story_of (in_order x)) (placed x));
}
