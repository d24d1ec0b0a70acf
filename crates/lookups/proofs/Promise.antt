-- What a lookup promises follows from its two equations. Assumes nothing.
use Rattle.std.specs.Prelude.{Result, Ok, Err}
use Rattle.fields.specs.declared.Refusal.{Refusal}
use mathlib.Core.Path.{◌≡◌, refl, sym, ◌∙◌}
use mathlib.Core.Bool.{Bool, true, false}
use mathlib.Core.List.{List}
use Prim.Native.Nat.{ℕ, ◌-◌}
use native.Mathlib.Omega.{arith}
use lib.ListN.{length}
use lib.Dec.{ltb}
use borrow.Author.Tests.{le-ltb}
use Rattle.fields.specs.Bytes.{pick}
use Rattle.names.specs.Words.{Bytes}
use Rattle.story.specs.Story.{Story}
use Rattle.story.specs.declared.Sections.{Sections}
use Rattle.story.specs.File.{read_of, story_in}
use Rattle.symbols.specs.Index.{entries, spellings}
use Rattle.symbols.specs.Numbers.{index_room}
use Rattle.symbols.specs.Placed.{index_of}
use Rattle.symbols.proofs.Searched.{FirstAt}
use Rattle.lookups.specs.Results.{Answer, refused, answered, LookupAnswer, result_of}
use Rattle.lookups.specs.Lookup.{target_of, answered_of, lookup_at, lookup_of, index_at, lookup_index, Looked}
use Rattle.lookups.specs.Meaning.{Matches, Meant}
use Rattle.lookups.proofs.Meaning.{exact_matches, ending_matches, missing_means}

-- 1. What is answered of a story

found-matches : (f : Bytes → Bool) (spelled : List Bytes) (k : ℕ) → FirstAt f 0 spelled k → Matches f spelled k
found-matches f spelled k h = record { within = omega (arith, h.within); passes = let z : k - 0 ≡ k = omega arith in rw (← z) h.passes }

target-meant : (s : Story) (t : Bytes) → Meant s t (target_of s.flows (spellings s) t)
target-meant s t = record {
  exact_matches = λ k e. let d = exact_matches s.flows (spellings s) t k e in (d.0, found-matches _ (spellings s) k d.1);
  ending_matches = λ k e. let d = ending_matches s.flows (spellings s) t k e in (d.0, d.1, found-matches _ (spellings s) k d.2);
  missing_means = missing_means s.flows (spellings s) t;
}

-- 2. By how the file was opened, and by the test on the index

refused-index : (o : Result Sections Refusal) (file before t : List ℕ) (n : ℕ) → lookup_at o file (length before) t ≡ refused n → index_at o file before ≡ before
unfolding lookup_at index_at
refused-index (Err r) file before t n e = refl
refused-index (Ok c) file before t n e = by-test (ltb (length before) (index_room file)) e
  where
    by-test : (b : Bool) → pick b (refused 7) (answered_of (story_in c file) t) ≡ refused n → pick b before (index_of (story_in c file) before) ≡ before
    by-test true e = refl
    by-test false e = let z : ◌≡◌ {A = ℕ} 0 1 = cc in absurd (omega arith)

answered-meant : (o : Result Sections Refusal) (file t : List ℕ) (index : ℕ) (a : Answer) (n : ℕ) → lookup_at o file index t ≡ answered a n
    → (c : Sections) × (o ≡ Ok c) × (n ≡ length (entries (story_in c file))) × Meant (story_in c file) t a
unfolding lookup_at
answered-meant (Err r) file t index a n e = let z : ◌≡◌ {A = ℕ} 0 1 = cc in absurd (omega arith)
answered-meant (Ok c) file t index a n e = let d = by-test (ltb index (index_room file)) e in (c, refl, d.0, d.1)
  where
    s : Story
    s = story_in c file

    by-test : (b : Bool) → pick b (refused 7) (answered_of s t) ≡ answered a n → (n ≡ length (entries s)) × Meant s t a
    by-test true e = let z : ◌≡◌ {A = ℕ} 0 1 = cc in absurd (omega arith)
    by-test false e = let same : target_of s.flows (spellings s) t ≡ a = cc in (cc, rw (← same) (target-meant s t))

-- 3. The promise

pub promised : (file before t : List ℕ) {r : LookupAnswer} {after : List ℕ} → result_of r ≡ lookup_of file (length before) t → after ≡ lookup_index file before → Looked file before t r after
unfolding lookup_of lookup_at lookup_index
promised file before t e i = record {
  result = e;
  index = i;
  refusal_writes_nothing = λ n f. i ∙ refused-index (read_of file) file before t n (sym e ∙ f);
  answers = λ c q h.
      let s = story_in c file in
      (target_of s.flows (spellings s) t, length (entries s), e ∙ rw (q, le-ltb (length before) (index_room file) h));
  means = λ a n f. answered-meant (read_of file) file t (length before) a n (sym e ∙ f);
}
