-- What follows from the promise of reading a file: by its answer, the refusal, or the sections with the numbers of the story's items. Assumes nothing.
use Rattle.std.specs.Prelude.{Result, Ok, Err}
use mathlib.Core.Path.{◌≡◌, refl, ap, sym, ◌∙◌}
use mathlib.Core.List.{List}
use Prim.Native.Nat.{ℕ}
use native.Mathlib.Omega.{arith}
use lib.ListN.{length}
use Rattle.fields.specs.declared.Refusal.{Refusal}
use Rattle.records.specs.Numbers.{kept_numbers}
use Rattle.records.specs.Buffers.{fill}
use Rattle.story.specs.declared.Sections.{Sections}
use Rattle.story.specs.Story.{story_items}
use Rattle.story.specs.File.{read_of, story_in}
use Rattle.story.specs.Results.{answer_of, buffer_of, ReadAs}
use Rattle.story.proofs.Opening.{read_answer}

-- the file is readable with these sections, so many of its items are kept, and the buffer has their numbers
pub record ReadWell (file before : List ℕ) (c : Sections) (kept all : ℕ) (after : List ℕ) : Type 0 where
  pub opens : read_of file ≡ Ok c
  pub number : kept ≡ length (kept_numbers (story_items (story_in c file)))
  pub met : all ≡ length (story_items (story_in c file))
  pub written : after ≡ fill 0 (kept_numbers (story_items (story_in c file))) before

module _ (file : List ℕ) where
  answered-refused : (o : Result Sections Refusal) {x : Refusal} → Err x ≡ answer_of o file → o ≡ Err x
  unfolding answer_of
  answered-refused (Ok c) e = let z : ◌≡◌ {A = ℕ} 0 1 = cc in absurd (omega arith)
  answered-refused (Err y) {x} e = let z : x ≡ y = cc in rw z

  answered-at : (o : Result Sections Refusal) {c : Sections} {k m : ℕ} → Ok (c, k, m) ≡ answer_of o file
      → (o ≡ Ok c) × (k ≡ length (kept_numbers (story_items (story_in c file)))) × (m ≡ length (story_items (story_in c file)))
  unfolding answer_of
  answered-at (Ok d) {c} {k} {m} e =
      let z : ◌≡◌ {A = Sections × ℕ × ℕ} (c, k, m) (d, length (kept_numbers (story_items (story_in d file))), length (story_items (story_in d file))) = cc in
      let same : c ≡ d = ap (λ p. p.0) z in
      let number : k ≡ length (kept_numbers (story_items (story_in d file))) = ap (λ p. p.1) z in
      let met : m ≡ length (story_items (story_in d file)) = ap (λ p. p.2) z in
      rw same (refl, number, met)
  answered-at (Err y) e = let z : ◌≡◌ {A = ℕ} 0 1 = cc in absurd (omega arith)

  module _ (before after : List ℕ) {r : Result (Sections × ℕ × ℕ) Refusal} (promise : ReadAs file before r after) where
    -- refused
    pub read-refused : {x : Refusal} → r ≡ Err x → read_of file ≡ Err x
    read-refused q = answered-refused (read_of file) (sym q ∙ read_answer r file promise.answer)

    -- readable
    pub read-well : {c : Sections} {k m : ℕ} → r ≡ Ok (c, k, m) → ReadWell file before c k m after
    unfolding buffer_of
    read-well q =
        let a = answered-at (read_of file) (sym q ∙ read_answer r file promise.answer) in
        record { opens = a.0; number = a.1; met = a.2; written = promise.written ∙ rw a.0 }
