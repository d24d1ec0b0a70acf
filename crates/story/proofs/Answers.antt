-- What reading a file answers and leaves in the buffer, by how its trailer and its sections were read. Assumes nothing.
use Rattle.std.specs.Prelude.{Result, Ok, Err}
use mathlib.Core.Path.{◌≡◌, refl, ◌∙◌}
use mathlib.Core.List.{List}
use Prim.Native.Nat.{ℕ, ◌+◌, ◌/◌, ◌%◌, ◌<◌}
use native.Mathlib.Omega.{arith}
use lib.ListN.{length, length-map}
use Rattle.fields.specs.declared.Refusal.{Refusal}
use Rattle.records.specs.Trace.{met, Ending, well, refused, ends}
use Rattle.records.specs.Items.{item_of}
use Rattle.records.specs.Numbers.{kept_numbers}
use Rattle.records.specs.Buffers.{cleared}
use Rattle.records.specs.Work.{st, run, counts, keeping, Told, walked, items_of, Walked}
use Rattle.records.proofs.Places.{met-count}
use Rattle.records.proofs.Keeping.{walked_all, kept-fewer}
use Rattle.records.proofs.Clearing.{cleared-alike}
use Rattle.story.specs.declared.Sections.{Sections}
use Rattle.story.specs.Story.{story_items}
use Rattle.story.specs.File.{opened_of, read_of, read_at, read_ended, sections_read, story_in}
use Rattle.story.specs.Results.{answer_of, reading_of, buffer_of, ReadAs}
use Rattle.story.proofs.Opening.{opened-in-order, opened-refused}
use Rattle.story.proofs.Standing.{sections-placed}
use Rattle.story.proofs.StoryItems.{story-items}

-- 1. The answer of a walk says how reading ended

walk_refused : (e : Ending) (n : ℕ) {x : Refusal} {w : Result ℕ Refusal} → w ≡ walked e n → w ≡ Err x → e ≡ refused x
unfolding walked
walk_refused well n p q = let z : ◌≡◌ {A = ℕ} 0 1 = cc in absurd (omega arith)
walk_refused (refused y) n {x} p q = let z : y ≡ x = cc in rw z

walk-done : (e : Ending) (n m : ℕ) {w : Result ℕ Refusal} → w ≡ walked e n → w ≡ Ok m → (e ≡ well) × (m ≡ n)
unfolding walked
walk-done well n m p q = (refl, cc)
walk-done (refused y) n m p q = let z : ◌≡◌ {A = ℕ} 0 1 = cc in absurd (omega arith)

-- 2. A file

module _ (file before : List ℕ) where
  -- what is refused is answered so, and the buffer is cleared
  refused_as : {x : Refusal} {a : Result (Sections × ℕ × ℕ) Refusal} {after : List ℕ} → read_of file ≡ Err x → (a ≡ Err x) × (after ≡ cleared before) → ReadAs file before a after
  unfolding answer_of reading_of buffer_of
  refused_as e told = record { answer = rw (told.0, e); written = rw e told.1 }

  -- the trailer is refused
  pub trailer-refused : {x : Refusal} {r : Result Sections Refusal} {a : Result (Sections × ℕ × ℕ) Refusal} {after : List ℕ} → r ≡ opened_of file → r ≡ Err x
      → (a ≡ Err x) × (after ≡ cleared before) → ReadAs file before a after
  trailer-refused p q told = refused_as (opened-refused file p q) told

  module _ (c : Sections) {r : Result Sections Refusal} (p : r ≡ opened_of file) (at : r ≡ Ok c) {w : Result ℕ Refusal} {walked_to : List ℕ}
      (told : Told (run keeping 0 (st before 0) (sections_read c file)) w walked_to) where
    few : length (items_of 0 (sections_read c file)) < 4294967296
    few =
        let o = opened-in-order file c p at in
        omega (arith, o.short, length-map (met 0 (sections_read c file)) item_of, met-count file 0 (length file) 0 (sections_read c file) (omega arith) (sections-placed c file o))

    as-walked : Walked (sections_read c file) 0 0 0 before w walked_to
    unfolding counts
    as-walked = walked_all (sections_read c file) 0 0 0 (omega (arith, few)) (omega (arith, few)) told

    -- how the file is read, by how its sections end
    read-so : (e : Ending) → ends (sections_read c file) ≡ e → read_of file ≡ read_ended e (Ok c)
    unfolding read_of read_at
    read-so e ending = rw (← p, at, ending)

    -- the sections are refused
    pub sections-refused : {x : Refusal} {a : Result (Sections × ℕ × ℕ) Refusal} {after : List ℕ} → w ≡ Err x → (a ≡ Err x) × (after ≡ cleared walked_to) → ReadAs file before a after
    unfolding read_ended
    sections-refused {x} q refusal =
        let e = read-so (refused x) (walk_refused (ends (sections_read c file)) _ as-walked.answer q) in
        refused_as e (refusal.0, refusal.1 ∙ cleared-alike walked_to before as-walked.same_length)

    -- the file is readable
    module _ {n : ℕ} (q : w ≡ Ok n) where
      done : (ends (sections_read c file) ≡ well) × (n ≡ counts (0 + length (kept_numbers (items_of 0 (sections_read c file)))) (0 + length (items_of 0 (sections_read c file))))
      done = walk-done (ends (sections_read c file)) _ n as-walked.answer q

      same : items_of 0 (sections_read c file) ≡ story_items (story_in c file)
      same = story-items c file done.0

      number-kept : n % 4294967296 ≡ length (kept_numbers (story_items (story_in c file)))
      unfolding counts
      number-kept = rw (← same) (omega (arith, done.1, kept-fewer (items_of 0 (sections_read c file)), few))

      number-met : n / 4294967296 ≡ length (story_items (story_in c file))
      unfolding counts
      number-met = rw (← same) (omega (arith, done.1, kept-fewer (items_of 0 (sections_read c file)), few))

      pub file-read : ReadAs file before (Ok (c, (n % 4294967296), (n / 4294967296))) walked_to
      unfolding read_ended answer_of reading_of buffer_of
      file-read = record {
        answer = rw (read-so well done.0, number-kept, number-met);
        written = rw (read-so well done.0, ← same) (as-walked.written done.0);
      }
