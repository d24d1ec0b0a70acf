-- After reading, the first numbers in the buffer are those kept, where it is long enough for the file. Assumes nothing.
use Rattle.std.specs.Prelude.{Result, Ok}
use Rattle.fields.specs.declared.Refusal.{Refusal}
use mathlib.Core.Path.{◌≡◌, refl, ◌∙◌}
use mathlib.Core.List.{List}
use Prim.Native.Nat.{ℕ, ◌+◌, ◌*◌, ◌≤◌}
use native.Mathlib.Omega.{arith}
use lib.ListN.{length, take, drop}
use lib.Seq.{length-take-le, take-append_seam, take-take}
use Rattle.records.specs.Numbers.{kept_numbers}
use Rattle.records.specs.Buffers.{fill}
use Rattle.records.proofs.Keeping.{fill-length}
use Rattle.story.specs.declared.Sections.{Sections}
use Rattle.story.specs.Story.{story_items}
use Rattle.story.specs.File.{read_of, story_in}
use Rattle.story.specs.Results.{ReadAs}
use Rattle.story.proofs.Readable.{readable}
use Rattle.story.proofs.Files.{kept-bound}
use Rattle.story.proofs.Reading.{ReadWell, read-well}
use Rattle.items.specs.Bodies.{Kept}

-- the front of a buffer that was filled
filled-front : (xs out : List ℕ) → length xs ≤ length out → take (length xs) (fill 0 xs out) ≡ xs
unfolding fill
filled-front xs out h = take-take (length xs) (length out) _ h ∙ take-append_seam xs (drop (0 + length xs) out)

module _ {file before after : List ℕ} {r : Result (Sections × ℕ × ℕ) Refusal} (promise : ReadAs file before r after) {c : Sections} {n all : ℕ} (q : r ≡ Ok (c, n, all)) where
  told : ReadWell file before c n all after
  told = read-well file before after promise q

  -- the sections that were read
  pub read-sections : read_of file ≡ Ok c
  read-sections = told.opens

  -- a file of at most 1,048,576 bytes has a buffer of a sixth of its length
  module _ (room : length file ≤ 1048576 → length file ≤ 6 * length before) where
    few : n ≤ length before
    few = omega (arith, told.number, kept-bound file c read-sections, room (readable file c refl read-sections).order.short)

    -- the buffer has so many numbers,
    pub read_fits : n ≤ length after
    read_fits = rw (told.written, fill-length 0 (kept_numbers (story_items (story_in c file))) before) few

    -- its front has so many,
    pub read_taken : length (take n after) ≡ n
    read_taken = length-take-le n after read_fits

    -- AND THEY ARE THOSE KEPT
    pub read_kept : Kept file c (take n after)
    read_kept = record {
      read = read-sections;
      numbers = rw (told.written, told.number) (filled-front (kept_numbers (story_items (story_in c file))) before (rw (← told.number) few));
    }
