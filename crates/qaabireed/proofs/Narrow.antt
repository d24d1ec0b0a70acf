-- Each number of what a check answers has 32 bits: `checked-narrow`. Assumes nothing.
use Rattle.std.specs.Prelude.{Result}
use mathlib.Core.Path.{◌≡◌, refl, sym, ◌∙◌}
use mathlib.Core.Bool.{Bool, true, false}
use mathlib.Core.List.{List}
use mathlib.Core.Option.{Option, none, some}
use Prim.Native.Nat.{ℕ, ◌-◌, ◌*◌, ◌≤◌, ◌<◌, ◌^◌}
use native.Mathlib.Omega.{arith}
use lib.Dec.{ltb, lit<}
use lib.ListN.{length, get_or}
use Rattle.std.proofs.Common.{Ok, Err}
use Rattle.fields.specs.Bytes.{pick}
use Rattle.fields.specs.declared.Refusal.{Refusal}
use Rattle.fields.specs.declared.Refusal.TheVariants.{Length, Mark, Starts, Short, Unknown, Deep}
use Rattle.fields.specs.Refusals.{refusal_number}
use Rattle.names.specs.Counted.{name_at}
use Rattle.names.proofs.Counted.{name-length}
use Rattle.story.specs.declared.Sections.{Sections}
use Rattle.story.specs.Story.{Story}
use Rattle.story.specs.File.{read_of, story_in}
use Rattle.story.proofs.Readable.{readable}
use Rattle.symbols.specs.Index.{entries}
use Rattle.symbols.proofs.Owners.{entries-few}
use Rattle.rules.specs.Rules.{number}
use Rattle.rules.specs.Steps.{Breach, verdict}
use Rattle.rules.specs.Reader.{story_at, story_of}
use Rattle.rules.proofs.Least.{Least}
use Rattle.rules.proofs.FileDemand.{file-demand3}
use Rattle.messages.proofs.Length.{message_fits}
use Rattle.validator.specs.declared.Verdict.TheVariants.{Accepted, Breached}
use Rattle.validator.specs.declared.CheckRefusal.TheVariants.{Unreadable, ShortIndex, ShortMessage}
use Rattle.validator.specs.Results.{Judged, accepted, breach, refused, checked, Answer, result_of}
use Rattle.validator.specs.Check.{judged_of, text_of, Report, refusing, story_report, report_at, report_of}
use Rattle.validator.specs.Checked.{Checked}
use Rattle.qaabireed.specs.Numbers.{judged_numbers, result_numbers, Narrow}
use Rattle.qaabireed.proofs.Stories.{story-within}
use Rattle.qaabireed.proofs.Breaches.{NamesNarrow, breach-narrow}

-- 1. The numbers of a result

refused-narrow : (n : ℕ) → n < 2 ^ 32 → Narrow (result_numbers (refused n))
unfolding result_numbers
refused-narrow n h = (lit< tt, (h, (lit< tt, (lit< tt, (lit< tt, (lit< tt, (lit< tt, tt)))))))

accepted-narrow : (n k : ℕ) → n < 2 ^ 32 → k < 2 ^ 32 → Narrow (judged_numbers accepted n k)
accepted-narrow n k h l = (lit< tt, (lit< tt, (lit< tt, (lit< tt, (lit< tt, (h, (l, tt)))))))

breached-narrow : (rule place : ℕ) (names : ℕ × ℕ) (n k : ℕ) → rule < 2 ^ 32 → place < 2 ^ 32 → NamesNarrow names → n < 2 ^ 32 → k < 2 ^ 32 → Narrow (judged_numbers (breach rule place names) n k)
breached-narrow rule place names n k a b c h l = (lit< tt, (a, (b, (c.0, (c.1, (h, (l, tt)))))))

-- 2. What is reported of a readable file

-- judgement, entry count and message length are those of the file's story
record Counted (file : List ℕ) (j : Judged) (n k : ℕ) : Type 0 where
  sections : Sections
  opens : read_of file ≡ Ok sections
  judges : j ≡ judged_of (verdict (story_in sections file))
  entries-are : n ≡ length (entries (story_in sections file))
  size_is : k ≡ length (text_of file (verdict (story_in sections file)))

module _ (file : List ℕ) (s : Story) where
  abbrev tested : Bool → Bool → Report
  tested index message = pick index (refusing 7) (pick message (refusing 8) (story_report file s))

  tested-counts : (a b : Bool) (j : Judged) (n k : ℕ) → (tested a b).result ≡ checked j n k
      → (j ≡ judged_of (verdict s)) × (n ≡ length (entries s)) × (k ≡ length (text_of file (verdict s)))
  unfolding story_report
  tested-counts true b j n k e = let z : ◌≡◌ {A = ℕ} 0 1 = cc in absurd (omega arith)
  tested-counts false true j n k e = let z : ◌≡◌ {A = ℕ} 0 1 = cc in absurd (omega arith)
  tested-counts false false j n k e = (cc, cc, cc)

counted : (file : List ℕ) (index message : ℕ) (o : Result Sections Refusal) → read_of file ≡ o → (j : Judged) (n k : ℕ) → (report_at o file index message).result ≡ checked j n k → Counted file j n k
unfolding report_at
counted file index message (Err r) p j n k e = let z : ◌≡◌ {A = ℕ} 0 1 = cc in absurd (omega arith)
counted file index message (Ok c) p j n k e =
    let t = tested-counts file (story_in c file) (ltb index (3 * (length file - 20))) (ltb message 640) j n k e in
    record { sections = c; opens = p; judges = t.0; entries-are = t.1; size_is = t.2 }

-- 3. It has 32 bits

module _ (file : List ℕ) (bytes : (i : ℕ) → get_or file i 0 < 256) where
  -- no text is longer than 640 bytes
  text-short : (v : Option Breach) → length (text_of file v) ≤ 640
  unfolding text_of
  text-short none = omega arith
  text-short (some b) =
      message_fits b.rule (name_at file b.names.0) (name_at file b.names.1)
      (omega (arith, name-length file b.names.0, bytes b.names.0))
      (omega (arith, name-length file b.names.1, bytes b.names.1))

  module _ {j : Judged} {n k : ℕ} (t : Counted file j n k) where
    story-least : Least (story_in t.sections file)
    unfolding story_of story_at
    story-least = rw t.opens at (file-demand3.demand3-of-files file (record { sections = t.sections; told = t.opens }))

    entries-narrow : n < 2 ^ 32
    entries-narrow =
        let r = readable file t.sections refl t.opens in
        omega (arith, t.entries-are, entries-few t.sections file r, r.order)

    size-narrow : k < 2 ^ 32
    size-narrow = omega (arith, t.size_is, text-short (verdict (story_in t.sections file)))

    verdict-narrow : (v : Option Breach) → verdict (story_in t.sections file) ≡ v → Narrow (judged_numbers (judged_of v) n k)
    unfolding judged_of
    verdict-narrow none e = accepted-narrow n k entries-narrow size-narrow
    verdict-narrow (some b) e =
        let r = readable file t.sections refl t.opens in
        let s = story_in t.sections file in
        let w = breach-narrow s (story-within t.sections file r) r.order.short b (story-least.found b e) in
        breached-narrow (number b.rule) b.place b.names n k w.rule w.place w.names entries-narrow size-narrow

    judged-narrow : Narrow (judged_numbers j n k)
    judged-narrow = rw t.judges (verdict-narrow (verdict (story_in t.sections file)) refl)

-- 4. An answer

pub refusal-narrow : (r : Refusal) → refusal_number r < 2 ^ 32
unfolding refusal_number
refusal-narrow Length = lit< tt
refusal-narrow Mark = lit< tt
refusal-narrow Starts = lit< tt
refusal-narrow Short = lit< tt
refusal-narrow Unknown = lit< tt
refusal-narrow Deep = lit< tt

answer-narrow : (a : Answer) → ((j : Judged) (n k : ℕ) → result_of a ≡ checked j n k → Narrow (judged_numbers j n k)) → Narrow (result_numbers (result_of a))
unfolding result_of result_numbers
answer-narrow (Ok (Accepted n)) h = h accepted n 0 refl
answer-narrow (Ok (Breached b)) h = h (breach (number b.rule) b.place (b.first, b.second)) b.entries b.message refl
answer-narrow (Err (Unreadable r)) h = refused-narrow (refusal_number r) (refusal-narrow r)
answer-narrow (Err ShortIndex) h = refused-narrow 7 (lit< tt)
answer-narrow (Err ShortMessage) h = refused-narrow 8 (lit< tt)

pub checked-narrow : {file index message : List ℕ} {r : Answer} {index' message' : List ℕ} → ((i : ℕ) → get_or file i 0 < 256)
    → Checked file index message r index' message' → Narrow (result_numbers (result_of r))
unfolding report_of
checked-narrow {file} {index} {message} {r} bytes p =
    answer-narrow r (λ j n k e. judged-narrow file bytes (counted file (length index) (length message) (read_of file) refl j n k (sym p.reported.result ∙ e)))
