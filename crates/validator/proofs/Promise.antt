-- What is as reported keeps the whole promise: refusals write nothing, acceptance no message, and what is judged is right. Assumes nothing.
use Rattle.std.specs.Prelude.{Result, Ok}
use mathlib.Core.Path.{◌≡◌, refl, sym, ◌∙◌, ap}
use mathlib.Core.Bool.{Bool, true, false}
use mathlib.Core.List.{List, []}
use mathlib.Core.Option.{Option, none, some}
use Prim.Native.Nat.{ℕ, ◌-◌, ◌*◌, ◌≤◌}
use native.Mathlib.Omega.{arith}
use lib.Dec.{ltb}
use lib.ListN.{length, length-append}
use Rattle.std.proofs.Common.{Err}
use Rattle.fields.specs.declared.Refusal.{Refusal}
use Rattle.fields.specs.Bytes.{pick}
use Rattle.records.specs.Buffers.{overlay}
use Rattle.story.specs.declared.Sections.{Sections}
use Rattle.story.specs.Story.{Story}
use Rattle.story.specs.File.{read_of, story_in}
use Rattle.rules.specs.Steps.{Breach, verdict}
use Rattle.rules.specs.Reader.{Readable, story_at, story_of}
use Rattle.rules.proofs.Least.{Least}
use Rattle.rules.proofs.FileDemand.{file-demand3}
use Rattle.validator.specs.declared.CheckRefusal.TheVariants.{Unreadable}
use Rattle.validator.specs.Results.{Judged, accepted, breach, refused, checked, Answer, result_of}
use Rattle.validator.specs.Check.{judged_of, text_of, Report, refusing, story_report, report_at, report_of}
use Rattle.validator.specs.Checked.{Reported, FirstBreach, Right, Checked}

-- 1. What a report says, by how the file was opened and by the tests on the buffers

module _ (file : List ℕ) (s : Story) where
  abbrev tested : Bool → Bool → Report
  tested index message = pick index (refusing 7) (pick message (refusing 8) (story_report file s))

  tested-refused : (a b : Bool) (n : ℕ) → (tested a b).result ≡ refused n → ((tested a b).numbers ≡ []) × ((tested a b).text ≡ [])
  unfolding story_report
  tested-refused true b n e = (refl, refl)
  tested-refused false true n e = (refl, refl)
  tested-refused false false n e = let z : ◌≡◌ {A = ℕ} 0 1 = cc in absurd (omega arith)

  accepted-text : (v : Option Breach) → judged_of v ≡ accepted → text_of file v ≡ []
  unfolding judged_of text_of
  accepted-text none e = refl
  accepted-text (some b) e = let z : ◌≡◌ {A = ℕ} 0 1 = cc in absurd (omega arith)

  tested-judged : (a b : Bool) (j : Judged) (n k : ℕ) → (tested a b).result ≡ checked j n k
      → (j ≡ judged_of (verdict s)) × ((tested a b).text ≡ text_of file (verdict s)) × (k ≡ length (text_of file (verdict s)))
  unfolding story_report
  tested-judged true b j n k e = let z : ◌≡◌ {A = ℕ} 0 1 = cc in absurd (omega arith)
  tested-judged false true j n k e = let z : ◌≡◌ {A = ℕ} 0 1 = cc in absurd (omega arith)
  tested-judged false false j n k e = (cc, refl, cc)

module _ (file : List ℕ) (index message : ℕ) where
  -- a refusal reports nothing more
  refused-report : (o : Result Sections Refusal) (n : ℕ) → (report_at o file index message).result ≡ refused n
      → ((report_at o file index message).numbers ≡ []) × ((report_at o file index message).text ≡ [])
  unfolding report_at
  refused-report (Err r) n e = (refl, refl)
  refused-report (Ok c) n e = tested-refused file (story_in c file) (ltb index (3 * (length file - 20))) (ltb message 640) n e

  record Judging (o : Result Sections Refusal) (j : Judged) (size : ℕ) : Type 0 where
    sections : Sections
    opens : o ≡ Ok sections
    judges : j ≡ judged_of (verdict (story_at o file))
    says : (report_at o file index message).text ≡ text_of file (verdict (story_at o file))
    size_is : size ≡ length (text_of file (verdict (story_at o file)))

  -- what is judged is the story in a readable file
  judged-report : (o : Result Sections Refusal) (j : Judged) (n k : ℕ) → (report_at o file index message).result ≡ checked j n k → Judging o j k
  unfolding report_at story_at
  judged-report (Err r) j n k e = let z : ◌≡◌ {A = ℕ} 0 1 = cc in absurd (omega arith)
  judged-report (Ok c) j n k e =
      let t = tested-judged file (story_in c file) (ltb index (3 * (length file - 20))) (ltb message 640) j n k e in
      record { sections = c; opens = refl; judges = t.0; says = t.1; size_is = t.2 }

-- 2. Demand 3's claim, from the verdict's

pub judged-none : (v : Option Breach) → judged_of v ≡ accepted → v ≡ none
unfolding judged_of
judged-none none e = refl
judged-none (some b) e = let z : ◌≡◌ {A = ℕ} 0 1 = cc in absurd (omega arith)

first-breach : (s : Story) → Least s → (v : Option Breach) → verdict s ≡ v → (rule place : ℕ) (names : ℕ × ℕ) → judged_of v ≡ breach rule place names → FirstBreach s rule place names
unfolding judged_of
first-breach s l none e rule place names f = let z : ◌≡◌ {A = ℕ} 0 1 = cc in absurd (omega arith)
first-breach s l (some b) e rule place names f = record {
  it = b;
  the_rule = cc;
  the_place = cc;
  the_names = cc;
  stands = l.found b e;
  first = λ c h. l.least b c e h;
}

right : (s : Story) → Least s → (j : Judged) → j ≡ judged_of (verdict s) → Right s j
unfolding judged_of
right s l j e = record {
  accepts = (λ f. l.accepted.0 (judged-none (verdict s) (sym e ∙ f)), λ h. e ∙ ap judged_of (l.accepted.1 h));
  breaches = λ rule place names f. first-breach s l (verdict s) refl rule place names (sym e ∙ f);
}

-- 3. The promise

untouched : {xs before after : List ℕ} → after ≡ overlay xs before → xs ≡ [] → after ≡ before
unfolding overlay
untouched e f = rw f at e

-- what is laid over a buffer lies within it
within : (xs before : List ℕ) {after : List ℕ} {n : ℕ} → after ≡ overlay xs before → n ≡ length xs → n ≤ length after
unfolding overlay
within xs before e f = omega (arith, simp length-append at (ap length e))

pub promised : {file index message : List ℕ} {r : Answer} {index' message' : List ℕ}
    → Reported (report_of file (length index) (length message)) index message r index' message' → Checked file index message r index' message'
unfolding report_of story_of
promised {file} {index} {message} p =
    let o = read_of file in
    record {
      reported = p;
      refusal_writes_nothing = λ n e.
          let q = refused-report file (length index) (length message) o n (sym p.result ∙ e) in
          (untouched p.index_is q.0, untouched p.message_is q.1);
      acceptance_writes_no_message = λ n k e.
          let q = judged-report file (length index) (length message) o accepted n k (sym p.result ∙ e) in
          untouched p.message_is (q.says ∙ accepted-text file (story_of file) (verdict (story_of file)) (sym q.judges));
      message_fits = λ j n k e.
          let q = judged-report file (length index) (length message) o j n k (sym p.result ∙ e) in
          within (report_at o file (length index) (length message)).text message p.message_is (q.size_is ∙ ap length (sym q.says));
      judges_right = λ j n k e.
          let q = judged-report file (length index) (length message) o j n k (sym p.result ∙ e) in
          right (story_of file) (file-demand3.demand3-of-files file (record { sections = q.sections; told = q.opens })) j q.judges;
    }

-- what a check judges is a readable file, and its judgement the verdict's
pub record Judges (file : List ℕ) (j : Judged) : Type 0 where
  pub readable : Readable file
  pub verdict-is : j ≡ judged_of (verdict (story_of file))

pub judges : {file index message : List ℕ} {r : Answer} {index' message' : List ℕ} {j : Judged} {n k : ℕ}
    → Checked file index message r index' message' → result_of r ≡ checked j n k → Judges file j
unfolding report_of story_of
judges {file} {index} {message} {j = j} {n = n} {k = k} p e =
    let q = judged-report file (length index) (length message) (read_of file) j n k (sym p.reported.result ∙ e) in
    record { readable = record { sections = q.sections; told = q.opens }; verdict-is = q.judges }

-- refusals 1 to 6
pub unreadable : {r : Refusal} {file index message : List ℕ} → read_of file ≡ Err r → Checked file index message (Err (Unreadable r)) index message
unfolding report_of report_at result_of overlay
unreadable e = promised (rw e (record { result = refl; index_is = refl; message_is = refl }))

-- a readable file
pub opens : {c : Sections} {file index message : List ℕ} {a : Answer} {index' message' : List ℕ} → read_of file ≡ Ok c
    → Reported (report_at (Ok c) file (length index) (length message)) index message a index' message'
    → Checked file index message a index' message'
unfolding report_of
opens e p = promised (rw e p)
