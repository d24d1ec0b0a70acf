-- What the parts of a check leave is as reported: the index, the verdict with its text, and the tests on the buffers. Assumes nothing.
use Rattle.std.specs.Prelude.{Option, Some, None}
use mathlib.Core.Path.{◌≡◌, refl, sym, ◌∙◌, ap}
use mathlib.Core.List.{List}
use mathlib.Core.Option.{Option as Maybe, none, some}
use Prim.Native.Nat.{ℕ, ◌-◌, ◌*◌, ◌≤◌, ◌<◌}
use native.Mathlib.Omega.{arith}
use lib.ListN.{length}
use Rattle.std.proofs.Common.{Ok, Err}
use borrow.Author.Tests.{lt-ltb, le-ltb}
use Rattle.records.specs.Buffers.{overlay}
use Rattle.story.specs.declared.Sections.{Sections}
use Rattle.story.specs.File.{read_of, story_in}
use Rattle.story.proofs.Readable.{readable}
use Rattle.story.proofs.Plain.{story-unlabelled}
use Rattle.symbols.specs.Index.{entries}
use Rattle.symbols.specs.Numbers.{St, st, store_all}
use Rattle.symbols.specs.Placed.{placed, index_of}
use Rattle.symbols.proofs.Owners.{index-written}
use Rattle.symbols.proofs.ReadBack.{index_read}
use Rattle.symbols.proofs.Plain.{spellings-plain}
use Rattle.rules.specs.Steps.{Breach, verdict}
use Rattle.context.specs.declared.BreachAt.{BreachAt}
use Rattle.tables.specs.Functions.{Functions}
use Rattle.checks.specs.Context.{Ready}
use Rattle.context.specs.Found.{found_of, breach_at}
use Rattle.validator.specs.declared.Breach.{Breach as Answered}
use Rattle.validator.specs.declared.Verdict.TheVariants.{Accepted, Breached}
use Rattle.validator.specs.declared.CheckRefusal.TheVariants.{ShortIndex, ShortMessage}
use Rattle.validator.specs.Results.{Answer, result_of}
use Rattle.validator.specs.Answers.{Told}
use Rattle.validator.specs.Check.{judged_of, text_of, story_report, report_at}
use Rattle.validator.specs.Checked.{Reported}

-- 1. The index

-- the index is written, and how many entries it has
pub record Written (file : List ℕ) (c : Sections) (before after : List ℕ) (n : ℕ) : Type 0 where
  pub entries-are : n ≡ length (entries (story_in c file))
  pub index_is : after ≡ index_of (story_in c file) before

module _ (file : List ℕ) {c : Sections} (good : read_of file ≡ Ok c) where
  -- the place of the trailer
  pub trailer-at : (c.end ≡ length file - 20) × (c.end ≤ 1048556)
  trailer-at =
      let r = readable file c refl good in
      (omega (arith, r.order.trailer), omega (arith, r.order.trailer, r.order.short))

  pub written : {before after : List ℕ} {n : ℕ} → 3 * c.end ≤ length before
      → st after n ≡ store_all (st before 0) (placed (entries (story_in c file))) → Written file c before after n
  written {before} h e =
      let w = e ∙ index-written c file (readable file c refl good) before h in
      record { entries-are = ap (λ (s : St). s.count) w; index_is = ap (λ (s : St). s.index) w }

  pub ready : {before after : List ℕ} {n : ℕ} → Written file c before after n → {functions : List ℕ} → Functions file c functions → Ready file c after n functions
  ready {before} w known =
      let r = readable file c refl good in
      record { sections = r.order; spelled = rw (w.entries-are, w.index_is) (index_read c file r before) ∙ sym (spellings-plain (story_in c file) (story-unlabelled c file)); functions_known = known }

-- 2. The story

module _ {file : List ℕ} {c : Sections} {before after : List ℕ} {n : ℕ} (w : Written file c before after n) where
  -- the verdict is none
  clear : (v : Maybe Breach) (message : List ℕ) → verdict (story_in c file) ≡ v → found_of v ≡ None
      → Reported (story_report file (story_in c file)) before message (Ok (Accepted n)) after message
  unfolding found_of story_report judged_of text_of result_of index_of placed overlay
  clear none message e f = record { result = rw (e, w.entries-are); index_is = w.index_is; message_is = rw e }
  clear (some b) message e f = let z : ◌≡◌ {A = ℕ} 0 1 = cc in absurd (omega arith)

  pub story-accepted : {r : Option BreachAt} (message : List ℕ) → r ≡ found_of (verdict (story_in c file)) → r ≡ None
      → Reported (story_report file (story_in c file)) before message (Ok (Accepted n)) after message
  story-accepted message e f = clear (verdict (story_in c file)) message refl (sym e ∙ f)

  breached : (v : Maybe Breach) {b : BreachAt} {message message' : List ℕ} {a : Answered} → verdict (story_in c file) ≡ v → found_of v ≡ Some b
      → Told file b n message a message'
      → Reported (story_report file (story_in c file)) before message (Ok (Breached a)) after message'
  unfolding found_of story_report judged_of text_of result_of index_of placed
  breached none e f t = let z : ◌≡◌ {A = ℕ} 0 1 = cc in absurd (omega arith)
  breached (some x) {b} e f t =
      let same : breach_at x.rule x.place x.names ≡ b = cc in
      let u = rw (← same) at t in
      record { result = rw (u.answer, e, w.entries-are); index_is = w.index_is; message_is = rw e u.written }

  pub story-breached : {r : Option BreachAt} {b : BreachAt} {message message' : List ℕ} {a : Answered} → r ≡ found_of (verdict (story_in c file)) → r ≡ Some b
      → Told file b n message a message'
      → Reported (story_report file (story_in c file)) before message (Ok (Breached a)) after message'
  story-breached e f t = breached (verdict (story_in c file)) refl (sym e ∙ f) t

-- 3. The tests on the buffers

module _ (file : List ℕ) {c : Sections} (good : read_of file ≡ Ok c) (index message : List ℕ) where
  pub short-index : length index < 3 * c.end → Reported (report_at (Ok c) file (length index) (length message)) index message (Err ShortIndex) index message
  unfolding report_at result_of overlay
  short-index h =
      rw (lt-ltb (length index) (3 * (length file - 20)) (omega (arith, (trailer-at file good).0)))
      (record { result = refl; index_is = refl; message_is = refl })

  pub short-message : 3 * c.end ≤ length index → length message < 640
      → Reported (report_at (Ok c) file (length index) (length message)) index message (Err ShortMessage) index message
  unfolding report_at result_of overlay
  short-message h k =
      rw (le-ltb (length index) (3 * (length file - 20)) (omega (arith, (trailer-at file good).0)), lt-ltb (length message) 640 k)
      (record { result = refl; index_is = refl; message_is = refl })

  pub long-enough : {a : Answer} {index' message' : List ℕ} → 3 * c.end ≤ length index → 640 ≤ length message
      → Reported (story_report file (story_in c file)) index message a index' message'
      → Reported (report_at (Ok c) file (length index) (length message)) index message a index' message'
  unfolding report_at
  long-enough h k p =
      rw (le-ltb (length index) (3 * (length file - 20)) (omega (arith, (trailer-at file good).0)), le-ltb (length message) 640 k) p
