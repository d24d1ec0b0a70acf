-- DEMAND 3 of checks: `demand3`. Assumes nothing.
use mathlib.Core.Path.{◌≡◌, refl, sym, ◌∙◌, ap}
use mathlib.Core.List.{List}
use mathlib.Core.Logic.{◌↔◌}
use mathlib.Core.Option.{Option, none, some}
use Prim.Native.Nat.{ℕ, ◌≤◌}
use native.Mathlib.Omega.{arith}
use lib.ListN.{length, replicate, length-replicate}
use Rattle.std.proofs.Common.{Ok}
use borrow.Author.Tests.{le-ltb}
use Rattle.records.specs.Buffers.{overlay}
use Rattle.rules.specs.Steps.{Breach, verdict}
use Rattle.rules.specs.Reader.{Readable, story_at, story_of}
use Rattle.rules.proofs.FileDemand.{file-demand3}
use Rattle.symbols.specs.Index.{entries}
use Rattle.symbols.specs.Numbers.{index_room}
use Rattle.validator.specs.declared.Verdict.TheVariants.{Accepted, Breached}
use Rattle.validator.specs.Results.{Judged, accepted, checked, Answer, result_of}
use Rattle.validator.specs.Check.{judged_of, text_of, Report, story_report, report_at, report_of}
use Rattle.validator.specs.Checked.{Checked}
use Rattle.validator.specs.Demand.{Returns, Demand3}
use Rattle.validator.proofs.Promise.{judged-none, promised, Judges, judges}

-- accepted exactly when the verdict is none
accepts : {file : List ℕ} {j : Judged} → Judges file j → (j ≡ accepted) ↔ (verdict (story_of file) ≡ none)
unfolding judged_of
accepts {file} q = (λ f. judged-none (verdict (story_of file)) (sym q.verdict-is ∙ f), λ f. q.verdict-is ∙ ap judged_of f)

-- what is reported of a readable file with buffers that are long enough: its story's report
pub story-reported : (file : List ℕ) (r : Readable file) (index message : ℕ) → index_room file ≤ index → 640 ≤ message
    → report_of file index message ≡ story_report file (story_of file)
unfolding report_of report_at story_of story_at
story-reported file r index message h k = rw (r.told, le-ltb index (index_room file) h, le-ltb message 640 k)

pub demand3 : Demand3 Checked
unfolding story_report
demand3 = record {
  judged = λ file index message answer index' message' p r h k.
      (_, _, _, p.reported.result ∙ ap (λ (q : Report). q.result) (story-reported file r (length index) (length message) h k));
  right = λ file j r. r.check.judges_right j r.entries r.size r.judges;
  order = λ a b i j alike r s.
      let p = judges r.check r.judges in
      let q = judges s.check s.judges in
      let law = file-demand3.order-law-of-files a b p.readable q.readable alike in
      (λ e. (accepts q).1 (law.0 ((accepts p).0 e)), λ e. (accepts p).1 (law.1 ((accepts q).0 e)));
}

-- an answer with the number and values of a verdict
answer_for : Option Breach → ℕ → ℕ → Answer
answer_for none entries size = Ok (Accepted entries)
answer_for (some b) entries size = Ok (Breached (record { rule = b.rule; place = b.place; first = b.names.0; second = b.names.1; entries = entries; message = size }))

answer-for : (file : List ℕ) (v : Option Breach) (entries : ℕ) → result_of (answer_for v entries (length (text_of file v))) ≡ checked (judged_of v) entries (length (text_of file v))
unfolding answer_for result_of judged_of text_of
answer-for file none entries = refl
answer-for file (some b) entries = refl

-- what `demand3` supposes can be met: of every readable file something that keeps the contract returns the verdict
pub returned : (file : List ℕ) → Readable file → Returns Checked file (judged_of (verdict (story_of file)))
unfolding story_report
returned file r =
    let s = story_of file in
    let index : List ℕ = replicate (index_room file) 0 in
    let message : List ℕ = replicate 640 0 in
    let p = report_of file (length index) (length message) in
    let told : p ≡ story_report file s = story-reported file r (length index) (length message) (omega (arith, length-replicate {A = ℕ} (index_room file) 0)) (omega (arith, length-replicate {A = ℕ} 640 0)) in
    let judges = answer-for file (verdict s) (length (entries s)) in
    record {
      index = index;
      message = message;
      answer = answer_for (verdict s) (length (entries s)) (length (text_of file (verdict s)));
      index' = overlay p.numbers index;
      message' = overlay p.text message;
      check = promised (record { result = judges ∙ sym (ap (λ (q : Report). q.result) told); index_is = refl; message_is = refl });
      entries = length (entries s);
      size = length (text_of file (verdict s));
      judges = judges;
    }
