-- The demands themselves rule out 01's impostors, whatever the way of checking: demand 3 one that accepts a story in breach, in its root or in a
-- knot, demand 1 one that answers refusal 4 for all, of checking and of reading. Assumes nothing.
use mathlib.Core.Path.{◌≡◌, refl, sym, ◌∙◌, ap}
use mathlib.Core.List.{List}
use mathlib.Core.Option.{none}
use Prim.Native.Nat.{ℕ}
use native.Mathlib.Omega.{arith}
use lib.ListN.{length}
use Rattle.std.proofs.Common.{Ok, Err}
use Rattle.fields.specs.declared.Refusal.TheVariants.{Short}
use Rattle.fields.specs.Refusals.{refusal_number}
use Rattle.story.specs.Results.{read_result_of}
use Rattle.rules.specs.Steps.{verdict}
use Rattle.rules.specs.Reader.{story_of}
use Rattle.rules.proofs.FileDemand.{file-demand3}
use Rattle.validator.specs.declared.Verdict.TheVariants.{Accepted}
use Rattle.validator.specs.declared.CheckRefusal.TheVariants.{Unreadable}
use Rattle.validator.specs.Results.{accepted, breach, checked, result_of}
use Rattle.validator.specs.Check.{judged_of, Report, story_report, report_of}
use Rattle.validator.specs.Demand.{Checks, Demand3}
use Rattle.validator.proofs.Impostors.{Room, empty_story, lost_divert, broken_knot, empty-report, empty-reported, lost-reported, knot-reported}
use Rattle.demands.specs.Demand1.{Reads, ReadClaim, CheckClaim}
use Rattle.demands.proofs.Refusals.{readable-exactly}
use Rattle.demands.proofs.Demand1.{refused-so, judged-so}

-- a story that is reported in breach is not accepted by a way of checking that meets demand 3
not-accepted : (Check : Checks) → Demand3 Check → (file : List ℕ) (i m : ℕ) {rule place entries size : ℕ} {names : ℕ × ℕ}
    → (report_of file i m).result ≡ checked (breach rule place names) entries size
    → (index message : List ℕ) (n : ℕ) (index' message' : List ℕ) → Check file index message (Ok (Accepted n)) index' message' → ⊥
unfolding judged_of result_of story_report
not-accepted Check d file i m told index message n index' message' p =
    let q = judged-so file i m told in
    let readable = (readable-exactly file).1 q.0 in
    let r = d.right file accepted (record {
      index = index;
      message = message;
      answer = Ok (Accepted n);
      index' = index';
      message' = message';
      check = p;
      entries = n;
      size = 0;
      judges = refl;
    }) in
    let clear : verdict (story_of file) ≡ none = (file-demand3.demand3-of-files file readable).accepted.1 (r.accepts.0 refl) in
    let e = sym (ap (λ (x : Report). x.result) q.1) ∙ told in
    let f = ap judged_of clear in
    let z : ◌≡◌ {A = ℕ} 0 1 = cc in
    omega arith

-- THE IMPOSTORS that 01 names with a demand, each against that demand, of any way of checking
pub record Impostors : Type 1 where
  -- one accepting all stories (demand 3)
  pub accepting-all : (Check : Checks) → Demand3 Check → (index message : List ℕ) (n : ℕ) (index' message' : List ℕ) → Check lost_divert index message (Ok (Accepted n)) index' message' → ⊥
  -- one walking the root and taking the flows as read (demand 3)
  pub flows-taken-as-read : (Check : Checks) → Demand3 Check → (index message : List ℕ) (n : ℕ) (index' message' : List ℕ)
      → Check broken_knot index message (Ok (Accepted n)) index' message' → ⊥
  -- one answering refusal 4 for all (demand 1's exact cases)
  pub refusing-all : (Check : Checks) → CheckClaim Check → (index message index' message' : List ℕ) → Room empty_story index message
      → Check empty_story index message (Err (Unreadable Short)) index' message' → ⊥
  -- the same of reading
  pub reading-none : (Read : Reads) → ReadClaim Read → (items items' : List ℕ) → Read empty_story items (Err Short) items' → ⊥

pub impostors : Impostors
unfolding result_of read_result_of refusal_number
impostors = record {
  accepting-all = λ Check d index message n index' message' p. not-accepted Check d lost_divert 21 640 lost-reported index message n index' message' p;
  flows-taken-as-read = λ Check d index message n index' message' p. not-accepted Check d broken_knot 126 640 knot-reported index message n index' message' p;
  refusing-all = λ Check d index message index' message' room p.
      let u = (d.refuses empty_story index message (Err (Unreadable Short)) index' message' p 4).0 refl in
      let e = sym (ap (λ (x : Report). x.result) (refused-so empty_story (length index) (length message) u)) ∙ empty-reported room in
      let z : ◌≡◌ {A = ℕ} 0 1 = cc in
      omega arith;
  reading-none = λ Read d items items' p.
      let readable = (judged-so empty_story 0 640 (ap (λ (x : Report). x.result) empty-report)).0 in
      readable 4 ((d.refuses empty_story items (Err Short) items' p 4).0 refl);
}
