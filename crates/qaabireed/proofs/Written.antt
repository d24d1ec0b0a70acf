-- What is written to the result buffer, and what a call promises. Assumes nothing.
use mathlib.Core.Path.{◌≡◌}
use mathlib.Core.List.{List}
use Prim.Native.Nat.{ℕ, ◌≤◌, ◌<◌, ◌^◌}
use native.Mathlib.Omega.{arith}
use lib.ListN.{length}
use Rattle.std.proofs.Common.{Ok, Err}
use borrow.Author.Tests.{lt-ltb, le-ltb}
use Rattle.records.specs.Buffers.{overlay}
use Rattle.validator.specs.declared.Breach.{Breach}
use Rattle.validator.specs.declared.Verdict.{Verdict}
use Rattle.validator.specs.declared.Verdict.TheVariants.{Accepted, Breached}
use Rattle.validator.specs.declared.CheckRefusal.{CheckRefusal}
use Rattle.validator.specs.Results.{Answer, number_of, result_of}
use Rattle.validator.specs.Checked.{Checked}
use Rattle.lookups.specs.declared.LookupRefusal.{LookupRefusal}
use Rattle.lookups.specs.declared.Answered.{Answered}
use Rattle.lookups.specs.declared.Target.{Target}
use Rattle.lookups.specs.declared.Target.TheVariants as target
use Rattle.lookups.specs.Results.{LookupAnswer, answer_of}
use Rattle.lookups.specs.Results as lookup
use Rattle.lookups.specs.Lookup.{Looked}
use Rattle.qaabireed.specs.Numbers.{result_numbers, answer_numbers, lookup_numbers, Narrow}
use Rattle.qaabireed.specs.Calls.{CheckCalled, LookupCalled}

-- a breach's numbers but its rule's have 32 bits
pub record Fits (b : Breach) : Type 0 where
  pub place : b.place < 2 ^ 32
  pub first : b.first < 2 ^ 32
  pub second : b.second < 2 ^ 32
  pub entries : b.entries < 2 ^ 32
  pub message : b.message < 2 ^ 32

-- the numbers of an answer have 32 bits, each case
module _ {a : Answer} (w : Narrow (result_numbers (result_of a))) where
  pub accepted-fits : {v : Verdict} {n : ℕ} → a ≡ Ok v → v ≡ Accepted n → n < 2 ^ 32
  unfolding result_numbers result_of
  accepted-fits e f = (rw (e, f) at w).1.1.1.1.1.0

  pub refusal-fits : {r : CheckRefusal} → a ≡ Err r → number_of r < 2 ^ 32
  unfolding result_numbers result_of
  refusal-fits e = (rw e at w).1.0

  pub breach-fits : {v : Verdict} {b : Breach} → a ≡ Ok v → v ≡ Breached b → Fits b
  unfolding result_numbers result_of
  breach-fits e f =
      let n = rw (e, f) at w in
      record { place = n.1.1.0; first = n.1.1.1.0; second = n.1.1.1.1.0; entries = n.1.1.1.1.1.0; message = n.1.1.1.1.1.1.0 }

-- the entry count of an answer has 32 bits
entries_fit : (a : lookup.Answer) (n : ℕ) → Narrow (answer_numbers a n) → n < 2 ^ 32
entries_fit lookup.pass n w = w.1.1.1.0
entries_fit lookup.function n w = w.1.1.1.0
entries_fit lookup.reserved n w = w.1.1.1.0
entries_fit (lookup.exact k) n w = w.1.1.1.0
entries_fit (lookup.ending k) n w = w.1.1.1.0
entries_fit lookup.missing n w = w.1.1.1.0

-- likewise of a lookup's answer
module _ {a : LookupAnswer} (w : Narrow (lookup_numbers (lookup.result_of a))) where
  pub lookup-refusal-fits : {r : LookupRefusal} → a ≡ Err r → lookup.number_of r < 2 ^ 32
  unfolding lookup_numbers lookup.result_of
  lookup-refusal-fits e = (rw e at w).1.0

  pub answered-fits : {f : Answered} → a ≡ Ok f → Narrow (answer_numbers (answer_of f.target) f.entries)
  unfolding lookup_numbers lookup.result_of
  answered-fits e = rw e at w

  pub answered-entries : {f : Answered} → a ≡ Ok f → f.entries < 2 ^ 32
  answered-entries {f} e = entries_fit (answer_of f.target) f.entries (answered-fits e)

-- likewise of what a target is
module _ (t : Target) (n : ℕ) (w : Narrow (answer_numbers (answer_of t) n)) where
  pub exact-fits : {k : ℕ} → t ≡ target.Exact k → k < 2 ^ 32
  unfolding answer_of
  exact-fits e = (rw e at w).1.1.0

  pub ending-fits : {k : ℕ} → t ≡ target.Ending k → k < 2 ^ 32
  unfolding answer_of
  ending-fits e = (rw e at w).1.1.0

-- a call with too short a buffer
pub call-refused : {file index message result : List ℕ} → length result < 7 → CheckCalled file index message result 1 index message result
call-refused {result = result} h = record {
  returned = rw (lt-ltb (length result) 7 h);
  index_is = rw (lt-ltb (length result) 7 h);
  message_is = rw (lt-ltb (length result) 7 h);
  result_is = rw (lt-ltb (length result) 7 h);
  told = λ k. absurd (omega arith);
}

-- a call that is answered
pub call-answered : {file index message result : List ℕ} {a : Answer} {index' message' result' : List ℕ} → 7 ≤ length result
    → Checked file index message a index' message' → result' ≡ overlay (result_numbers (result_of a)) result
    → CheckCalled file index message result 0 index' message' result'
call-answered {result = result} {a = a} h p e = record {
  returned = rw (le-ltb (length result) 7 h);
  index_is = rw (le-ltb (length result) 7 h) p.reported.index_is;
  message_is = rw (le-ltb (length result) 7 h) p.reported.message_is;
  result_is = rw (le-ltb (length result) 7 h, ← p.reported.result) e;
  told = λ k. record { answer = a; promise = p; numbers = e };
}

-- likewise a lookup
pub lookup-refused : {file index target result : List ℕ} → length result < 4 → LookupCalled file index target result 1 index result
lookup-refused {result = result} h = record {
  returned = rw (lt-ltb (length result) 4 h);
  index_is = rw (lt-ltb (length result) 4 h);
  result_is = rw (lt-ltb (length result) 4 h);
  told = λ k. absurd (omega arith);
}

pub lookup-answered : {file index target result : List ℕ} {a : LookupAnswer} {index' result' : List ℕ} → 4 ≤ length result
    → Looked file index target a index' → result' ≡ overlay (lookup_numbers (lookup.result_of a)) result
    → LookupCalled file index target result 0 index' result'
lookup-answered {result = result} {a = a} h l e = record {
  returned = rw (le-ltb (length result) 4 h);
  index_is = rw (le-ltb (length result) 4 h) l.index;
  result_is = rw (le-ltb (length result) 4 h, ← l.result) e;
  told = λ k. record { answer = a; promise = l; numbers = e };
}
