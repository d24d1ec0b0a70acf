-- What a call of the library promises, for any bytes and any buffers.
use Rattle.std.specs.Prelude.{ℕ, ◌≤◌, ◌≡◌, Bool, List, length, ltb}
use Rattle.fields.specs.Bytes.{pick}
use Rattle.records.specs.Buffers.{overlay}
use Rattle.validator.specs.Results.{Answer, result_of}
use Rattle.validator.specs.Check.{report_of}
use Rattle.validator.specs.Checked.{Checked}
use Rattle.lookups.specs.Results.{LookupAnswer}
use Rattle.lookups.specs.Results as lookup
use Rattle.lookups.specs.Lookup.{lookup_of, lookup_index, Looked}
use Rattle.qaabireed.specs.Numbers.{result_numbers, lookup_numbers}

-- a check's result has seven numbers
abbrev pub short_result : List ℕ → Bool
short_result result = ltb (length result) 7

-- what is written keeps the promise of a check, demand 3 in it, and the result has the numbers of the answer
pub record CheckTold (file index message result index' message' result' : List ℕ) : Type 0 where
  pub answer : Answer
  pub promise : Checked file index message answer index' message'
  pub numbers : result' ≡ overlay (result_numbers (result_of answer)) result

-- THE PROMISE of a call of the check: 1 and nothing written where the result buffer is too short; else 0, and each buffer has at its
-- start what is reported and the rest as it was
pub record CheckCalled (file index message result : List ℕ) (r : ℕ) (index' message' result' : List ℕ) : Type 0 where
  pub returned : r ≡ pick (short_result result) 1 0
  pub index_is : index' ≡ pick (short_result result) index (overlay (report_of file (length index) (length message)).numbers index)
  pub message_is : message' ≡ pick (short_result result) message (overlay (report_of file (length index) (length message)).text message)
  pub result_is : result' ≡ pick (short_result result) result (overlay (result_numbers (report_of file (length index) (length message)).result) result)
  pub told : 7 ≤ length result → CheckTold file index message result index' message' result'

-- a lookup's result has four numbers
abbrev pub short_lookup : List ℕ → Bool
short_lookup result = ltb (length result) 4

-- what is written keeps the promise of a lookup, and the result has the numbers of the answer
pub record LookupTold (file index target result index' result' : List ℕ) : Type 0 where
  pub answer : LookupAnswer
  pub promise : Looked file index target answer index'
  pub numbers : result' ≡ overlay (lookup_numbers (lookup.result_of answer)) result

-- THE PROMISE of a call of the lookup, likewise
pub record LookupCalled (file index target result : List ℕ) (r : ℕ) (index' result' : List ℕ) : Type 0 where
  pub returned : r ≡ pick (short_lookup result) 1 0
  pub index_is : index' ≡ pick (short_lookup result) index (lookup_index file index)
  pub result_is : result' ≡ pick (short_lookup result) result (overlay (lookup_numbers (lookup_of file (length index) target)) result)
  pub told : 4 ≤ length result → LookupTold file index target result index' result'
