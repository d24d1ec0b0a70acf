-- 01's number and values for each case of a lookup's answer. Assumes nothing.
use Rattle.std.specs.Prelude.{ℕ, Ok, Err}
use Rattle.std.specs.Prelude as std
use Rattle.fields.specs.Refusals.{refusal_number}
use Rattle.lookups.specs.declared.Target.{Target}
use Rattle.lookups.specs.declared.Target.TheVariants as target
use Rattle.lookups.specs.declared.Answered.{Answered}
use Rattle.lookups.specs.declared.LookupRefusal.{LookupRefusal}
use Rattle.lookups.specs.declared.LookupRefusal.TheVariants.{Unreadable, ShortIndex}

-- what a lookup returns
abbrev pub LookupAnswer : Type 0
LookupAnswer = std.Result Answered LookupRefusal

-- what a lookup answers of a target; an entry is named by its number in the index, from 0
pub data Answer : Type 0 where
  pass : Answer
  function : Answer
  reserved : Answer
  exact : ℕ → Answer
  ending : ℕ → Answer
  missing : Answer

-- a refusal by its number; or an answer, with the entry count
pub data Result : Type 0 where
  refused : ℕ → Result
  answered : Answer → ℕ → Result

-- the answer by its name and value
unfoldable pub answer_of : Target → Answer
answer_of target.Pass = pass
answer_of target.Function = function
answer_of target.Reserved = reserved
answer_of (target.Exact k) = exact k
answer_of (target.Ending k) = ending k
answer_of target.Missing = missing

-- the number of a refusal
abbrev pub number_of : LookupRefusal → ℕ
number_of (Unreadable r) = refusal_number r
number_of ShortIndex = 7

-- THE NUMBERS AND VALUES of each case
unfoldable pub result_of : LookupAnswer → Result
result_of (Err r) = refused (number_of r)
result_of (Ok a) = answered (answer_of a.target) a.entries
