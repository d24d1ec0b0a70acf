-- 01's number and values for each case of the check's answer.
use Rattle.std.specs.Prelude.{ℕ, Ok, Err}
use Rattle.std.specs.Prelude as std
use Rattle.fields.specs.Refusals.{refusal_number}
use Rattle.rules.specs.Rules.{number}
use Rattle.validator.specs.declared.Verdict.{Verdict}
use Rattle.validator.specs.declared.Verdict.TheVariants.{Accepted, Breached}
use Rattle.validator.specs.declared.CheckRefusal.{CheckRefusal}
use Rattle.validator.specs.declared.CheckRefusal.TheVariants.{Unreadable, ShortIndex, ShortMessage}

-- what a check returns
abbrev pub Answer : Type 0
Answer = std.Result Verdict CheckRefusal

-- accepted, or a breach by its rule, its place and the places of its two names
pub data Judged : Type 0 where
  accepted : Judged
  breach : ℕ → ℕ → ℕ × ℕ → Judged

-- a refusal by its number; or accepted or a breach, with the entry count and the message length
pub data Result : Type 0 where
  refused : ℕ → Result
  checked : Judged → ℕ → ℕ → Result

-- the number of a refusal
abbrev pub number_of : CheckRefusal → ℕ
number_of (Unreadable r) = refusal_number r
number_of ShortIndex = 7
number_of ShortMessage = 8

-- THE NUMBERS AND VALUES of each case
unfoldable pub result_of : Answer → Result
result_of (Ok (Accepted n)) = checked accepted n 0
result_of (Ok (Breached b)) = checked (breach (number b.rule) b.place (b.first, b.second)) b.entries b.message
result_of (Err r) = refused (number_of r)
