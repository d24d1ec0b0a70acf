-- A number's digits are those that the library writes; and nothing written. Assumes nothing.
use mathlib.Core.Path.{◌≡◌, sym}
use mathlib.Core.List.{List, [], append-nil}
use Prim.Native.Nat.{ℕ, ◌+◌, ◌<◌, ◌^◌}
use native.Mathlib.Omega.{arith}
use lib.ListN.{take-append-drop}
use borrow.Author.Rules.{rules}
use borrow.Author.Tests.{lt-ltb, le-ltb}
use Rattle.std.specs.Fmt.{decimal}
use Rattle.std.proofs.lemmas.Fmt.{AppendsLastDigit, decimal_from_appends, length-decimal-le}
use Rattle.messages.specs.Messages.{Wrote}
use Rattle.lines.specs.Lines.{digits}

appends : AppendsLastDigit digits
unfolding digits
appends = record { one = λ k n l. rw (lt-ltb n 10 l); more = λ k n l. rw (le-ltb n 10 l) }

pub digits-written : (n : ℕ) → n < 2 ^ 64 → digits 20 n ≡ decimal n
digits-written n h = decimal_from_appends digits appends 20 n h (search (rules, length-decimal-le 20))

-- nothing written changes nothing
pub wrote_none : {a : List ℕ} {at : ℕ} → Wrote a at [] a at
wrote_none {a} {at} = record { ends = omega arith; written = let e : at + 0 ≡ at = omega arith in rw (e, append-nil) (sym (take-append-drop at a)) }
