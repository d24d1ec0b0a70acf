-- No message is longer than 640 bytes: `message_fits`. Assumes nothing.
use Prim.Native.Nat.{◌≤◌}
use native.Mathlib.Omega.{arith}
use lib.Dec.{lit≤}
use lib.ListN.{length, length-append}
use Rattle.names.specs.Words.{Bytes}
use Rattle.rules.specs.declared.Rule.{Rule}
use Rattle.rules.specs.declared.Rule.TheVariants.{FunctionDivertedTo, TargetNotFound, FlowCalled, NameIsFunction, NameIsGlobal, TempIsParameter, TempIsLabel, ParameterUnmarked, ParameterAlreadyMarked, GatherRepeated, ChoiceUndiverted, FunctionWithStitches, FunctionWithChoice, FunctionWithDivert, VariableForbidden}
use Rattle.messages.specs.Messages.{message}

pub message_fits : (r : Rule) (a b : Bytes) → length a ≤ 255 → length b ≤ 255 → length (message r a b) ≤ 640
unfolding message
message_fits FunctionDivertedTo a b h i = simp length-append (omega arith)
message_fits TargetNotFound a b h i = simp length-append (omega arith)
message_fits FlowCalled a b h i = simp length-append (omega arith)
message_fits NameIsFunction a b h i = simp length-append (omega arith)
message_fits NameIsGlobal a b h i = simp length-append (omega arith)
message_fits TempIsParameter a b h i = simp length-append (omega arith)
message_fits TempIsLabel a b h i = simp length-append (omega arith)
message_fits ParameterUnmarked a b h i = simp length-append (omega arith)
message_fits ParameterAlreadyMarked a b h i = simp length-append (omega arith)
message_fits GatherRepeated a b h i = simp length-append (omega arith)
message_fits ChoiceUndiverted a b h i = lit≤ tt
message_fits FunctionWithStitches a b h i = simp length-append (omega arith)
message_fits FunctionWithChoice a b h i = simp length-append (omega arith)
message_fits FunctionWithDivert a b h i = simp length-append (omega arith)
message_fits VariableForbidden a b h i = simp length-append (omega arith)
