-- The fifteen texts, byte for byte those of the Rust, with names put in; and a buffer with bytes written over it. Assumes nothing.
use Rattle.std.specs.Prelude.{◌≡◌, List, ◌++◌, ℕ, ◌+◌, length, take, drop}
use Rattle.names.specs.Words.{Bytes}
use Rattle.names.specs.Text.{ascii}
use Rattle.rules.specs.declared.Rule.{Rule}
use Rattle.rules.specs.declared.Rule.TheVariants.{FunctionDivertedTo, TargetNotFound, FlowCalled, NameIsFunction, NameIsGlobal, TempIsParameter, TempIsLabel, ParameterUnmarked, ParameterAlreadyMarked, GatherRepeated, ChoiceUndiverted, FunctionWithStitches, FunctionWithChoice, FunctionWithDivert, VariableForbidden}

-- a text around one name
abbrev pub around : Bytes → Bytes → Bytes → Bytes
around opening name closing = opening ++ (name ++ closing)

-- a text around two names
abbrev pub around_both : Bytes → Bytes → Bytes → Bytes → Bytes → Bytes
around_both opening first middle second closing = opening ++ (first ++ around middle second closing)

-- THE TEXTS, by rule and the bytes of the two names: rule 8 has its name twice, and only rule 14 has a second name
unfoldable pub message : Rule → Bytes → Bytes → Bytes
message FunctionDivertedTo a b = around (ascii "Function '") a (ascii "' can only be called as a function, not diverted to")
message TargetNotFound a b = around (ascii "Divert target not found: '-> ") a (ascii "'")
message FlowCalled a b = around (ascii "'") a (ascii "' hasn't been marked as a function, but it's being called as one")
message NameIsFunction a b = around (ascii "The name '") a (ascii "' has already been used for a function.")
message NameIsGlobal a b = around (ascii "The name '") a (ascii "' has already been used for a var declaration.")
message TempIsParameter a b = around (ascii "The name '") a (ascii "' has already been used as a parameter name.")
message TempIsLabel a b = around (ascii "The name '") a (ascii "' has already been used for a choice or gather label.")
message ParameterUnmarked a b = around_both (ascii "Since '") a (ascii "' is used as a variable divert target, it should be marked as: -> ") a (ascii "")
message ParameterAlreadyMarked a b = around (ascii "The parameter '") a (ascii "' is already a divert target; it shouldn't be preceded by '->'.")
message GatherRepeated a b = around (ascii "A gather point with the same label '") a (ascii "' already exists in this scope.")
message ChoiceUndiverted a b = ascii "Choices with conditions need to explicitly divert afterwards."
message FunctionWithStitches a b = around (ascii "Function '") a (ascii "' may not contain stitches.")
message FunctionWithChoice a b = around (ascii "Function '") a (ascii "' may not contain choices.")
message FunctionWithDivert a b = around_both (ascii "Function '") a (ascii "' may not contain diverts (found '-> ") b (ascii "').")
message VariableForbidden a b = around (ascii "Unresolved variable: ") a (ascii "")

-- the buffer with the bytes written over it from `at` on; the rest stays
abbrev pub overwritten : List ℕ → ℕ → Bytes → List ℕ
overwritten buffer at bytes = take at buffer ++ bytes ++ drop (at + length bytes) buffer

-- what writing bytes from `at` on does: where they end, and the buffer after it
pub record Wrote (buffer : List ℕ) (at : ℕ) (bytes : Bytes) (after : List ℕ) (end : ℕ) : Type 0 where
  pub ends : end ≡ at + length bytes
  pub written : after ≡ overwritten buffer at bytes

-- the message is written from the buffer's start, and the rest stays; its length is answered
pub record Message (rule : Rule) (first second : Bytes) (buffer after : List ℕ) (size : ℕ) : Type 0 where
  pub length_is : size ≡ length (message rule first second)
  pub written : after ≡ message rule first second ++ drop (length (message rule first second)) buffer
