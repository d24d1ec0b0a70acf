-- A breach as the check answers it, with the message buffer after it.
use Rattle.std.specs.Prelude.{ℕ, ◌≡◌, List, length}
use Rattle.names.specs.Words.{Bytes}
use Rattle.names.specs.Counted.{name_at}
use Rattle.records.specs.Buffers.{overlay}
use Rattle.messages.specs.Messages.{message}
use Rattle.context.specs.declared.BreachAt.{BreachAt}
use Rattle.validator.specs.declared.Breach.{Breach}

-- the text of a breach, with the names that stand at its two places
abbrev pub text_at : List ℕ → BreachAt → Bytes
text_at file b = message b.rule (name_at file b.first) (name_at file b.second)

-- a breach with the entry count and the length of its text
abbrev pub counted : BreachAt → ℕ → ℕ → Breach
counted b entries size = record { rule = b.rule; place = b.place; first = b.first; second = b.second; entries = entries; message = size }

-- the answer is the breach with the length of its text, which stands at the message buffer's start; the rest stays
pub record Told (file : List ℕ) (b : BreachAt) (entries : ℕ) (before : List ℕ) (r : Breach) (after : List ℕ) : Type 0 where
  pub answer : r ≡ counted b entries (length (text_at file b))
  pub written : after ≡ overlay (text_at file b) before
