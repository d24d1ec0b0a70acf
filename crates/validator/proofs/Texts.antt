-- A breach's text, written: `told`; names are not too long for it. Assumes nothing.
use mathlib.Core.Path.{◌≡◌, ap}
use mathlib.Core.List.{List}
use Prim.Native.Nat.{ℕ, ◌≤◌, ◌<◌}
use native.Mathlib.Omega.{arith}
use lib.ListN.{length, get_or}
use Rattle.names.specs.Words.{Bytes}
use Rattle.names.specs.Counted.{name_at}
use Rattle.names.proofs.Counted.{name-length}
use Rattle.records.specs.Buffers.{overlay}
use Rattle.messages.specs.Messages.{Message}
use Rattle.context.specs.declared.BreachAt.{BreachAt}
use Rattle.validator.specs.Answers.{counted, Told}

-- a name's count is a byte
pub name-fits : {name : Bytes} (file : List ℕ) (at : ℕ) → name ≡ name_at file at → get_or file at 0 < 256 → length name ≤ 255
name-fits file at e h = rw e (omega (arith, name-length file at))

pub told : {file : List ℕ} {b : BreachAt} {first second : Bytes} {entries : ℕ} {before after : List ℕ} {size : ℕ}
    → first ≡ name_at file b.first → second ≡ name_at file b.second → Message b.rule first second before after size
    → Told file b entries before (counted b entries size) after
unfolding overlay
told {b = b} {entries = entries} e f m = record {
  answer = ap (counted b entries) (rw (e, f) at m.length_is);
  written = rw (e, f) at m.written;
}
