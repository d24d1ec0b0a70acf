-- Names and pieces to the end: one of them, then the rest. Assumes nothing.
use Rattle.std.specs.Prelude.{Result, Ok}
use mathlib.Core.Path.{◌≡◌, refl}
use mathlib.Core.List.{List}
use Prim.Native.Nat.{ℕ, ◌+◌, ◌-◌, ◌≤◌, ◌<◌}
use native.Mathlib.Omega.{arith}
use lib.ListN.{length, take, drop}
use Rattle.fields.specs.declared.Refusal.{Refusal}
use Rattle.fields.specs.Bytes.{Span, list_of, name_of, span_reach}
use Rattle.fields.proofs.Laws.{span_to}
use Rattle.records.specs.Trace.{shift, well, refused, ends}
use Rattle.records.specs.Grammar.{Reading, repeat, named_at, named, piece_at, piece}
use Rattle.records.proofs.Readings.{Local, repeat-none, repeat-step, piece-local}
use Rattle.story.specs.Flows.{names}
use Rattle.story.proofs.Endings.{then_ends, ends-then, ends-shift}

-- 1. Names

named-local : Local named
unfolding Local named_at
named-local s j k e = by_name (name_of s)
  where
    by_name : (r : Span) → named_at r j s ≡ named_at r k s
    by_name (Span.Bytes n) = rw (e (1 + n) (omega arith))
    by_name (Span.Refused r) = refl

module _ (s : List ℕ) where
  pub names-none : length s ≤ 0 → ends (names s) ≡ well
  unfolding names ends
  names-none h = rw (repeat-none named s h)

  -- the ending of names is that of those after the first
  pub names-on : (k : ℕ) {r : Span} → 0 < length s → r ≡ name_of s → r ≡ Span.Bytes k → ends (names s) ≡ ends (names (drop (1 + k) s))
  unfolding names named_at
  names-on k h p q = rw (repeat-step named named-local s h, ← p, q) (ends-shift (1 + k) (repeat named (drop (1 + k) s)))

  -- the same, as the code learns of the first
  pub names-to : (to : ℕ) {r : Result ℕ Refusal} → 0 < length s → r ≡ span_reach 1 (name_of s) → r ≡ Ok to → ends (names s) ≡ ends (names (drop to s))
  names-to to h e q =
      let first = span_to 1 (name_of s) e to q in
      rw (← first.1) (names-on (to - 1) h refl first.0)

  pub names-refused : {x : Refusal} {r : Span} → 0 < length s → r ≡ name_of s → r ≡ Span.Refused x → ends (names s) ≡ refused x
  unfolding names named_at ends
  names-refused h p q = rw (repeat-step named named-local s h, ← p, q)

-- 2. Pieces

module _ (g : Reading) where
  module _ (s : List ℕ) where
    pub pieces-end-refused : {x : Refusal} {r : Span} → 0 < length s → r ≡ list_of s → r ≡ Span.Refused x → ends (repeat (piece g) s) ≡ refused x
    unfolding piece_at ends
    pieces-end-refused h p q = rw (repeat-step (piece g) (piece-local g) s h, ← p, q)

    -- the ending of the first piece, or that of those after it
    pub pieces_step : (n : ℕ) {r : Span} → 0 < length s → r ≡ list_of s → r ≡ Span.Bytes n
        → ends (repeat (piece g) s) ≡ then_ends (ends (g (take n (drop 4 s)))) (ends (repeat (piece g) (drop (4 + n) s)))
    unfolding piece_at
    pieces_step n h p q =
        rw (repeat-step (piece g) (piece-local g) s h, ← p, q, ends-then (shift 4 (g (take n (drop 4 s)))) (shift (4 + n) (repeat (piece g) (drop (4 + n) s))), ends-shift 4 (g (take n (drop 4 s))), ends-shift (4 + n) (repeat (piece g) (drop (4 + n) s)))
