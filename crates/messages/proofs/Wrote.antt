-- Bytes written over a buffer: byte by byte, pieces one after the other, and a text that fits. Assumes nothing.
use mathlib.Core.Path.{◌≡◌, sym, ◌∙◌, ap}
use mathlib.Core.List.{List, ◌++◌, append_assoc}
use Prim.Native.Nat.{ℕ, ◌+◌, ◌≤◌, ◌<◌}
use native.Mathlib.Nat.{add_assoc, zero-add}
use native.Mathlib.Numerals.{add-one}
use native.Mathlib.Omega.{arith}
use lib.ListN.{length, take, drop, get_or, set, length-set, length-append}
use lib.Seq.{paste, paste-suc, take-paste, drop-paste, take-length, drop-drop}
use Rattle.names.specs.Words.{Bytes}
use Rattle.rules.specs.declared.Rule.{Rule}
use Rattle.messages.specs.Messages.{message, Wrote, Message}

-- the first i bytes of a piece are copied into the buffer from `at` on
pub record Copied (buffer : List ℕ) (at : ℕ) (piece : Bytes) (i : ℕ) (now : List ℕ) : Type 0 where
  pub so_far : now ≡ paste buffer at piece i
  pub within : i ≤ length piece
  pub size : length now ≡ length buffer

module _ {buffer : List ℕ} {at : ℕ} {piece : Bytes} {i : ℕ} {now : List ℕ} (fits : at + length piece ≤ length buffer) (c : Copied buffer at piece i now) where
  pub copy-next : i < length piece → Copied buffer at piece (i + 1) (set now (at + i) (get_or piece i 0))
  copy-next more = record {
    so_far = ap (λ (l : List ℕ). set l (at + i) (get_or piece i 0)) c.so_far ∙ paste-suc buffer at piece i 0 (omega arith) more ∙ rw (← add-one i);
    within = omega arith;
    size = length-set now (at + i) (get_or piece i 0) ∙ c.size;
  }

-- a piece, and then another
module _ {a : List ℕ} {at : ℕ} {p : Bytes} {b : List ℕ} {n : ℕ} (w : Wrote a at p b n) (fits : at + length p ≤ length a) where
  copied : b ≡ paste a at p (length p)
  copied = w.written ∙ rw take-length

  wrote-take : take n b ≡ take at a ++ p
  wrote-take = rw (w.ends, copied) (take-paste a at p (length p) (omega arith) (omega arith) ∙ rw take-length)

  wrote-drop : (k : ℕ) → drop (n + k) b ≡ drop (at + (length p + k)) a
  wrote-drop k =
      let e : drop n b ≡ drop (at + length p) a = rw (w.ends, copied) (drop-paste a at p (length p) (omega arith) (omega arith)) in
      sym (drop-drop k n b) ∙ ap (drop k) e ∙ drop-drop k (at + length p) a ∙ rw add_assoc

  pub wrote_then : {q : Bytes} {c : List ℕ} {m : ℕ} → Wrote b n q c m → Wrote a at (p ++ q) c m
  wrote_then {q} v = record {
    ends = omega (arith, v.ends, w.ends, length-append p q);
    written = v.written ∙ rw (wrote-take, wrote-drop (length q), append_assoc (take at a) p q, length-append);
  }

-- a message is what is written from the start on
pub from_start : {rule : Rule} {first second : Bytes} {buffer after : List ℕ} {size : ℕ}
    → Wrote buffer 0 (message rule first second) after size → Message rule first second buffer after size
from_start w = record { length_is = omega (arith, w.ends); written = w.written ∙ rw zero-add }
