-- Parts of a file as the code takes them: what is left behind an offset, and a payload. Assumes nothing.
use Rattle.std.specs.Prelude.{Result, Ok, Err}
use mathlib.Core.Path.{◌≡◌}
use mathlib.Core.List.{List, []}
use Prim.Native.Nat.{ℕ, ◌-◌}
use lib.ListN.{length, take, drop}
use lib.Seq.{take-nil, drop-length}
use Rattle.fields.specs.declared.Refusal.{Refusal}
use Rattle.fields.specs.Bytes.{head_of, read_of_head}
use Rattle.fields.proofs.Laws.{head-to, head-refused}
use Rattle.records.specs.Numbers.{payload_behind, payload_at}

-- the part behind the last byte
pub part_none : (s : List ℕ) → take (length s - length s) (drop (length s) s) ≡ []
part_none s = rw (drop-length s) (take-nil (length s - length s))

-- a payload
module _ (file : List ℕ) (place : ℕ) {s : List ℕ} (there : s ≡ drop place file) {h : Result (ℕ × ℕ) Refusal} (read : h ≡ read_of_head (head_of s)) where
  pub payload-none : (x : Refusal) → h ≡ Err x → take (length s - length s) (drop (length s) s) ≡ payload_at file place
  unfolding payload_at payload_behind
  payload-none x e = rw (← there, head-refused (head_of s) read x e) (part_none s)

  pub payload-whole : (kind to : ℕ) → h ≡ Ok (kind, to) → take (to - 5) (drop 5 s) ≡ payload_at file place
  unfolding payload_at payload_behind
  payload-whole kind to e = rw (← there, (head-to (head_of s) read kind to e).0)
