-- How reading a flow ends: by its flag, and by what follows it. Assumes nothing.
use Rattle.std.specs.Prelude.{Result, Ok, Err, true, false, Bool}
use Rattle.fields.specs.declared.Refusal.{Refusal}
use mathlib.Core.Path.{◌≡◌, refl}
use mathlib.Core.List.{List}
use Prim.Native.Nat.{ℕ}
use lib.ListN.{drop}
use Rattle.fields.specs.Bytes.{flag_of}
use Rattle.records.specs.Trace.{Ending, refused, ends}
use Rattle.records.specs.Grammar.{Reading, flagged_at}
use Rattle.story.specs.Flows.{titled, flow, stitches}
use Rattle.story.proofs.Endings.{ends-shift}

-- the ending of what follows a flag, unless the flag is refused
unfoldable pub flag_ends : Result Bool Refusal → Ending → Ending
flag_ends (Ok false) e = e
flag_ends (Ok true) e = e
flag_ends (Err x) e = refused x

flag-ends : (j : Reading) (s : List ℕ) (r : Result Bool Refusal) → ends (flagged_at r j j s) ≡ flag_ends r (ends (j (drop 1 s)))
unfolding flagged_at flag_ends ends
flag-ends j s (Ok false) = ends-shift 1 (j (drop 1 s))
flag-ends j s (Ok true) = ends-shift 1 (j (drop 1 s))
flag-ends j s (Err x) = refl

pub flow-ends : (s : List ℕ) → ends (flow s) ≡ flag_ends (flag_of s) (ends (titled stitches (drop 1 s)))
unfolding flow
flow-ends s = flag-ends (titled stitches) s (flag_of s)
