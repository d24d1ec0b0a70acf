-- A body's set without slots: all temps are gone through, and no gather was met; and so a knot's. Assumes nothing.
use mathlib.Core.Path.{◌≡◌, refl}
use mathlib.Core.List.{List, []}
use Prim.Native.Nat.{ℕ}
use native.Mathlib.Omega.{arith}
use lib.ListN.{length}
use Rattle.sets.specs.Sets.{name_slots, Empty}
use Rattle.sets.proofs.Holding.{empty-without}
use Rattle.sets.proofs.Passing.{members-none, members-start}
use Rattle.broken.specs.declared.Site.{Site}
use Rattle.broken.specs.Scopes.{body_run, KnotSet, BodySet, own_run, knot_run}

no-slots : Empty []
no-slots = record { slot = λ i. refl }

pub idle_body : (file kept : List ℕ) (s : Site) → s.rests.own ≡ 0 → s.rests.gathers ≡ 0 → BodySet file kept s 0 []
idle_body file kept s o g = record {
  temps = rw o (members-none (length (body_run kept s.scope)) (empty-without (name_slots file) 1 no-slots) (omega arith));
  gathers = rw g (members-start (empty-without (name_slots file) 2 no-slots));
}

pub idle-knot : (file kept : List ℕ) (s : Site) → s.rests.labels ≡ 0 → s.rests.temps ≡ 0 → KnotSet file kept s []
idle-knot file kept s l t = record {
  labels = rw l (members-none (length (knot_run kept s.scope)) (empty-without (name_slots file) 0 no-slots) (omega arith));
  temps = rw t (members-none (length (own_run kept s.scope)) (empty-without (name_slots file) 1 no-slots) (omega arith));
}
