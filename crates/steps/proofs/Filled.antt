-- The sets of a knot and of a body, once they are filled. Assumes nothing.
use Prim.Native.Nat.{ℕ}
use mathlib.Core.Path.{refl}
use mathlib.Core.List.{List}
use native.Mathlib.Omega.{arith}
use lib.ListN.{length}
use Rattle.items.specs.declared.named.Sought.TheVariants as sought
use Rattle.sets.specs.Sets.{name_slots, Empty, Without}
use Rattle.sets.specs.Members.{MembersPut}
use Rattle.sets.proofs.Holding.{empty-without}
use Rattle.sets.proofs.Passing.{members-none, members-start, members-same, without-members}
use Rattle.broken.specs.declared.Scope.{Scope}
use Rattle.broken.specs.declared.Site.{Site}
use Rattle.broken.specs.Scopes.{body_run, own_run, knot_run}
use Rattle.steps.specs.Fillings.{KnotPut, BodyPut}

-- the knot: its labels were put, and then its temps
pub knot-put : (file kept : List ℕ) (s : Scope) {empty middle set : List ℕ} {labels temps : ℕ}
    → MembersPut sought.Label file 0 (knot_run kept s) (length (knot_run kept s)) empty middle labels
    → MembersPut sought.Temp file 1 (own_run kept s) (length (own_run kept s)) middle set temps
    → KnotPut file kept s (record { labels = labels; temps = temps; own = 0; gathers = 0 }) set
knot-put file kept s p q = record {
  filled = record {
    labels = members-same p.members (q.others 0 (λ e. omega arith)) q.members.reachable;
    temps = q.members;
  };
  own = refl;
  gathers = refl;
}

module _ (file kept : List ℕ) (s : Site) {empty : List ℕ} (e : Empty empty) where
  -- the body: its temps were put
  pub body-put : {set : List ℕ} {own : ℕ} → MembersPut sought.Temp file 1 (body_run kept s.scope) (length (body_run kept s.scope)) empty set own
      → BodyPut file kept s (record { labels = s.rests.labels; temps = s.rests.temps; own = own; gathers = 0 }) set
  body-put {set} p =
      let none : Without (name_slots file) 2 set = without-members p (λ z. omega arith) (empty-without (name_slots file) 2 e) in
      record {
        filled = record { temps = p.members; gathers = members-start none };
        no_gathers = none;
        labels = refl;
        temps = refl;
        gathers = refl;
      }

  -- its temps are left
  pub body-left : BodyPut file kept s (record { labels = s.rests.labels; temps = s.rests.temps; own = 0; gathers = 0 }) empty
  body-left =
      let none = empty-without (name_slots file) 2 e in
      record {
        filled = record {
          temps = members-none (length (body_run kept s.scope)) (empty-without (name_slots file) 1 e) (omega arith);
          gathers = members-start none;
        };
        no_gathers = none;
        labels = refl;
        temps = refl;
        gathers = refl;
      }
