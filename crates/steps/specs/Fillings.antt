-- Inner contract. What the sets of a knot and of a body hold once they are filled. Assumes nothing.
use Rattle.std.specs.Prelude.{ℕ, ◌≡◌, List}
use Rattle.sets.specs.Sets.{name_slots, Without}
use Rattle.broken.specs.declared.Scope.{Scope}
use Rattle.broken.specs.declared.Rests.{Rests}
use Rattle.broken.specs.declared.Site.{Site}
use Rattle.broken.specs.Scopes.{KnotSet, BodySet}

-- the site with other rests
abbrev pub with_rests : Site → Rests → Site
with_rests s r = record { scope = s.scope; rests = r }

-- the knot's set is filled, and nothing of a body is in a set yet
pub record KnotPut (file kept : List ℕ) (s : Scope) (r : Rests) (set : List ℕ) : Type 0 where
  pub filled : KnotSet file kept (record { scope = s; rests = r }) set
  pub own : r.own ≡ 0
  pub gathers : r.gathers ≡ 0

-- the body's set is filled, before its first item and without gathers; the rests of the knot are as before
pub record BodyPut (file kept : List ℕ) (s : Site) (r : Rests) (set : List ℕ) : Type 0 where
  pub filled : BodySet file kept (with_rests s r) 0 set
  pub no_gathers : Without (name_slots file) 2 set
  pub labels : r.labels ≡ s.rests.labels
  pub temps : r.temps ≡ s.rests.temps
  pub gathers : r.gathers ≡ 0
