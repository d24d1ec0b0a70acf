-- What visits of entries have in common: entries can be visited part by part. Assumes nothing.
use Rattle.std.specs.Prelude.{List, [], ◌++◌}
use Rattle.symbols.specs.declared.Places.{Places}

pub record VisitLaws {V : Type 0} (ready : V → List Places → Type 0) (visited : V → List Places → V → Type 0) : Type 0 where
  -- no entry
  pub none : (v : V) (ps : List Places) → ready v ps → visited v [] v
  -- entries, and others after them
  pub append : (u v w : V) (ps qs : List Places) → visited u ps v → visited v qs w → visited u (ps ++ qs) w
  -- the first of entries that can be visited
  pub front : (v : V) (ps qs : List Places) → ready v (ps ++ qs) → ready v ps
  -- those after them
  pub rest : (u v : V) (ps qs : List Places) → ready u (ps ++ qs) → visited u ps v → ready v qs
