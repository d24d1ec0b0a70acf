-- Entries visited one after the other, by any visitor. Assumes nothing.
use mathlib.Core.Path.{◌≡◌, ◌∙◌}
use mathlib.Core.List.{List, [], ◌++◌, append_assoc, append-nil}
use Rattle.symbols.specs.declared.Places.{Places}
use Rattle.symbols.specs.Visits.{VisitLaws}

-- of all entries, those met were visited, and the rest is left
pub record Visiting {V : Type 0} (visited : V → List Places → V → Type 0) (start : V) (all : List Places) (now : V) (rest : List Places) : Type 0 where
  pub met : List Places
  pub whole : all ≡ met ++ rest
  pub done : visited start met now

module _ {V : Type 0} {ready : V → List Places → Type 0} {visited : V → List Places → V → Type 0} (w : VisitLaws ready visited) where
  -- all are left, by the parts in which they are visited
  pub visiting-parts : {v : V} {all parts : List Places} → all ≡ parts → ready v all → Visiting visited v all v parts
  visiting-parts {v} {all} e r = record { met = []; whole = e; done = w.none v all r }

  -- the first of them can be visited
  pub ready-first : {v : V} {all : List Places} (ps more : List Places) → all ≡ ps ++ more → ready v all → ready v ps
  ready-first {v} ps more e r = w.front v ps more (rw e at r)

  module _ {start : V} {all : List Places} {now : V} {rest : List Places} (v : Visiting visited start all now rest) where
    -- none is left
    pub visiting-end : rest ≡ [] → visited start all now
    visiting-end e = rw (v.whole, e, append-nil) v.done

    -- the next can be visited
    pub visiting-ready : (ps more : List Places) → rest ≡ ps ++ more → ready start all → ready now ps
    visiting-ready ps more e r = w.front now ps more (rw e at (w.rest start now v.met rest (rw v.whole at r) v.done))

    -- the next were visited
    pub visiting-many : {ps more : List Places} {next : V} → rest ≡ ps ++ more → visited now ps next → Visiting visited start all next more
    visiting-many {ps} {more} {next} e d = record {
      met = v.met ++ ps;
      whole = v.whole ∙ rw (e, append_assoc v.met ps more);
      done = w.append start now next v.met ps v.done d;
    }
