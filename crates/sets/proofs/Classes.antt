-- The names of the story put class after class. Assumes nothing.
use mathlib.Core.Path.{◌≡◌}
use mathlib.Core.List.{List}
use Prim.Native.Nat.{ℕ}
use native.Mathlib.Omega.{arith}
use Rattle.story.specs.declared.Sections.{Sections}
use Rattle.story.specs.File.{story_in}
use Rattle.sets.specs.Sets.{name_slots, Empty, Without}
use Rattle.sets.specs.Known.{NamesPut, FlowsPut, NamesIn}
use Rattle.sets.proofs.Holding.{empty-without, without-same, same_next}

module _ {file : List ℕ} (c : Sections) {a b : List ℕ} {g : ℕ} (e : Empty a) (p : NamesPut file 0 0 c.externals a b g) where
  -- after the globals there is no name in another class
  pub without-externals : Without (name_slots file) 1 b
  without-externals = without-same (empty-without (name_slots file) 1 e) (p.others 1 (λ z. omega arith)) p.names

  module _ {d : List ℕ} {x : ℕ} (q : NamesPut file 1 c.externals c.root b d x) where
    -- after the externals there is none in the class of flows, and of functions
    pub without-class : (class : ℕ) → (class ≡ 0 → ⊥) → (class ≡ 1 → ⊥) → Without (name_slots file) class d
    without-class class z y = without-same (empty-without (name_slots file) class e) (same_next (p.others class z) (q.others class y)) q.names

    -- all four classes
    pub names_in : {f : List ℕ} {w : ℕ} → FlowsPut file c d f w → NamesIn file c f (record { globals = g; externals = x; flows = w })
    unfolding story_in
    names_in {f} o = record {
      reachable = o.reachable;
      inside = (p.inside, q.inside, o.inside);
      globals = record { reachable = o.reachable; words = λ w. rw ((o.others 0 (λ z. omega arith) (λ z. omega arith)).words w, (q.others 0 (λ z. omega arith)).words w) (p.names.words w) };
      externals = record { reachable = o.reachable; words = λ w. rw ((o.others 1 (λ z. omega arith) (λ z. omega arith)).words w) (q.names.words w) };
      flows = o.flows;
    }
