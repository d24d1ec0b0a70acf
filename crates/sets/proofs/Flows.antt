-- The names of the flows put into a set flow by flow, as far as it has room. Assumes nothing.
use mathlib.Core.Path.{◌≡◌, refl, sym, ◌∙◌}
use mathlib.Core.Bool.{Bool, true, false, ◌||◌, or_assoc}
use mathlib.Core.List.{List, ◌∷◌}
use Prim.Native.Nat.{ℕ, ◌-◌, ◌≤◌}
use native.Mathlib.Omega.{arith}
use lib.ListN.{take, drop}
use Rattle.names.specs.Words.{Bytes, same, any, one_of}
use Rattle.names.specs.Counted.{name_at}
use Rattle.story.specs.declared.Sections.{Sections}
use Rattle.story.specs.File.{story_in}
use Rattle.story.specs.Flows.{flows_in, part}
use Rattle.searches.specs.declared.views.FlowView.{FlowView}
use Rattle.searches.specs.Called.{called_as}
use Rattle.searches.specs.Views.{viewed_flow}
use Rattle.searches.proofs.Answers.{flows-answer}
use Rattle.std.specs.Prelude.{Result, is_err, IsErr}
use Rattle.sets.specs.declared.Full.{Full}
use Rattle.sets.specs.Sets.{name_slots, held, PutIn, Without}
use Rattle.sets.specs.Known.{flow_class, view_called, FlowPut, FlowsHeld, FlowsPut}
use Rattle.sets.proofs.Holding.{put-own, put_other, same_start, same_next}

-- 1. One flow

-- what is known before a test is known after it
never : {A : Type 0} {b : Bool} → b ≡ true → b ≡ false → A
never p q = absurd (let z : ◌≡◌ {A = ℕ} 0 1 = cc in omega arith)

absorbed : (x h v : Bool) → x ≡ v || h → x || v ≡ h || v
absorbed x true true p = rw p
absorbed x true false p = rw p
absorbed x false true p = rw p
absorbed x false false p = rw p

module _ (file : List ℕ) (v : FlowView) {before middle : List ℕ} {r : Result Bool Full} {b : Bool}
    (p : PutIn (name_slots file) (2 ∷ name_at file v.name) before middle r) (e : b ≡ is_err r) where
  -- no room for its name
  pub flow-full : b ≡ true → FlowPut file v before middle true
  flow-full q = record {
    reachable = p.reachable;
    put = λ z. never refl z;
    some = λ f w. rw (p.full (sym e ∙ q));
    others = λ d z y. put_other p d z;
  }

  module _ (q : b ≡ false) where
    -- no function
    pub flow-only : v.function ≡ false → FlowPut file v before middle false
    flow-only g = record { reachable = p.reachable; put = λ _. both; some = λ f w. absorbed _ _ _ (both f w); others = λ d z y. put_other p d z }
      where
        both : (f : Bool) (w : Bytes) → one_of (flow_class f ∷ w) (held (name_slots file) middle) ≡ view_called f file v w || one_of (flow_class f ∷ w) (held (name_slots file) before)
        both true w = rw g ((put_other p 3 (λ z. omega arith)).words w)
        both false w = put-own p (sym e ∙ q) w

    -- a function
    module _ {after : List ℕ} {s : Result Bool Full} {a : Bool} (o : PutIn (name_slots file) (3 ∷ name_at file v.name) middle after s) (i : a ≡ is_err s) (g : v.function ≡ true) where
      as-flow : (w : Bytes) → one_of (2 ∷ w) (held (name_slots file) after) ≡ same w (name_at file v.name) || one_of (2 ∷ w) (held (name_slots file) before)
      as-flow w = (put_other o 2 (λ z. omega arith)).words w ∙ put-own p (sym e ∙ q) w

      pub flow-function : FlowPut file v before after a
      flow-function = record { reachable = o.reachable; put = put; some = some; others = λ d z y. same_next (put_other p d z) (put_other o d y) }
        where
          as_function : a ≡ false → (w : Bytes) → one_of (3 ∷ w) (held (name_slots file) after) ≡ same w (name_at file v.name) || one_of (3 ∷ w) (held (name_slots file) before)
          as_function z w = put-own o (sym i ∙ z) w ∙ rw ((put_other p 3 (λ y. omega arith)).words w)

          put : a ≡ false → (f : Bool) (w : Bytes) → one_of (flow_class f ∷ w) (held (name_slots file) after) ≡ view_called f file v w || one_of (flow_class f ∷ w) (held (name_slots file) before)
          put z true w = rw g (as_function z w)
          put z false w = as-flow w

          by-room : (x : Bool) → a ≡ x → (w : Bytes) → one_of (3 ∷ w) (held (name_slots file) after) || view_called true file v w ≡ one_of (3 ∷ w) (held (name_slots file) before) || view_called true file v w
          by-room true z w = rw (o.full (sym i ∙ z), (put_other p 3 (λ y. omega arith)).words w)
          by-room false z w = absorbed _ _ _ (put z true w)

          some : (f : Bool) (w : Bytes) → one_of (flow_class f ∷ w) (held (name_slots file) after) || view_called f file v w ≡ one_of (flow_class f ∷ w) (held (name_slots file) before) || view_called f file v w
          some true w = by-room a refl w
          some false w = absorbed _ _ _ (as-flow w)

-- an answer that is an error says that there was no room
pub err-full : {file : List ℕ} {v : FlowView} {before after : List ℕ} (x : Result (Unit {0}) Full) → IsErr x → FlowPut file v before after true → FlowPut file v before after (is_err x)
err-full x h p = rw h p

-- 2. Flow by flow

pub flows-start : (file : List ℕ) (c : Sections) (set : List ℕ) → Without (name_slots file) 2 set → Without (name_slots file) 3 set → c.flows ≤ c.end
    → FlowsPut file c set set c.flows
unfolding story_in
flows-start file c set n m h = record { reachable = n.reachable; inside = h; flows = record { names = held_none }; others = λ d z y. same_start (name_slots file) d set }
  where
    held_none : (f : Bool) (w : Bytes) → any (called_as f w) (story_in c file).flows
        ≡ one_of (flow_class f ∷ w) (held (name_slots file) set) || any (called_as f w) (flows_in c.flows (part c.flows c.end file))
    held_none true w = rw (m.none w)
    held_none false w = rw (n.none w)

-- the first of the flows is the one of the view
view_first : (file : List ℕ) (v : FlowView) (f : Bool) (w : Bytes) → called_as f w (viewed_flow file v) ≡ view_called f file v w
view_first file v true w = refl
view_first file v false w = refl

module _ {file : List ℕ} {c : Sections} {before set : List ℕ} {at : ℕ} (h : FlowsPut file c before set at) (v : FlowView) {after : List ℕ} {full : Bool} (p : FlowPut file v set after full)
    (e : flows_in at (part at c.end file) ≡ viewed_flow file v ∷ flows_in v.end (part v.end c.end file)) where
  pub flows-next : v.end ≤ c.end → full ≡ false → FlowsPut file c before after v.end
  flows-next l q = record {
    reachable = p.reachable;
    inside = l;
    flows = record {
      names = λ f w.
          h.flows.names f w
          ∙ rw (e, view_first file v f w, p.put q f w)
          (regroup (one_of (flow_class f ∷ w) (held (name_slots file) set)) (view_called f file v w) (any (called_as f w) (flows_in v.end (part v.end c.end file))));
    };
    others = λ d z y. same_next (h.others d z y) (p.others d z y);
  }
    where
      regroup : (a b c : Bool) → a || (b || c) ≡ (b || a) || c
      regroup true true c = refl
      regroup true false c = refl
      regroup false true c = refl
      regroup false false c = refl

  -- there was no room for one of its names
  pub flows-stop : FlowsPut file c before after at
  flows-stop = record {
    reachable = p.reachable;
    inside = h.inside;
    flows = record {
      names = λ f w.
          h.flows.names f w
          ∙ rw (e, view_first file v f w)
          (regroup (one_of (flow_class f ∷ w) (held (name_slots file) after)) (one_of (flow_class f ∷ w) (held (name_slots file) set)) (view_called f file v w)
          (any (called_as f w) (flows_in v.end (part v.end c.end file))) (p.some f w));
    };
    others = λ d z y. same_next (h.others d z y) (p.others d z y);
  }
    where
      regroup : (x y b c : Bool) → x || b ≡ y || b → y || (b || c) ≡ x || (b || c)
      regroup x y b c i = sym (or_assoc y b c) ∙ rw (← i) (or_assoc x b c)

-- 3. Asking for a name

module _ {file : List ℕ} {c : Sections} {set : List ℕ} {rest : ℕ} (h : FlowsHeld file c set rest) (f : Bool) (w : Bytes) {b : Bool} (e : b ≡ one_of (flow_class f ∷ w) (held (name_slots file) set)) where
  pub flow-found : b ≡ true → b ≡ any (called_as f w) (story_in c file).flows
  flow-found q = q ∙ rw (h.names f w, ← e, q)

  pub flow-left : {r : Bool} → b ≡ false → r ≡ any (called_as f w) (flows_in 0 (take (c.end - rest) (drop rest file))) → r ≡ any (called_as f w) (story_in c file).flows
  flow-left q a = rw (h.names f w, ← e, q) (flows-answer file w rest f c.end a)
