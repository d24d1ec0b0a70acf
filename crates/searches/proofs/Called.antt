-- Flows by their names. Assumes nothing.
use Rattle.std.specs.Prelude.{Result, Ok, Err}
use Rattle.story.specs.declared.Heading.{Heading}
use mathlib.Core.Path.{◌≡◌, refl, ◌∙◌}
use mathlib.Core.List.{List, ◌∷◌}
use mathlib.Core.Bool.{Bool, true, false}
use Prim.Native.Nat.{ℕ, zero, suc, ◌+◌, ◌-◌}
use lib.Dec.{eqb}
use lib.ListN.{length, get_or, take, drop}
use lib.Seq.{drop-drop}
use Rattle.fields.specs.declared.Refusal.{Refusal}
use Rattle.fields.specs.Bytes.{Span, list_of, span_reach}
use Rattle.fields.proofs.Laws.{span_to, span-refused, to_end}
use Rattle.names.specs.Words.{Bytes, same, any}
use Rattle.names.specs.Counted.{name_at}
use Rattle.story.specs.Headings.{heading_of}
use Rattle.records.specs.Items.{name_in, flag}
use Rattle.story.specs.Flows.{titled_at, titled_in, pieces_at, pieces_n, pieces_in, flow_in, flows_in}
use Rattle.story.proofs.Alike.{same_flow}
use Rattle.story.proofs.Unfolding.{pieces-in-step, pieces-in-refused}
use Rattle.searches.specs.Called.{called_as}

-- a test that does not depend on the place of a piece does not depend on where the pieces begin
module _ {A : Type 0} (p : A → Bool) (f : ℕ → List ℕ → A) (free : (a b : ℕ) (s : List ℕ) → p (f a s) ≡ p (f b s)) where
  any-turns : (n a b : ℕ) (s : List ℕ) → any p (pieces_n n f a s) ≡ any p (pieces_n n f b s)
  unfolding pieces_n pieces_at
  any-turns zero a b s = refl
  any-turns (suc n) a b s = by_span (list_of s) (λ l. any-turns n (a + (4 + l)) (b + (4 + l)) (drop (4 + l) s))
    where
      by_span : (r : Span)
          → ((l : ℕ) → any p (pieces_n n f (a + (4 + l)) (drop (4 + l) s)) ≡ any p (pieces_n n f (b + (4 + l)) (drop (4 + l) s)))
          → any p (pieces_at r f (pieces_n n f) a s) ≡ any p (pieces_at r f (pieces_n n f) b s)
      by_span (Span.Bytes l) more = rw (free a b (take l (drop 4 s)), more l)
      by_span (Span.Refused x) more = refl

  pub any-pieces : (a b : ℕ) (s : List ℕ) → any p (pieces_in f a s) ≡ any p (pieces_in f b s)
  unfolding pieces_in
  any-pieces a b s = any-turns (length s) a b s

-- a flow's name, whether its heading can be read or not
titled-name : (r : Result Heading Refusal) (a : ℕ) (s : List ℕ) → (titled_at r a s).name.bytes ≡ name_in s
unfolding titled_at
titled-name (Ok h) a s = refl
titled-name (Err r) a s = refl

pub flow-name : (a : ℕ) (s : List ℕ) → (flow_in a s).name.bytes ≡ name_at s 1
unfolding flow_in titled_in name_in name_at
flow-name a s = titled-name (heading_of (drop 1 s)) (a + 5) (drop 1 s) ∙ rw (drop-drop 1 1 s)

pub flow-flag : (a : ℕ) (s : List ℕ) → (flow_in a s).function ≡ eqb (get_or s 0 0) 1
unfolding flow_in
flow-flag a s = refl

-- the test does not depend on the place
called-free : (b : Bool) (n : Bytes) (p q : ℕ) (s : List ℕ) → called_as b n (flow_in p s) ≡ called_as b n (flow_in q s)
called-free true n p q s = let f = same_flow p q s in rw (f.name, f.function)
called-free false n p q s = let f = same_flow p q s in rw f.name

pub any-flows : (b : Bool) (n : Bytes) (p q : ℕ) (s : List ℕ) → any (called_as b n) (flows_in p s) ≡ any (called_as b n) (flows_in q s)
unfolding flows_in
any-flows b n p q s = any-pieces (called_as b n) flow_in (called-free b n) p q s

-- the answers of the test on one flow
module _ (n : Bytes) (s : List ℕ) {function : Bool} where
  pub called-flow : {r : Bool} → function ≡ false → r ≡ same n (name_at s 1) → r ≡ called_as function n (flow_in 0 s)
  called-flow f e = rw (f, flow-name 0 s) e

  pub called-function : {r : Bool} → function ≡ true → flag s ≡ true → r ≡ same n (name_at s 1) → r ≡ called_as function n (flow_in 0 s)
  called-function f g e = rw (f, flow-name 0 s, flow-flag 0 s, g) e

  pub called-other : function ≡ true → flag s ≡ false → false ≡ called_as function n (flow_in 0 s)
  called-other f g = rw (f, flow-flag 0 s, g)

-- the answers of the search
module _ (b : Bool) (n : Bytes) (s : List ℕ) where
  pub flows-none : (x : Refusal) {l : Result ℕ Refusal} → l ≡ span_reach 4 (list_of s) → l ≡ Err x → false ≡ any (called_as b n) (flows_in 0 s)
  unfolding flows_in
  flows-none x e q = rw (pieces-in-refused flow_in 0 s refl (span-refused 4 (list_of s) e x q))

  module _ (to : ℕ) {l : Result ℕ Refusal} (e : l ≡ span_reach 4 (list_of s)) (q : l ≡ Ok to) {r : Bool} (t : r ≡ called_as b n (flow_in 0 (take (to - 4) (drop 4 s)))) where
    step : flows_in 0 s ≡ flow_in 0 (take (to - 4) (drop 4 s)) ∷ flows_in (0 + to) (drop to s)
    unfolding flows_in
    step =
        let h = span_to 4 (list_of s) e to q in
        rw h.1 at (pieces-in-step flow_in 0 (to - 4) s refl h.0)

    pub flow-found : r ≡ true → true ≡ any (called_as b n) (flows_in 0 s)
    flow-found g = rw (step, ← t, g)

    pub flow-passed : r ≡ false → any (called_as b n) (flows_in 0 s) ≡ any (called_as b n) (flows_in 0 (take (length s - to) (drop to s)))
    flow-passed g = rw (step, ← t, g, to_end to s) (any-flows b n (0 + to) 0 (drop to s))
