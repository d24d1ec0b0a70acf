-- Entries put into a set of targets, one after the other. Assumes nothing.
use mathlib.Core.Path.{◌≡◌, refl, ◌∙◌}
use mathlib.Core.Bool.{Bool, true, false, ◌||◌, or_assoc, or_comm, or-false}
use mathlib.Core.List.{List, [], ◌∷◌, ◌++◌, map}
use mathlib.Core.Logic.{inl, inr}
use Prim.Native.Nat.{ℕ}
use native.Mathlib.Omega.{arith}
use borrow.Author.Tests.{eq-eqb, ne_eqb}
use Rattle.std.specs.Prelude.{Result, Option, Ok, Err, Some, None, is_err}
use Rattle.std.specs.Result.{result_and}
use Rattle.names.specs.Words.{Bytes, any, one_of}
use Rattle.names.proofs.Bools.{is_true}
use Rattle.sets.specs.Sets.{held, Empty, Reachable}
use Rattle.sets.proofs.Clearing.{empty-reachable, empty_holds}
use Rattle.symbols.specs.declared.Places.{Places}
use Rattle.symbols.specs.Numbers.{absent}
use Rattle.symbols.specs.Rows.{spelling_in}
use Rattle.symbols.specs.Fits.{answers}
use Rattle.targets.specs.Ends.{dotted_ends}
use Rattle.targets.specs.Slots.{place_of, after, end_slots}
use Rattle.targets.specs.Put.{NameFits, PlaceFits, Gained}
use Rattle.targets.specs.Entries.{ends_with, ends_from, PlacesFit, EntryPut, answered, Put, TargetsIn}
use Rattle.targets.proofs.Dotted.{answers-ends, ends-spelling}
use Rattle.targets.proofs.Gaining.{gained-none, gained-full, gained-append, regroup, or-widen, or-false-left, or-false-right}

-- 1. One entry

-- a place that fits, as a place that is there or is not
pub place-fits : {at : ℕ} → NameFits at → PlaceFits (place_of at)
place-fits {at} (inl e) = rw (eq-eqb at absent e) tt
place-fits {at} (inr h) = rw (ne_eqb at absent (λ e. omega arith)) h

-- a place that fits is not none
pub own-there : {p : Places} → PlacesFit p → p.own ≡ absent → ⊥
own-there f e = omega (arith, f.own)

-- no place
pub place-none : {at : ℕ} → at ≡ absent → None ≡ place_of at
place-none {at} e = rw (eq-eqb at absent e)

-- a place
pub place-some : {at : ℕ} → (at ≡ absent → ⊥) → Some at ≡ place_of at
place-some {at} n = rw (ne_eqb at absent n)

module _ (file : List ℕ) (rest : Bytes) where
  -- there is no name
  pub from-none : {place : Option ℕ} {set : List ℕ} → place ≡ None → Reachable (end_slots file) set → Gained (end_slots file) (ends_from file place rest) set set false
  from-none e r = rw e (gained-none (end_slots file) r)

  -- there is one
  pub from_some : {place : Option ℕ} {at : ℕ} {before after : List ℕ} {left : Bool} → place ≡ Some at → Gained (end_slots file) (ends_with file at rest) before after left
      → Gained (end_slots file) (ends_from file place rest) before after left
  from_some e g = rw e g

module _ (file : List ℕ) (p : Places) where
  -- its dotted ends are the targets that it answers
  entry-gained : {before after : List ℕ} {left : Bool} → Gained (end_slots file) (dotted_ends (spelling_in file p)) before after left → EntryPut file p before after left
  entry-gained g = record {
    reachable = g.reachable;
    all = λ q t. rw (answers-ends t (spelling_in file p)) (g.all q t);
    sound = λ t h. rw (answers-ends t (spelling_in file p)) (g.sound t h);
    kept = g.kept;
  }

  -- nothing was put
  pub entry-none : {set : List ℕ} → Reachable (end_slots file) set → EntryPut file p set set true
  entry-none r = entry-gained (gained-full (end_slots file) r (dotted_ends (spelling_in file p)))

  -- the ends that begin in its flow's name were put, those in its stitch's, and those in its own
  pub entry-put : {flow stitch own : Option ℕ} {before second third last : List ℕ} {a b c : Bool} → PlacesFit p → flow ≡ place_of p.flow → stitch ≡ place_of p.stitch
      → own ≡ place_of p.own
      → Gained (end_slots file) (ends_from file flow (after file stitch ++ after file own)) before second a
      → Gained (end_slots file) (ends_from file stitch (after file None ++ after file own)) second third b
      → Gained (end_slots file) (ends_from file own (after file None ++ after file None)) third last c
      → EntryPut file p before last ((a || b) || c)
  entry-put {a = a} {b} {c} f l s o x y z =
      entry-gained (rw (← ends-spelling file p (own-there f), ← l, ← s, ← o, or_assoc a b c) (gained-append x (gained-append y z)))

-- one of two answers is an error
pub err-either : {E : Type 0} (x y : Result (Unit {0}) E) → is_err (result_and x y) ≡ is_err x || is_err y
err-either (Ok a) y = refl
err-either (Err e) y = refl

-- 2. Entries one after the other

-- one of some entries and others answers a target
answered-append : (file : List ℕ) (ps qs : List Places) (t : Bytes) → answered file (ps ++ qs) t ≡ answered file ps t || answered file qs t
answered-append file [] qs t = refl
answered-append file (p ∷ ps) qs t =
    rw (answered-append file ps qs t, or_assoc (answers t (spelling_in file p)) (answered file ps t) (answered file qs t))

-- no entry
pub put-none : (file : List ℕ) {set : List ℕ} {left : Bool} → Reachable (end_slots file) set → Put file [] set set left left
put-none file r = record { reachable = r; earlier = λ q. q; all = λ _ t. refl; sound = λ t h. h; kept = λ t h. h }

-- one entry
pub put_one : {file : List ℕ} {p : Places} {before after : List ℕ} {left r : Bool} → EntryPut file p before after r
    → Put file (p ∷ []) before after left (left || r)
put_one {file} {p} {left = left} {r} g = record {
  reachable = g.reachable;
  earlier = or-false-left left r;
  all = λ q t. rw (or-false (answers t (spelling_in file p))) (g.all (or-false-right left r q) t);
  sound = λ t h. rw (or-false (answers t (spelling_in file p))) (g.sound t h);
  kept = g.kept;
}

-- some entries, and then others
pub put-append : {file : List ℕ} {ps qs : List Places} {before middle after : List ℕ} {left left' left'' : Bool} → Put file ps before middle left left'
    → Put file qs middle after left' left'' → Put file (ps ++ qs) before after left left''
put-append {file} {ps} {qs} {before} {middle} g h = record {
  reachable = h.reachable;
  earlier = λ q. g.earlier (h.earlier q);
  all = λ q t.
      rw (
        h.all q t,
        g.all (h.earlier q) t,
        answered-append file ps qs t,
        regroup (answered file ps t) (answered file qs t) (one_of t (held (end_slots file) before)),
      );
  sound = λ t s.
      rw (answered-append file ps qs t, ← regroup (answered file ps t) (answered file qs t) (one_of t (held (end_slots file) before)))
      (or-widen (answered file qs t) (one_of t (held (end_slots file) middle)) (answered file ps t || one_of t (held (end_slots file) before)) (g.sound t) (h.sound t s));
  kept = λ t s. h.kept t (g.kept t s);
}

-- 3. Into an empty set

-- entries put into an empty set
pub put_all : {file : List ℕ} {ps : List Places} {start set : List ℕ} {left : Bool} → Empty start → Put file ps start set false left → TargetsIn file set ps left
put_all {file} {ps} {start} e g = record {
  reachable = g.reachable;
  whole = λ q t. g.all q t ∙ rw (empty_holds (end_slots file) e t, or-false (answered file ps t));
  sound = λ t h. rw (empty_holds (end_slots file) e t, or-false (answered file ps t)) at (g.sound t h);
}

-- no entry
pub targets-start : (file : List ℕ) {set : List ℕ} → Empty set → TargetsIn file set [] false
targets-start file e = put_all e (put-none file (empty-reachable (end_slots file) e))

-- one entry more
pub targets_next : {file set : List ℕ} {ps : List Places} {left : Bool} {p : Places} {after : List ℕ} {r : Bool} → TargetsIn file set ps left → EntryPut file p set after r
    → TargetsIn file after (ps ++ (p ∷ [])) (left || r)
targets_next {file} {set} {ps} {left} {p} {r = r} f g = record {
  reachable = g.reachable;
  whole = λ q t.
      g.all (or-false-right left r q) t
      ∙ rw (f.whole (or-false-left left r q) t, answered-append file ps (p ∷ []) t, or-false (answers t (spelling_in file p)))
      (or_comm (answers t (spelling_in file p)) (answered file ps t));
  sound = λ t h.
      rw (answered-append file ps (p ∷ []) t, or-false (answers t (spelling_in file p)), or_comm (answered file ps t) (answers t (spelling_in file p)))
      (or-widen (answers t (spelling_in file p)) (one_of t (held (end_slots file) set)) (answered file ps t) (f.sound t) (g.sound t h));
}

-- 4. What the set says

module _ {file set : List ℕ} {ps : List Places} {left : Bool} (f : TargetsIn file set ps left) (t : Bytes) {r : Bool} (e : r ≡ one_of t (held (end_slots file) set)) where
  -- a target that it holds is answered
  pub targets-found : r ≡ true → any (answers t) (map (spelling_in file) ps) ≡ true
  targets-found q = is_true (any (answers t) (map (spelling_in file) ps)) (f.sound t (rw (← e, q) tt))

  -- where every target was put, it says which are answered
  pub targets-whole : left ≡ false → r ≡ any (answers t) (map (spelling_in file) ps)
  targets-whole q = e ∙ f.whole q t
