-- The table of functions while it is filled: what it says of the flows so far, and that it says it of all in the end. Assumes nothing.
use mathlib.Core.Path.{◌≡◌, refl, sym, ◌∙◌, ap}
use mathlib.Core.Bool.{Bool, true, false, ◌&&◌}
use mathlib.Core.List.{List, [], ◌∷◌}
use mathlib.Core.Logic.{◌⊎◌, ⊎_elim}
use Prim.Native.Nat.{ℕ, ◌+◌, ◌-◌, ◌<◌}
use native.Mathlib.Nat.{mod-lt}
use native.Mathlib.Omega.{arith}
use native.Mathlib.Decide.{ℕ_discrete}
use lib.Dec.{T}
use lib.ListN.{length, get_or, set, length-set}
use lib.Seq.{get_or-set_same, get_or-set_other}
use Rattle.fields.specs.Bytes.{pick}
use Rattle.names.specs.Words.{Bytes, same, any}
use Rattle.names.specs.Counted.{name_at}
use Rattle.names.proofs.Bools.{is_true, is_false, and_right, and_both, or_cases, or_left, or_right}
use Rattle.names.proofs.Words.{same-eq, same_refl}
use Rattle.story.specs.declared.Sections.{Sections}
use Rattle.story.specs.Story.{Flow}
use Rattle.story.specs.Flows.{flows_in, part}
use Rattle.story.specs.File.{story_in}
use Rattle.searches.specs.declared.views.FlowView.{FlowView}
use Rattle.searches.specs.Called.{is_function}
use Rattle.searches.specs.Views.{viewed_flow}
use Rattle.tables.specs.Hashes.{hash_of}
use Rattle.sets.specs.Sets.{Empty}
use Rattle.tables.specs.Tables.{slot_of}
use Rattle.sets.specs.declared.Sought.{Sought}
use Rattle.sets.specs.declared.Sought.TheVariants as sought
use Rattle.tables.specs.Functions.{sought_from, sought_of, is_vacant, with_place, with_flow, Functions}
use Rattle.tables.proofs.Seeking.{vacant-slot, vacant-before, written-met}

-- what was written for a function by where the walk over its name's slots ended
module _ (file : List ℕ) (v : FlowView) (table : List ℕ) {name : Bytes} {r x : Sought} (e : r ≡ sought_of file table name) (q : r ≡ x) where
  pub flow-written : v.function ≡ true → name ≡ name_at file v.name → with_place v.name table x ≡ with_flow file v table
  flow-written g p = let i : sought_of file table (name_at file v.name) ≡ x = rw (← p) (sym e ∙ q) in rw (g, i)

-- the table has all flows but the rest
pub record Filling (file : List ℕ) (flows rest : List Flow) (table : List ℕ) : Type 0 where
  pub room : 0 < length table
  -- a function whose name's walk ends at an empty slot is among the rest
  pub complete : (n : Bytes) → T (any (is_function n) flows) → T (is_vacant (sought_of file table n)) → T (any (is_function n) rest)
  -- a slot that is not empty leads to the name of a function
  pub sound : (i : ℕ) → (get_or table i 0 ≡ 0 → ⊥) → T (any (is_function (name_at file (get_or table i 0 - 1))) flows)
  -- the rest is a part of the flows
  pub inside : (n : Bytes) → T (any (is_function n) rest) → T (any (is_function n) flows)

pub filling-start : {file : List ℕ} {flows : List Flow} {table : List ℕ} → 0 < length table → Empty table → Filling file flows flows table
filling-start h e = record { room = h; complete = λ n t z. t; sound = λ i z. absurd (z (e.slot i)); inside = λ n t. t }

-- a function of the name is the first flow, or one after it
module _ (file : List ℕ) (v : FlowView) {rest more : List Flow} (e : rest ≡ viewed_flow file v ∷ more) (n : Bytes) where
  first-or-later : T (any (is_function n) rest) → T (v.function && same n (name_at file v.name)) ⊎ T (any (is_function n) more)
  first-or-later t = or_cases (v.function && same n (name_at file v.name)) (any (is_function n) more) (rw e at t)

  later : T (any (is_function n) more) → T (any (is_function n) rest)
  later t = rw e (or_right (v.function && same n (name_at file v.name)) (any (is_function n) more) t)

  first : T (v.function && same n (name_at file v.name)) → T (any (is_function n) rest)
  first t = rw e (or_left (v.function && same n (name_at file v.name)) (any (is_function n) more) t)

module _ {file : List ℕ} {flows rest more : List Flow} {table : List ℕ} (f : Filling file flows rest table) (v : FlowView) (e : rest ≡ viewed_flow file v ∷ more) where
  -- a flow that is no function
  passed : v.function ≡ false → Filling file flows more table
  passed g = record {
    room = f.room;
    complete = λ n t z. ⊎_elim (λ i. absurd (rw g at i)) (λ i. i) (first-or-later file v e n (f.complete n t z));
    sound = f.sound;
    inside = λ n t. f.inside n (later file v e n t);
  }

  abbrev name : Bytes
  name = name_at file v.name

  -- a function whose name's walk ends at no empty slot
  present : is_vacant (sought_of file table name) ≡ false → Filling file flows more table
  present k = record {
    room = f.room;
    complete = λ n t z.
        ⊎_elim (λ i. absurd (rw (same-eq n name (and_right v.function (same n name) i), k) at z)) (λ i. i)
        (first-or-later file v e n (f.complete n t z));
    sound = f.sound;
    inside = λ n t. f.inside n (later file v e n t);
  }

  -- a function whose name's walk ends at this empty slot
  module _ (g : v.function ≡ true) (slot : ℕ) (k : sought_of file table name ≡ sought.Vacant slot) where
    abbrev after : List ℕ
    after = set table slot (v.name + 1)

    was-vacant : (slot < length table) × (get_or table slot 0 ≡ 0)
    was-vacant = vacant-slot file table name 8 (slot_of table name) slot (mod-lt (hash_of name) f.room) k

    elsewhere : (i : ℕ) → (i ≡ slot → ⊥) → get_or after i 0 ≡ get_or table i 0
    elsewhere i h = get_or-set_other table slot i (v.name + 1) 0 h

    entered-complete : (n : Bytes) → T (any (is_function n) flows) → T (is_vacant (sought_of file after n)) → T (any (is_function n) more)
    entered-complete n t z =
        let w : T (is_vacant (sought_from 8 file after n (slot_of table n))) = rw (length-set table slot (v.name + 1)) at z in
        ⊎_elim (λ i. absurd (by_name (same-eq n name (and_right v.function (same n name) i)) w)) (λ i. i)
        (first-or-later file v e n (f.complete n t (vacant-before file table n slot v.name was-vacant.1 8 (slot_of table n) w)))
      where
        by_name : n ≡ name → T (is_vacant (sought_from 8 file after n (slot_of table n))) → ⊥
        by_name q w = written-met file table n slot v.name was-vacant.0 q 8 (slot_of table n) (rw q k) w

    entered-sound : (i : ℕ) → (get_or after i 0 ≡ 0 → ⊥) → T (any (is_function (name_at file (get_or after i 0 - 1))) flows)
    entered-sound i h = by-slot (ℕ_discrete i slot)
      where
        by-slot : Dec (i ≡ slot) → T (any (is_function (name_at file (get_or after i 0 - 1))) flows)
        by-slot (yes q) =
            let w : get_or after i 0 ≡ v.name + 1 = ap (λ (j : ℕ). get_or after j 0) q ∙ get_or-set_same table slot (v.name + 1) 0 was-vacant.0 in
            let p : get_or after i 0 - 1 ≡ v.name = omega (arith, w) in
            rw p (f.inside name (first file v e name (and_both v.function (same name name) (rw g tt) (same_refl name))))
        by-slot (no q) = rw (elsewhere i q) (f.sound i (λ z. h (elsewhere i q ∙ z)))

    entered : Filling file flows more after
    entered = record {
      room = rw (length-set table slot (v.name + 1)) f.room;
      complete = entered-complete;
      sound = entered-sound;
      inside = λ n t. f.inside n (later file v e n t);
    }

  pub filling-next : {table' : List ℕ} → table' ≡ with_flow file v table → Filling file flows more table'
  filling-next q = rw q (by_flag v.function refl)
    where
      by_end : v.function ≡ true → (x : Sought) → sought_of file table (name_at file v.name) ≡ x → Filling file flows more (with_place v.name table x)
      by_end g sought.Found k = present (rw k)
      by_end g (sought.Vacant slot) k = entered g slot k
      by_end g sought.Exhausted k = present (rw k)

      by_flag : (b : Bool) → v.function ≡ b → Filling file flows more (pick b (with_place v.name table (sought_of file table (name_at file v.name))) table)
      by_flag true g = by_end g (sought_of file table (name_at file v.name)) refl
      by_flag false g = passed g

-- no flow is left
module _ (file : List ℕ) (c : Sections) (table : List ℕ) where
  pub filling-end : {rest : List Flow} → Filling file (flows_in c.flows (part c.flows c.end file)) rest table → rest ≡ [] → Functions file c table
  unfolding story_in
  filling-end f e = record {
    complete = λ h n t. is_false (is_vacant (sought_of file table n)) (λ z. rw e at (f.complete n (rw t tt) z));
    sound = λ i z. is_true (any (is_function (name_at file (get_or table i 0 - 1))) (flows_in c.flows (part c.flows c.end file))) (f.sound i z);
  }

  -- a table with no slots
  pub no-slots : Empty table → length table ≡ 0 → Functions file c table
  no-slots e h = record { complete = λ p. absurd (omega arith); sound = λ i z. absurd (z (e.slot i)) }
