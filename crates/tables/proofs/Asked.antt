-- What the table of functions answers of a name. Assumes nothing.
use mathlib.Core.Path.{◌≡◌, sym, ◌∙◌}
use mathlib.Core.Bool.{Bool, true, false, true≢false}
use mathlib.Core.List.{List}
use Prim.Native.Nat.{ℕ, ◌-◌, ◌<◌}
use lib.ListN.{length, get_or, take, drop}
use Rattle.names.specs.Words.{Bytes, any}
use Rattle.names.specs.Counted.{name_at}
use Rattle.names.proofs.Bools.{is_true, is_false}
use Rattle.names.proofs.Words.{same-eq}
use Rattle.story.specs.declared.Sections.{Sections}
use Rattle.story.specs.Flows.{flows_in}
use Rattle.story.specs.File.{story_in}
use Rattle.searches.specs.Called.{is_function}
use Rattle.searches.proofs.Answers.{flows-answer}
use Rattle.sets.specs.declared.Sought.{Sought}
use Rattle.sets.specs.declared.Sought.TheVariants as sought
use Rattle.tables.specs.Tables.{slot_of}
use Rattle.tables.specs.Functions.{sought_of, Functions}
use Rattle.tables.proofs.Seeking.{found-slot}

module _ (file : List ℕ) (c : Sections) (n : Bytes) where
  -- by going through the flows
  pub listed : {r : Bool} → r ≡ any (is_function n) (flows_in 0 (take (c.end - c.flows) (drop c.flows file))) → r ≡ any (is_function n) (story_in c file).flows
  unfolding story_in
  listed e = flows-answer file n c.flows true c.end e

  module _ {table : List ℕ} (f : Functions file c table) {r : Sought} (e : r ≡ sought_of file table n) where
    -- the walk over the name's slots ended at an empty slot
    pub sought-vacant : {slot : ℕ} → 0 < length table → r ≡ sought.Vacant slot → false ≡ any (is_function n) (story_in c file).flows
    sought-vacant h q =
        sym (is_false (any (is_function n) (story_in c file).flows)
        (λ t. let k = f.complete h n (is_true (any (is_function n) (story_in c file).flows) t) in true≢false (rw (← e, q) at k)))

    -- the walk met the name
    pub sought-found : r ≡ sought.Found → true ≡ any (is_function n) (story_in c file).flows
    sought-found q =
        let i = found-slot file table n 8 (slot_of table n) (sym e ∙ q) in
        let m : n ≡ name_at file (get_or table i.0 0 - 1) = same-eq n (name_at file (get_or table i.0 0 - 1)) i.2 in
        rw m (sym (f.sound i.0 i.1))
