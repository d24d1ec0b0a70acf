-- What a lookup returns and the index it leaves, by how it went. Assumes nothing.
use mathlib.Core.Path.{◌≡◌, refl, ◌∙◌, ap}
use mathlib.Core.List.{List}
use mathlib.Core.Bool.{Bool, true}
use Prim.Native.Nat.{ℕ, ◌-◌, ◌*◌, ◌≤◌, ◌<◌}
use native.Mathlib.Omega.{arith}
use lib.ListN.{length, take, drop}
use Rattle.std.proofs.Common.{Ok, Err}
use borrow.Author.Tests.{lt-ltb, le-ltb}
use Rattle.fields.specs.declared.Refusal.{Refusal}
use Rattle.names.specs.Words.{Bytes, any}
use Rattle.story.specs.declared.Sections.{Sections}
use Rattle.story.specs.Flows.{flows_in}
use Rattle.story.specs.File.{read_of, story_in}
use Rattle.story.proofs.Readable.{Readable, readable}
use Rattle.searches.specs.Called.{is_function}
use Rattle.searches.proofs.Answers.{flows-answer}
use Rattle.symbols.specs.Index.{entries, spellings}
use Rattle.symbols.specs.Numbers.{index_room, St, st, store_all}
use Rattle.symbols.specs.Placed.{placed, index_of}
use Rattle.symbols.specs.Rows.{spellings_in}
use Rattle.symbols.proofs.Owners.{index-written}
use Rattle.symbols.proofs.ReadBack.{index_read}
use Rattle.lookups.specs.declared.Target.{Target}
use Rattle.lookups.specs.declared.LookupRefusal.TheVariants.{Unreadable, ShortIndex}
use Rattle.lookups.specs.Results.{answer_of, result_of}
use Rattle.lookups.specs.Lookup.{target_of, lookup_at, lookup_of, index_at, lookup_index, Looked}
use Rattle.lookups.proofs.Promise.{promised}

-- the flows of a story are searched where they stand in the file
pub function-answer : (c : Sections) (file : List ℕ) (t : Bytes) {r : Bool} → r ≡ any (is_function t) (flows_in 0 (take (c.end - c.flows) (drop c.flows file)))
    → r ≡ any (is_function t) (story_in c file).flows
unfolding story_in
function-answer c file t e = flows-answer file t c.flows true c.end e

module _ (file before : List ℕ) (t : Bytes) where
  pub looked-refused : {r : Refusal} → read_of file ≡ Err r → Looked file before t (Err (Unreadable r)) before
  unfolding lookup_of lookup_at lookup_index index_at result_of
  looked-refused q = promised file before t (rw q) (rw q)

  module _ (c : Sections) (q : read_of file ≡ Ok c) where
    -- the room of the index, by the place of the trailer
    room : index_room file ≡ 3 * c.end
    room = omega (arith, (readable file c refl q).order.trailer)

    pub looked-short : length before < 3 * c.end → Looked file before t (Err ShortIndex) before
    unfolding lookup_of lookup_at lookup_index index_at result_of
    looked-short h =
        let short = lt-ltb (length before) (index_room file) (omega (arith, room)) in
        promised file before t (rw (q, short)) (rw (q, short))

    -- the index was written, and the target is what its spellings say
    pub looked-up : {after : List ℕ} {count : ℕ} {found : Target} → 3 * c.end ≤ length before
        → st after count ≡ store_all (st before 0) (placed (entries (story_in c file)))
        → answer_of found ≡ target_of (story_in c file).flows (spellings_in file count after) t
        → Looked file before t (Ok (record { target = found; entries = count })) after
    unfolding lookup_of lookup_at lookup_index index_at result_of
    looked-up {after} {count} {found} h w a =
        let good : Readable c file = readable file c refl q in
        let same = w ∙ index-written c file good before h in
        let left : after ≡ index_of (story_in c file) before = ap (λ (s : St). s.index) same in
        let many : count ≡ length (entries (story_in c file)) = ap (λ (s : St). s.count) same in
        let told : answer_of found ≡ target_of (story_in c file).flows (spellings (story_in c file)) t = a ∙ rw (left, many, index_read c file good before) in
        let long = le-ltb (length before) (index_room file) (omega (arith, room)) in
        promised file before t (rw (q, long, told, many)) (rw (q, long) left)
