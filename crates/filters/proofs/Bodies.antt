-- Filters over the names of a body: what it declares, its labels, and the gathers before an item. Assumes nothing.
use mathlib.Core.Path.{◌≡◌, refl, sym, ◌∙◌}
use mathlib.Core.Bool.{Bool, true, false, ◌&&◌, ◌||◌, true≢false, or_assoc, or-false}
use mathlib.Core.List.{List, [], ◌∷◌, ◌++◌, append-nil}
use Prim.Native.Nat.{ℕ, zero, suc, ◌+◌, ◌-◌, ◌≤◌, ◌<◌}
use native.Mathlib.Numerals.{add-one}
use native.Mathlib.Omega.{arith}
use lib.ListN.{length, get_or, take, drop, length-append, length-take, length-drop, drop_of_length-le}
use lib.Seq.{take_all, take_at, drop_at}
use borrow.Rule.Slice.PartMut.{put_mid}
use Rattle.names.specs.Words.{Bytes, same, any, each, one_of}
use Rattle.names.proofs.Any.{any-only, any-each, any_same}
use Rattle.records.specs.declared.sorts.Sort.TheVariants.{Temp as temp, Gather as gather}
use Rattle.records.specs.Items.{What, is}
use Rattle.story.specs.Story.{words, whats}
use Rattle.story.specs.Flows.{counted_in}
use Rattle.records.specs.Numbers.{item_in, between}
use Rattle.searches.specs.Counted.{counted_at}
use Rattle.searches.proofs.Answers.{counted-answer}
use Rattle.items.specs.Bodies.{items_at, kept_in}
use Rattle.items.specs.Search.{temp_in, gather_among}
use Rattle.checks.specs.Context.{declared_at, here_at}
use Rattle.checks.specs.declared.ScopeView.{ScopeView}
use Rattle.filters.specs.declared.Wanted.{Wanted}
use Rattle.filters.specs.declared.Wanted.TheVariants.{Sort, Label}
use Rattle.filters.specs.Words.{added_all, lacks, wants, named, Covers}
use Rattle.filters.specs.Names.{Declared, label_at, split_at, Gathered, passed}
use Rattle.filters.proofs.Covering.{lacked, covers_none, covers-same, covers-all, covers-or, holds-all}

-- 1. The names of items that are wanted

wanted-test : (v : Wanted) (n : Bytes) (w : What) → one_of n (named v w) ≡ wants v w && same n w.name
unfolding named
wanted-test v n w = any-only (same n) (wants v w) w.name

wanted-tests : (v : Wanted) (ws : List What) (n : Bytes) → any (λ (w : What). wants v w && same n w.name) ws ≡ one_of n (each (named v) ws)
wanted-tests v ws n = sym (any-each (same n) (named v) ws ∙ any_same _ _ (wanted-test v n) ws)

-- 2. What a knot declares, and its labels

module _ (file kept : List ℕ) (from to : ℕ) {items : List ℕ} (run : items ≡ between from to kept) where
  -- the parameters were added, and then the temps
  pub names_put : (params : ℕ) (start : List ℕ) {begun filter : List ℕ} → begun ≡ added_all start (words (counted_in 0 (take (length file - params) (drop params file))))
      → filter ≡ added_all begun (each (named (Sort temp)) (whats (items_at file items))) → Covers filter (declared_at file kept params from to)
  names_put params start {begun} e f =
      let params-covered : Covers begun (counted_at file params)
      = rw e (covers-same (holds-all _ start) (counted_at file params) (λ n. sym (counted-answer file n params refl))) in
      let temps-covered : Covers _ (temp_in (kept_in file kept from to))
      = covers-same (holds-all _ begun) (temp_in (kept_in file kept from to)) (wanted-tests (Sort temp) (whats (kept_in file kept from to))) in
      rw (f, run) (covers-or (covers-all (each (named (Sort temp)) (whats (kept_in file kept from to))) params-covered) temps-covered)

  -- the labels were added
  pub labels_put : (start : List ℕ) {filter : List ℕ} → filter ≡ added_all start (each (named Label) (whats (items_at file items))) → Covers filter (label_at file kept from to)
  labels_put start f = rw (f, run) (covers-same (holds-all _ start) (label_at file kept from to) (wanted-tests Label (whats (kept_in file kept from to))))

-- a filter without slots lacks nothing
pub declared-none : {file kept : List ℕ} {params from to end : ℕ} (filter : List ℕ) → length filter ≡ 0 → Declared file kept params from to end filter
declared-none {to} {end} filter h =
    let split = split_at (length filter) to end in
    record {
      covers = covers_none (take split filter) (omega (arith, length-take split filter)) _;
      labels = covers_none (drop split filter) (omega (arith, length-drop split filter)) _;
    }

-- the two parts of a filter, one put after the other
module _ (before names labels : List ℕ) {split : ℕ} (p : length names ≡ split) (q : length labels ≡ length before - split) (h : split ≤ length before) where
  abbrev put : List ℕ
  put = put_mid split (length (names ++ drop split before) - split) (names ++ drop split before) labels

  joined : put ≡ names ++ labels
  joined =
      let all : length (names ++ drop split before) ≡ length before = omega (arith, length-append names (drop split before), length-drop split before) in
      let none : drop (length before - split) (drop split before) ≡ [] = drop_of_length-le (drop split before) {i = length before - split} (omega (arith, length-drop split before)) in
      rw (all, take_at names (drop split before) split p, drop_at names (drop split before) split p, none, append-nil labels)

  pub declared-put : {file kept : List ℕ} {params from to end : ℕ} → split ≡ split_at (length before) to end
      → Covers names (declared_at file kept params from to) → Covers labels (label_at file kept from end) → Declared file kept params from to end put
  declared-put e n l =
      let all : length (names ++ labels) ≡ length before = omega (arith, length-append names labels) in
      rw joined
      (record { covers = rw (all, ← e, take_at names labels split p) n; labels = rw (all, ← e, drop_at names labels split p) l })

-- its two parts, cut where the labels begin
module _ {file kept : List ℕ} {params from to end : ℕ} {filter : List ℕ} (declared : Declared file kept params from to end filter) {split : ℕ} (here : split ≡ split_at (length filter) to end) where
  pub names_part : Covers (take split filter) (declared_at file kept params from to)
  names_part = rw here declared.covers

  pub labels_part : Covers (take (length filter - split) (drop split filter)) (label_at file kept from end)
  labels_part =
      let all = take_all (length filter - split) (drop split filter) (omega (arith, length-drop split filter)) in
      rw (all, here) declared.labels

module _ (file kept : List ℕ) {filter : List ℕ} (v : ScopeView) (n : Bytes) {r : Bool} where
  -- the filter lacks the name, so that it is not forbidden
  pub not_forbidden : Covers filter (declared_at file kept v.outer v.body v.stitches) → r ≡ lacks filter n → r ≡ true → false ≡ (here_at file kept v).forbidden n
  unfolding here_at
  not_forbidden covers e t = rw (lacked covers e t)

  -- the filter lacks the name, so that it is no label
  pub not_label : Covers filter (label_at file kept v.body v.end) → r ≡ lacks filter n → r ≡ true → false ≡ (here_at file kept v).label n
  unfolding here_at
  not_label covers e t = sym (lacked covers e t)

-- 3. The gathers before an item

-- before the first there is none
pub gathered-start : (file kept : List ℕ) (from to : ℕ) (filter : List ℕ) → Gathered file kept from to 0 filter
gathered-start file kept from to filter = record { covers = record { kept = λ w h. absurd (true≢false (sym h)) } }

-- a filter without slots lacks nothing
pub gathered_none : {file kept : List ℕ} {from to i : ℕ} (filter : List ℕ) → length filter ≡ 0 → Gathered file kept from to i filter
gathered_none filter h = record { covers = covers_none filter h _ }

-- what stands before the item after this one
among_next : (p : What → Bool) (file items : List ℕ) (i : ℕ) → i < length items
    → any p (take (suc i) (whats (items_at file items))) ≡ any p (take i (whats (items_at file items))) || p (item_in file (get_or items i 0)).what
among_next p file [] i h = absurd (omega arith)
among_next p file (x ∷ items) zero h = or-false (p (item_in file x).what)
among_next p file (x ∷ items) (suc i) h =
    rw (among_next p file items i (omega arith)) (sym (or_assoc (p (item_in file x).what) (any p (take i (whats (items_at file items)))) (p (item_in file (get_or items i 0)).what)))

module _ {file kept : List ℕ} {from to i : ℕ} {filter : List ℕ} (gathered : Gathered file kept from to i filter) where
  -- item number i was passed
  pub gathered_next : {items : List ℕ} → items ≡ between from to kept → i < length items → {after : List ℕ} → after ≡ passed filter (item_in file (get_or items i 0)).what
      → Gathered file kept from to (i + 1) after
  unfolding passed
  gathered_next {items} run h e =
      let names = named (Sort gather) (item_in file (get_or items i 0)).what in
      let next : (n : Bytes) → gather_among (take (i + 1) (whats (items_at file items))) n ≡ gather_among (take i (whats (items_at file items))) n || one_of n names
      = λ n. rw (add-one i, wanted-test (Sort gather) n (item_in file (get_or items i 0)).what) (among_next (λ (v : What). is gather v && same n v.name) file items i h) in
      let both = covers-or (covers-all names (rw (← run) at gathered.covers)) (holds-all names filter) in
      record { covers = rw (e, ← run) (covers-same both (gather_among (take (i + 1) (whats (items_at file items)))) next) }

  -- the filter lacks the name, so that no gather has it
  pub no_gather : (n : Bytes) {r : Bool} → r ≡ lacks filter n → r ≡ true → false ≡ gather_among (take i (whats (kept_in file kept from to))) n
  no_gather n e t = sym (lacked gathered.covers e t)
