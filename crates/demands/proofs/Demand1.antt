-- DEMAND 1 of the contracts of the callable functions: `demand1`. Assumes nothing.
use Rattle.std.specs.Prelude as std
use Rattle.fields.specs.declared.Refusal.{Refusal}
use Rattle.story.specs.declared.Sections.{Sections}
use mathlib.Core.Path.{◌≡◌, refl, sym, ◌∙◌, ap}
use mathlib.Core.Bool.{Bool, true, false}
use mathlib.Core.List.{List, []}
use mathlib.Core.Logic.{◌↔◌}
use Prim.Native.Nat.{ℕ, ◌+◌, ◌-◌, ◌≤◌, ◌<◌}
use native.Mathlib.Omega.{arith}
use lib.Dec.{ltb}
use Rattle.std.proofs.Common.{Ok, Err}
use lib.ListN.{length, get_or, drop}
use borrow.Author.Tests.{ltb-true, ltb-false, lt-ltb, le-ltb}
use Rattle.fields.specs.Bytes.{pick}
use Rattle.records.specs.Numbers.{kept_numbers}
use Rattle.records.specs.Buffers.{overlay, fill, cleared}
use Rattle.story.specs.Story.{Story, story_items}
use Rattle.story.specs.File.{start_at, read_of, story_in}
use Rattle.story.specs.Results as read
use Rattle.symbols.specs.Numbers.{index_room}
use Rattle.symbols.specs.Placed.{placed, index_of}
use Rattle.rules.specs.Reader.{Readable, story_at, story_of}
use Rattle.validator.specs.declared.Verdict.TheVariants.{Accepted, Breached}
use Rattle.validator.specs.Results.{Judged, accepted, breach, Result, refused, checked, Answer, result_of}
use Rattle.validator.specs.Check.{Report, refusing, story_report, report_at, report_of}
use Rattle.validator.specs.Checked.{Checked}
use Rattle.validator.proofs.Demand.{story-reported}
use Rattle.lookups.specs.Results as lookup
use Rattle.lookups.specs.Lookup.{answered_of, lookup_at, lookup_of, index_at, lookup_index, Looked}
use Rattle.messages.specs.Messages.{Wrote}
use Rattle.lines.specs.Lines.{refused_line, result_line, report_line, line_room, check_line, input_report, line_of}
use Rattle.lines.specs.Lined.{CheckLined, InputLined}
use Rattle.lines.proofs.Reported.{answer-line, long-input, short-input}
use Rattle.qaabireed.specs.Numbers.{result_numbers, lookup_numbers}
use Rattle.qaabireed.specs.Calls.{CheckCalled, LookupCalled}
use Rattle.demands.specs.Refusals.{start, Unreadable, NoneApplies, Unindexed, unreadable, refusal_7, Unchecked, unindexed, refusal_8}
use Rattle.demands.specs.Demand1.{ReadClaim, LookupClaim, CheckClaim, CheckLineClaim, RefusalOnly, InputLineClaim, CheckCallClaim, LookupCallClaim, Demand1}
use Rattle.demands.proofs.Refusals.{unreadable-exactly, readable-exactly, sections-read}

-- 1. What is reported is a refusal exactly in its stated case, and else the story's report

module _ (file : List ℕ) (index message : ℕ) where
  pub refused-so : {n : ℕ} → Unchecked file index message n → report_of file index message ≡ refusing n
  unfolding report_of report_at
  refused-so {n} (unindexed (unreadable u)) = let p = (unreadable-exactly file n).1 u in rw (p.1, p.2)
  refused-so (unindexed (refusal_7 none h)) = rw (((readable-exactly file).1 none).told, lt-ltb index (index_room file) h)
  refused-so (refusal_8 none h k) = rw (((readable-exactly file).1 none).told, le-ltb index (index_room file) h, lt-ltb message 640 k)

  pub unchecked-so : (n : ℕ) → (report_of file index message).result ≡ refused n → Unchecked file index message n
  unfolding report_of report_at story_report
  unchecked-so n e = by-opened (read_of file) refl e
    where
      by_tests : NoneApplies file → (s : Story) (a b : Bool) → ltb index (index_room file) ≡ a → ltb message 640 ≡ b
          → (pick a (refusing 7) (pick b (refusing 8) (story_report file s))).result ≡ refused n → Unchecked file index message n
      by_tests none s true b p q f = let same : 7 ≡ n = cc in rw (← same) (unindexed (refusal_7 none (ltb-true index (index_room file) p)))
      by_tests none s false true p q f = let same : 8 ≡ n = cc in rw (← same) (refusal_8 none (ltb-false index (index_room file) p) (ltb-true message 640 q))
      by_tests none s false false p q f = let z : ◌≡◌ {A = ℕ} 0 1 = cc in absurd (omega arith)

      by-opened : (o : std.Result Sections Refusal) → read_of file ≡ o → (report_at o file index message).result ≡ refused n → Unchecked file index message n
      by-opened (Err r) e f = unindexed (unreadable ((unreadable-exactly file n).0 (r, e, cc)))
      by-opened (Ok c) e f =
          by_tests ((readable-exactly file).0 (record { sections = c; told = e })) (story_in c file) (ltb index (index_room file)) (ltb message 640) refl refl f

  pub judged-so : {j : Judged} {entries size : ℕ} → (report_of file index message).result ≡ checked j entries size
      → NoneApplies file × (report_of file index message ≡ story_report file (story_of file))
  unfolding report_of report_at story_report story_of story_at
  judged-so {j} {entries} {size} e = by-opened (read_of file) refl e
    where
      by_tests : (s : Story) (a b : Bool) → (pick a (refusing 7) (pick b (refusing 8) (story_report file s))).result ≡ checked j entries size
          → pick a (refusing 7) (pick b (refusing 8) (story_report file s)) ≡ story_report file s
      by_tests s true b f = let z : ◌≡◌ {A = ℕ} 0 1 = cc in absurd (omega arith)
      by_tests s false true f = let z : ◌≡◌ {A = ℕ} 0 1 = cc in absurd (omega arith)
      by_tests s false false f = refl

      by-opened : (o : std.Result Sections Refusal) → read_of file ≡ o → (report_at o file index message).result ≡ checked j entries size
          → NoneApplies file × (report_at o file index message ≡ story_report file (story_at o file))
      by-opened (Err r) e f = let z : ◌≡◌ {A = ℕ} 0 1 = cc in absurd (omega arith)
      by-opened (Ok c) e f =
          ((readable-exactly file).0 (record { sections = c; told = e }), by_tests (story_in c file) (ltb index (index_room file)) (ltb message 640) f)

-- the numbers of a story's report are its index
story-index : (file : List ℕ) (s : Story) (index : List ℕ) → overlay (story_report file s).numbers index ≡ index_of s index
unfolding story_report index_of placed
story-index file s index = refl

-- 2. A check

accepted-size : (r : Answer) {entries size : ℕ} → result_of r ≡ checked accepted entries size → size ≡ 0
unfolding result_of
accepted-size (Ok (Accepted n)) e = cc
accepted-size (Ok (Breached b)) e = cc
accepted-size (Err r) e = cc

pub check-claim : CheckClaim Checked
check-claim = record {
  refuses = λ file index message r index' message' p n. (
    λ e. unchecked-so file (length index) (length message) n (sym p.reported.result ∙ e),
    λ u. p.reported.result ∙ ap (λ (q : Report). q.result) (refused-so file (length index) (length message) u),
  );
  refusal_leaves = λ file index message r index' message' p n e. p.refusal_writes_nothing n e;
  judges = λ file index message r index' message' p j entries size e.
      let q = judged-so file (length index) (length message) (sym p.reported.result ∙ e) in (
        q.0,
        p.reported.index_is ∙ ap (λ (x : Report). overlay x.numbers index) q.1 ∙ story-index file (story_of file) index,
        p.reported.message_is ∙ ap (λ (x : Report). overlay x.text message) q.1,
      );
  acceptance_leaves = λ file index message r index' message' p entries size e. (p.acceptance_writes_no_message entries size e, accepted-size r e);
}

-- 3. A lookup

module _ (file : List ℕ) (index : ℕ) (target : List ℕ) where
  lookup-refused : {n : ℕ} → Unindexed file index n → lookup_of file index target ≡ lookup.refused n
  unfolding lookup_of lookup_at
  lookup-refused {n} (unreadable u) = let p = (unreadable-exactly file n).1 u in rw (p.1, p.2)
  lookup-refused (refusal_7 none h) = rw (((readable-exactly file).1 none).told, lt-ltb index (index_room file) h)

  lookup-unindexed : (n : ℕ) → lookup_of file index target ≡ lookup.refused n → Unindexed file index n
  unfolding lookup_of lookup_at
  lookup-unindexed n e = by-opened (read_of file) refl e
    where
      by-test : NoneApplies file → (s : Story) (a : Bool) → ltb index (index_room file) ≡ a → pick a (lookup.refused 7) (answered_of s target) ≡ lookup.refused n → Unindexed file index n
      by-test none s true p f = let same : 7 ≡ n = cc in rw (← same) (refusal_7 none (ltb-true index (index_room file) p))
      by-test none s false p f = let z : ◌≡◌ {A = ℕ} 0 1 = cc in absurd (omega arith)

      by-opened : (o : std.Result Sections Refusal) → read_of file ≡ o → lookup_at o file index target ≡ lookup.refused n → Unindexed file index n
      by-opened (Err r) e f = unreadable ((unreadable-exactly file n).0 (r, e, cc))
      by-opened (Ok c) e f = by-test ((readable-exactly file).0 (record { sections = c; told = e })) (story_in c file) (ltb index (index_room file)) refl f

lookup-answered : (file index target : List ℕ) {a : lookup.Answer} {n : ℕ} → lookup_of file (length index) target ≡ lookup.answered a n
    → NoneApplies file × (lookup_index file index ≡ index_of (story_of file) index)
unfolding lookup_of lookup_at lookup_index index_at story_of story_at
lookup-answered file index target {a} {n} e = by-opened (read_of file) refl e
  where
    by-test : (s : Story) (b : Bool) → pick b (lookup.refused 7) (answered_of s target) ≡ lookup.answered a n → pick b index (index_of s index) ≡ index_of s index
    by-test s true f = let z : ◌≡◌ {A = ℕ} 0 1 = cc in absurd (omega arith)
    by-test s false f = refl

    by-opened : (o : std.Result Sections Refusal) → read_of file ≡ o → lookup_at o file (length index) target ≡ lookup.answered a n
        → NoneApplies file × (index_at o file index ≡ index_of (story_at o file) index)
    by-opened (Err r) e f = let z : ◌≡◌ {A = ℕ} 0 1 = cc in absurd (omega arith)
    by-opened (Ok c) e f = ((readable-exactly file).0 (record { sections = c; told = e }), by-test (story_in c file) (ltb (length index) (index_room file)) f)

pub lookup-claim : LookupClaim Looked
lookup-claim = record {
  refuses = λ file index target r index' p n.
      (λ e. lookup-unindexed file (length index) target n (sym p.result ∙ e), λ u. p.result ∙ lookup-refused file (length index) target u);
  refusal_leaves = λ file index target r index' p n e. p.refusal_writes_nothing n e;
  answers = λ file index target r index' p a entries e.
      let q = lookup-answered file index target (sym p.result ∙ e) in (q.0, p.index ∙ q.1);
}

-- 4. The library's check

-- the first two numbers of a result are 2 and n exactly where it is refused by n, and the rest follows seven numbers
first_two : (x : Result) (result : List ℕ) (n : ℕ) → ((get_or (overlay (result_numbers x) result) 0 0 ≡ 2) × (get_or (overlay (result_numbers x) result) 1 0 ≡ n)) ↔ (x ≡ refused n)
unfolding overlay result_numbers
first_two (refused m) result n = (λ p. ap refused p.1, λ e. (refl, cc))
first_two (checked accepted entries size) result n = (λ p. absurd (omega (arith, p.0)), λ e. let z : ◌≡◌ {A = ℕ} 0 1 = cc in absurd (omega arith))
first_two (checked (breach rule place names) entries size) result n = (λ p. absurd (omega (arith, p.0)), λ e. let z : ◌≡◌ {A = ℕ} 0 1 = cc in absurd (omega arith))

after-seven : (x : Result) (result : List ℕ) → drop 7 (overlay (result_numbers x) result) ≡ drop 7 result
unfolding overlay result_numbers
after-seven (refused m) result = refl
after-seven (checked accepted entries size) result = refl
after-seven (checked (breach rule place names) entries size) result = refl

module _ {file index message result : List ℕ} {r : ℕ} {index' message' result' : List ℕ} (p : CheckCalled file index message result r index' message' result') where
  call-short : length result < 7 → (r ≡ 1) × (index' ≡ index) × (message' ≡ message) × (result' ≡ result)
  call-short h =
      let short = lt-ltb (length result) 7 h in
      (rw short at p.returned, rw short at p.index_is, rw short at p.message_is, rw short at p.result_is)

  module _ (h : 7 ≤ length result) where
    call-result : result' ≡ overlay (result_numbers (report_of file (length index) (length message)).result) result
    call-result = rw (le-ltb (length result) 7 h) at p.result_is

    call-refuses : (n : ℕ) → ((get_or result' 0 0 ≡ 2) × (get_or result' 1 0 ≡ n)) ↔ Unchecked file (length index) (length message) n
    call-refuses n =
        let x = (report_of file (length index) (length message)).result in
        let two = first_two x result n in (
          λ e. unchecked-so file (length index) (length message) n (two.0 (rw call-result at e)),
          λ u. rw call-result (two.1 (ap (λ (q : Report). q.result) (refused-so file (length index) (length message) u))),
        )

    call-leaves : (n : ℕ) → Unchecked file (length index) (length message) n → (index' ≡ index) × (message' ≡ message)
    call-leaves n u =
        let told = p.told h in
        told.promise.refusal_writes_nothing n ((check-claim.refuses file index message told.answer index' message' told.promise n).1 u)

    call-judges : ((n : ℕ) → Unchecked file (length index) (length message) n → ⊥)
        → (index' ≡ index_of (story_of file) index) × (message' ≡ overlay (story_report file (story_of file)).text message)
    call-judges none = by_result (result_of (p.told h).answer) refl
      where
        by_result : (x : Result) → result_of (p.told h).answer ≡ x
            → (index' ≡ index_of (story_of file) index) × (message' ≡ overlay (story_report file (story_of file)).text message)
        by_result (refused n) e = absurd (none n ((check-claim.refuses file index message (p.told h).answer index' message' (p.told h).promise n).0 e))
        by_result (checked j entries size) e =
            let q = check-claim.judges file index message (p.told h).answer index' message' (p.told h).promise j entries size e in (q.1, q.2)

    call-rest : (r ≡ 0) × (drop 7 result' ≡ drop 7 result)
    call-rest = (rw (le-ltb (length result) 7 h) at p.returned, rw call-result (after-seven (report_of file (length index) (length message)).result result))

pub check-call-claim : CheckCallClaim CheckCalled
check-call-claim = record {
  short_leaves = λ file index message result r index' message' result' p h. call-short p h;
  refuses = λ file index message result r index' message' result' p h n. call-refuses p h n;
  refusal_leaves = λ file index message result r index' message' result' p h n u. call-leaves p h n u;
  judges = λ file index message result r index' message' result' p h none. call-judges p h none;
  rest_stays = λ file index message result r index' message' result' p h. call-rest p h;
}

-- 5. The library's lookup

first-two-looked : (x : lookup.Result) (result : List ℕ) (n : ℕ)
    → ((get_or (overlay (lookup_numbers x) result) 0 0 ≡ 2) × (get_or (overlay (lookup_numbers x) result) 1 0 ≡ n)) ↔ (x ≡ lookup.refused n)
unfolding overlay lookup_numbers
first-two-looked (lookup.refused m) result n = (λ p. ap lookup.refused p.1, λ e. (refl, cc))
first-two-looked (lookup.answered a entries) result n = (λ p. absurd (answered a p.0), λ e. let z : ◌≡◌ {A = ℕ} 0 1 = cc in absurd (omega arith))
  where
    answered : (a : lookup.Answer) → get_or (overlay (lookup_numbers (lookup.answered a entries)) result) 0 0 ≡ 2 → ⊥
    answered lookup.pass e = omega (arith, e)
    answered lookup.function e = omega (arith, e)
    answered lookup.reserved e = omega (arith, e)
    answered (lookup.exact k) e = omega (arith, e)
    answered (lookup.ending k) e = omega (arith, e)
    answered lookup.missing e = omega (arith, e)

after-four : (x : lookup.Result) (result : List ℕ) → drop 4 (overlay (lookup_numbers x) result) ≡ drop 4 result
unfolding overlay lookup_numbers
after-four (lookup.refused m) result = refl
after-four (lookup.answered lookup.pass entries) result = refl
after-four (lookup.answered lookup.function entries) result = refl
after-four (lookup.answered lookup.reserved entries) result = refl
after-four (lookup.answered (lookup.exact k) entries) result = refl
after-four (lookup.answered (lookup.ending k) entries) result = refl
after-four (lookup.answered lookup.missing entries) result = refl

module _ {file index target result : List ℕ} {r : ℕ} {index' result' : List ℕ} (p : LookupCalled file index target result r index' result') where
  looked-short : length result < 4 → (r ≡ 1) × (index' ≡ index) × (result' ≡ result)
  looked-short h =
      let short = lt-ltb (length result) 4 h in
      (rw short at p.returned, rw short at p.index_is, rw short at p.result_is)

  module _ (h : 4 ≤ length result) where
    looked-result : result' ≡ overlay (lookup_numbers (lookup_of file (length index) target)) result
    looked-result = rw (le-ltb (length result) 4 h) at p.result_is

    looked-refuses : (n : ℕ) → ((get_or result' 0 0 ≡ 2) × (get_or result' 1 0 ≡ n)) ↔ Unindexed file (length index) n
    looked-refuses n =
        let two = first-two-looked (lookup_of file (length index) target) result n in
        (λ e. lookup-unindexed file (length index) target n (two.0 (rw looked-result at e)), λ u. rw looked-result (two.1 (lookup-refused file (length index) target u)))

    looked-leaves : (n : ℕ) → Unindexed file (length index) n → index' ≡ index
    looked-leaves n u =
        let told = p.told h in
        told.promise.refusal_writes_nothing n ((lookup-claim.refuses file index target told.answer index' told.promise n).1 u)

    looked-answers : ((n : ℕ) → Unindexed file (length index) n → ⊥) → index' ≡ index_of (story_of file) index
    looked-answers none = by_result (lookup.result_of (p.told h).answer) refl
      where
        by_result : (x : lookup.Result) → lookup.result_of (p.told h).answer ≡ x → index' ≡ index_of (story_of file) index
        by_result (lookup.refused n) e = absurd (none n ((lookup-claim.refuses file index target (p.told h).answer index' (p.told h).promise n).0 e))
        by_result (lookup.answered a entries) e = (lookup-claim.answers file index target (p.told h).answer index' (p.told h).promise a entries e).1

    looked-rest : (r ≡ 0) × (drop 4 result' ≡ drop 4 result)
    looked-rest = (rw (le-ltb (length result) 4 h) at p.returned, rw looked-result (after-four (lookup_of file (length index) target) result))

pub lookup-call-claim : LookupCallClaim LookupCalled
lookup-call-claim = record {
  short_leaves = λ file index target result r index' result' p h. looked-short p h;
  refuses = λ file index target result r index' result' p h n. looked-refuses p h n;
  refusal_leaves = λ file index target result r index' result' p h n u. looked-leaves p h n u;
  answers = λ file index target result r index' result' p h none. looked-answers p h none;
  rest_stays = λ file index target result r index' result' p h. looked-rest p h;
}

-- 6. Reading

module _ (file items : List ℕ) {r : std.Result (Sections × ℕ × ℕ) Refusal} {items' : List ℕ} (p : read.ReadAs file items r items') where
  -- a refusal's number is that of what opening the file refuses
  read-unreadable : (n : ℕ) (o : std.Result Sections Refusal) → read_of file ≡ o → read.read_result_of (read.answer_of o file) ≡ read.refused n → Unreadable file n
  unfolding read.read_result_of read.answer_of
  read-unreadable n (Err x) e f = (unreadable-exactly file n).0 (x, e, cc)
  read-unreadable n (Ok c) e f = let z : ◌≡◌ {A = ℕ} 0 1 = cc in absurd (omega arith)

  read-refuses : (n : ℕ) → (read.read_result_of r ≡ read.refused n) ↔ Unreadable file n
  unfolding read.reading_of read.read_result_of read.answer_of
  read-refuses n =
      (λ e. read-unreadable n (read_of file) refl (sym p.answer ∙ e), λ u. let q = (unreadable-exactly file n).1 u in p.answer ∙ rw (q.1, q.2))

  read-clears : (n : ℕ) → Unreadable file n → items' ≡ cleared items
  unfolding read.buffer_of
  read-clears n u = p.written ∙ rw ((unreadable-exactly file n).1 u).1

  module _ (readable : Readable file) where
    read-sections : read.read_result_of r
        ≡ read.sections (start file 1) (start file 2) (start file 3) (length file - 20) (length (kept_numbers (story_items (story_of file)))) (length (story_items (story_of file)))
    unfolding read.reading_of read.read_result_of read.answer_of start_at story_of story_at
    read-sections = p.answer ∙ rw (readable.told, sections-read file readable.sections readable.told)

    read_keeps : items' ≡ fill 0 (kept_numbers (story_items (story_of file))) items
    unfolding read.buffer_of story_of story_at
    read_keeps = p.written ∙ rw readable.told

pub read-claim : ReadClaim read.ReadAs
read-claim = record {
  refuses = λ file items r items' p. read-refuses file items p;
  reads = λ file items r items' p none. read-sections file items p ((readable-exactly file).1 none);
  refusal_clears = λ file items r items' p. read-clears file items p;
  keeps_story = λ file items r items' p none. read_keeps file items p ((readable-exactly file).1 none);
}

-- 7. The lines

-- what is written from a buffer's start on stands there, and the rest as it was
wrote-start : {out : List ℕ} (bytes : List ℕ) {out' : List ℕ} {n : ℕ} → Wrote out 0 bytes out' n → (n ≡ length bytes) × (out' ≡ overlay bytes out)
unfolding overlay
wrote-start bytes w = let z : 0 + length bytes ≡ length bytes = omega arith in (w.ends ∙ z, w.written ∙ rw z)

-- the same bytes under another name
wrote_as : {out : List ℕ} (a b : List ℕ) {out' : List ℕ} {n : ℕ} → a ≡ b → Wrote out 0 a out' n → (n ≡ length b) × (out' ≡ overlay b out)
wrote_as a b e w = wrote-start b (rw e at w)

module _ (file : List ℕ) (index message out : ℕ) where
  room-for-line : line_room message ≤ out → check_line file index message out ≡ report_line (report_of file index message)
  unfolding check_line
  room-for-line h = rw (le-ltb out (line_room message) h)

  no-room-for-line : out < line_room message → check_line file index message out ≡ []
  unfolding check_line
  no-room-for-line h = rw (lt-ltb out (line_room message) h)

pub check-line-claim : CheckLineClaim CheckLined
unfolding overlay
check-line-claim = record {
  check = record {
    refuses = λ file index message r index' message' p. check-claim.refuses file index message r index' message' p.3.checked;
    refusal_leaves = λ file index message r index' message' p. check-claim.refusal_leaves file index message r index' message' p.3.checked;
    judges = λ file index message r index' message' p. check-claim.judges file index message r index' message' p.3.checked;
    acceptance_leaves = λ file index message r index' message' p. check-claim.acceptance_leaves file index message r index' message' p.3.checked;
  };
  line = λ file index message out r n index' message' out' p h.
      wrote_as _ (line_of r message') (room-for-line file (length index) (length message) (length out) h ∙ sym (answer-line p.checked)) p.wrote;
  short_leaves = λ file index message out r n index' message' out' p h.
      wrote_as _ [] (no-room-for-line file (length index) (length message) (length out) h) p.wrote;
}

-- the line of a refusal, and nothing else written
refusal-only : {refusal : ℕ} {input index message out : List ℕ} {n : ℕ} {index' message' out' : List ℕ}
    → InputLined input index message out n index' message' out' → input_report input ≡ refusing refusal → RefusalOnly refusal index message out n index' message' out'
unfolding overlay result_line
refusal-only {refusal} p e =
    let w = wrote_as _ (refused_line refusal) (ap report_line e) p.wrote in
    (rw e at p.index_is, rw e at p.message_is, w.0, w.1)

pub input-line-claim : InputLineClaim InputLined
input-line-claim = record {
  long = λ input index message out n index' message' out' p h. refusal-only p (long-input input h);
  unreadable = λ input index message out n index' message' out' p h refusal u. refusal-only p (short-input input h ∙ refused-so input 12228 640 (unindexed (unreadable u)));
  judged = λ input index message out n index' message' out' p h none.
      let s = story_report input (story_of input) in
      let told : input_report input ≡ s = short-input input h ∙ story-reported input ((readable-exactly input).1 none) 12228 640 (omega arith) (omega arith) in
      let w = wrote_as _ (report_line s) (ap report_line told) p.wrote in (
        p.index_is ∙ ap (λ (x : Report). overlay x.numbers index) told ∙ story-index input (story_of input) index,
        p.message_is ∙ ap (λ (x : Report). overlay x.text message) told,
        w.0,
        w.1,
      );
}

-- DEMAND 1 of the callable functions
pub demand1 : Demand1 read.ReadAs Looked Checked CheckLined InputLined CheckCalled LookupCalled
demand1 = record {
  read = read-claim;
  lookup = lookup-claim;
  check = check-claim;
  checked_line = check-line-claim;
  inputs_line = input-line-claim;
  qaabireed_check = check-call-claim;
  qaabireed_lookup = lookup-call-claim;
}
