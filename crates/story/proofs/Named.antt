-- A name is what the file has at its place: in a part of the file, in a section, in a list of parameters, in a record. Assumes nothing.
use Rattle.std.specs.Prelude.{Ok}
use mathlib.Core.Path.{◌≡◌, refl, sym, ◌∙◌, ap}
use mathlib.Core.List.Memᴰ
use mathlib.Core.List.{List, [], ◌∷◌, Memᴰ}
use mathlib.Core.Bool.{Bool, true, false, ◌||◌}
use mathlib.Core.Logic.{◌⊎◌, inl, inr}
use Prim.Native.Nat.{ℕ, zero, suc, ◌+◌, ◌-◌, ◌≤◌, ◌<◌}
use native.Mathlib.Nat.{add_assoc, add-zero}
use native.Mathlib.Numerals.{sub-one}
use native.Mathlib.Omega.{arith}
use lib.Dec.{eqb, ltb}
use lib.ListN.{length, get_or, take, drop, length-take, length-drop}
use lib.Seq.{take_all, take-take, drop-drop, get_or-take, get_or-drop}
use borrow.Author.Tests.{ltb-true, ltb-false}
use Rattle.fields.specs.Bytes.{Span, pick, name_of}
use Rattle.fields.proofs.Laws.{name-fits, name-count}
use Rattle.names.specs.Counted.{name_at}
use Rattle.records.specs.Trace.{Record, met, well, ends}
use Rattle.records.specs.Grammar.{nodes}
use Rattle.records.proofs.Places.{stands-in-file, lies_within, drop-take}
use Rattle.records.specs.declared.sorts.Sort.{Sort as Kind}
use Rattle.records.specs.declared.sorts.Sort.TheVariants.{Plain as plain, Temp as temp, Divert as divert, Tunnel as tunnel, Thread as thread, Call as call, Variable as variable, Argument as argument, Choice as choice, Gather as gather, Parameter as parameter, StitchName as stitch_name, FlowStart as flow_start}
use Rattle.records.specs.Items.{code, Item, name_in, sort_of, name_start, nameless, record_name, labelled, what_of, item_as, item_of, items_in}
use Rattle.story.specs.Story.{Name}
use Rattle.story.specs.Headings.{reach_at, names_reach, counted_reach}
use Rattle.story.specs.Flows.{names, names_n, counted_in, part}
use Rattle.story.proofs.Reaches.{counted-read}
use Rattle.story.proofs.Unfolding.{front, names-n-step}
use Rattle.story.proofs.Readable.{names-front, names-rest}
use Rattle.story.proofs.Places.{item-of}
use Rattle.story.proofs.WellInside.{record-bears}
use Rattle.story.proofs.RecordNames.{HasName, bears-name}

-- 1. Parts of a file

-- the bytes t stand in the file at the place
pub record Lies (file : List ℕ) (at : ℕ) (t : List ℕ) : Type 0 where
  pub size : ℕ
  pub bytes : t ≡ take size (drop at file)

pub lies-in-file : (file : List ℕ) (a b : ℕ) → Lies file a (part a b file)
unfolding part
lies-in-file file a b = record { size = b - a; bytes = refl }

module _ {file : List ℕ} {at : ℕ} {t : List ℕ} (l : Lies file at t) where
  pub lies_at : {b : ℕ} → at ≡ b → Lies file b t
  lies_at e = rw (← e) l

  pub lies-drop : (a : ℕ) → Lies file (at + a) (drop a t)
  lies-drop a = record { size = l.size - a; bytes = ap (drop a) l.bytes ∙ rw (drop-take a l.size (drop at file), drop-drop a at file) }

  pub lies-take : (n : ℕ) → Lies file at (take n t)
  lies-take n = by_size (ltb l.size n) refl
    where
      by_size : (i : Bool) → ltb l.size n ≡ i → Lies file at (take n t)
      by_size true h = record {
        size = l.size;
        bytes = take_all n t (omega (arith, ltb-true l.size n h, ap length l.bytes, length-take l.size (drop at file))) ∙ l.bytes;
      }
      by_size false h = record { size = n; bytes = ap (take n) l.bytes ∙ take-take n l.size (drop at file) (ltb-false l.size n h) }

  -- the name at the front is the file's name at the place
  pub name-lies : (k : ℕ) → name_of t ≡ Span.Bytes k → take k (drop 1 t) ≡ name_at file at
  unfolding name_at
  name-lies k e =
      let sized : 1 + k ≤ l.size = omega (arith, name-fits t k refl e, ap length l.bytes, length-take l.size (drop at file)) in
      let count : get_or (drop at file) 0 0 ≡ k
      = sym (get_or-take l.size (drop at file) 0 0 (omega arith)) ∙ ap (λ (u : List ℕ). get_or u 0 0) (sym l.bytes) ∙ name-count t k refl e in
      ap (λ (u : List ℕ). take k (drop 1 u)) l.bytes
      ∙ rw (drop-take 1 l.size (drop at file), take-take k (l.size - 1) (drop 1 (drop at file)) (omega arith), drop-drop 1 at file, count)

  pub name-in-lies : HasName t → name_in t ≡ name_at file at
  unfolding name_in
  name-in-lies h = rw (name-count t h.0 refl h.1) (name-lies h.0 h.1)

pub lies-part : {file : List ℕ} {at : ℕ} {t : List ℕ} → Lies file at t → (a b : ℕ) → Lies file (at + a) (part a b t)
unfolding part
lies-part l a b = lies-take (lies-drop l a) (b - a)

-- 2. Names

-- the name is what the file has at its place
abbrev pub AsFile : List ℕ → Name → Type 0
AsFile file m = m.bytes ≡ name_at file m.at

first-or-later : {file : List ℕ} {at : ℕ} {t : List ℕ} → Lies file at t → (k : ℕ) → name_of t ≡ Span.Bytes k → (rest : List Name) (m : Name)
    → (Memᴰ m rest → AsFile file m) → Memᴰ m (front at k t ∷ rest) → AsFile file m
first-or-later {file} {at} {t} l k e rest m later i = by_cases (Memᴰ.cases_cons i)
  where
    by_cases : (m ≡ front at k t) ⊎ Memᴰ m rest → AsFile file m
    by_cases (inl q) = rw q (name-lies l k e)
    by_cases (inr j) = later j

-- names to the end
pub names-as-file : {file : List ℕ} (n : ℕ) {at : ℕ} (t : List ℕ) → Lies file at t → ends (names t) ≡ well → (m : Name) → Memᴰ m (names_n n at t) → AsFile file m
unfolding names_n
names-as-file zero t l good m i = absurd (Memᴰ.not-nil i)
names-as-file (suc n) [] l good m i = absurd (Memᴰ.not-nil i)
names-as-file (suc n) {at} (x ∷ t) l good m i =
    let f = names-front (x ∷ t) good (omega arith) in
    let k = f.0 in
    first-or-later l k f.1 (names_n (suc n - 1) (at + (1 + k)) (drop (1 + k) (x ∷ t))) m
    (λ j. names-as-file n (drop (1 + k) (x ∷ t)) (lies-drop l (1 + k)) (names-rest (x ∷ t) good k refl f.1) m (rw (sub-one (suc n)) at j))
    (rw (names-n-step (suc n) at k (x ∷ t) (omega arith) refl f.1) at i)

-- so many names
pub reach-as-file : {file : List ℕ} {b : ℕ} {s : List ℕ} → Lies file b s → (n p : ℕ) {e : ℕ} → names_reach s n p ≡ Ok e → (m : Name) → Memᴰ m (names_n n (b + p) (drop p s)) → AsFile file m
unfolding names_n names_reach reach_at
reach-as-file l zero p q m i = absurd (Memᴰ.not-nil i)
reach-as-file {file} {b} {s} l (suc n) p {e} q m i = by_name (name_of (drop p s)) refl q (λ k. reach-as-file l n (p + (1 + k)))
  where
    by_name : (r : Span) → name_of (drop p s) ≡ r → reach_at r (names_reach s n) p ≡ Ok e
        → ((k : ℕ) → names_reach s n (p + (1 + k)) ≡ Ok e → (m : Name) → Memᴰ m (names_n n (b + (p + (1 + k))) (drop (p + (1 + k)) s)) → AsFile file m)
        → AsFile file m
    by_name (Span.Bytes k) told q later =
        first-or-later (lies-drop l p) k told (names_n (suc n - 1) (b + p + (1 + k)) (drop (1 + k) (drop p s))) m
        (λ j. later k q m (rw (sub-one (suc n), add_assoc b p (1 + k), drop-drop (1 + k) p s) at j))
        (rw (names-n-step (suc n) (b + p) k (drop p s) (omega arith) refl told) at i)
    by_name (Span.Refused x) told q later = let z : ◌≡◌ {A = ℕ} 0 1 = cc in absurd (omega arith)

-- a count byte and so many names
pub counted-as-file : {file : List ℕ} {b : ℕ} {s : List ℕ} → Lies file b s → (p : ℕ) {e : ℕ} → counted_reach s p ≡ Ok e → (m : Name) → Memᴰ m (counted_in (b + p) (drop p s)) → AsFile file m
unfolding counted_in
counted-as-file {file} {b} {s} l p q m i =
    reach-as-file l (get_or s p 0) (p + 1) (counted-read s p q).1 m
    (rw (get_or-drop p s 0 0, add-zero p, drop-drop 1 p s, add_assoc b p 1) at i)

-- 3. Items

-- a label is a name
pub label-nameless : (sort : Kind) (payload : List ℕ) → labelled sort payload ≡ true → nameless sort payload ≡ false
unfolding nameless labelled
label-nameless plain payload e = let z : ◌≡◌ {A = ℕ} 0 1 = cc in absurd (omega arith)
label-nameless temp payload e = refl
label-nameless divert payload e = refl
label-nameless tunnel payload e = refl
label-nameless thread payload e = refl
label-nameless call payload e = refl
label-nameless variable payload e = refl
label-nameless argument payload e = refl
label-nameless choice payload e = rw e
label-nameless gather payload e = refl
label-nameless parameter payload e = refl
label-nameless stitch_name payload e = refl
label-nameless flow_start payload e = refl

name-start-small : (sort : Kind) → name_start sort ≤ 1
unfolding name_start
name-start-small sort = by-test (eqb (code sort) (code temp) || eqb (code sort) (code choice))
  where
    by-test : (i : Bool) → pick i 1 0 ≤ 1
    by-test true = omega arith
    by-test false = omega arith

-- the name of an item stands right after its record's head, or one byte further
pub named-near : (r : Record) → (r.place + 5 ≤ (item_of r).named) × ((item_of r).named ≤ r.place + 6)
unfolding item_of item_as
named-near r = omega (arith, name-start-small (sort_of r.role r.kind r.payload))

-- the name of an item is what the file has at its place, and begins before the end of the bytes
pub record NamedItem (file : List ℕ) (end : ℕ) (i : Item) : Type 0 where
  pub name : i.what.name ≡ name_at file i.named
  pub before : i.named < end

module _ {file : List ℕ} {b : ℕ} {t : List ℕ} (l : Lies file b t) (good : ends (nodes t) ≡ well) where
  pub record-as-file : (r : Record) → Memᴰ r (met b (nodes t)) → nameless (sort_of r.role r.kind r.payload) r.payload ≡ false → NamedItem file (b + length t) (item_of r)
  unfolding item_of item_as what_of record_name
  record-as-file r m h =
      let sort = sort_of r.role r.kind r.payload in
      let has = bears-name r.role r.kind r.payload (record-bears b t good r m) h in
      let stands = stands-in-file file b l.size l.bytes r m in
      let payload : Lies file (r.place + 5) r.payload = record { size = length r.payload; bytes = sym stands.behind } in
      let at : r.place + 5 + name_start sort ≡ r.place + (5 + name_start sort) = add_assoc r.place 5 (name_start sort) in
      let fits = name-fits (drop (name_start sort) r.payload) has.0 refl has.1 in
      record {
        name = rw h (name-in-lies (lies_at (lies-drop payload (name_start sort)) at) has);
        before = omega (arith, fits, length-drop (name_start sort) r.payload, lies_within b t r m);
      }

  -- a label
  pub label-as-file : (i : Item) → Memᴰ i (items_in b t) → i.what.labels ≡ true → NamedItem file (b + length t) i
  unfolding item_of item_as what_of
  label-as-file i m h =
      let o = item-of b t i m in
      let r = o.0 in
      rw (← o.2) (record-as-file r o.1 (label-nameless (sort_of r.role r.kind r.payload) r.payload (rw (← o.2) at h)))
