-- Rule 11's statements and the tests that compute: a choice is directly in a branch, and its body's last non-Newline leaves. Assumes nothing.
use Rattle.std.specs.Prelude.{Result, Ok, Err, Some}
use Rattle.fields.specs.declared.Refusal.{Refusal}
use mathlib.Core.Path.{◌≡◌, refl, sym, ◌∙◌, ap}
use mathlib.Core.Bool.{Bool, true, false}
use mathlib.Core.List.Memᴰ
use mathlib.Core.List.{List, [], ◌∷◌, ◌++◌, map}
use mathlib.Core.Logic.{◌⊎◌, ◌↔◌, inl, inr, ⊎_elim}
use Prim.Native.Nat.{ℕ, zero, suc, ◌+◌, ◌≤◌}
use native.Mathlib.Omega.{arith}
use lib.Dec.{T, eqb, eqb→eq, eqb_refl}
use lib.ListN.{length, get_or, take, drop, length-drop}
use lib.Seq.{drop-drop, get_or-drop}
use borrow.Author.Tests.{eqb-true}
use Rattle.fields.specs.declared.Role.{Role}
use Rattle.fields.specs.declared.Role.TheVariants.{Node, Cond}
use Rattle.fields.specs.declared.Body.TheVariants as body
use Rattle.fields.specs.Bytes.{Head, Span, pick, head_of, list_of, name_of, flag_of}
use Rattle.fields.specs.Kinds.{node_kind, kind_of}
use Rattle.fields.proofs.Laws.{head-fits, name-count, flag_off, flag-on}
use Rattle.names.specs.Words.{◌∈◌}
use Rattle.names.proofs.Any.{any-in, any_of}
use Rattle.names.proofs.Means.{Means}
use Rattle.records.specs.Trace.{Trace, and_then, shift, Record, met, well, ends}
use Rattle.records.specs.Grammar.{Reading, Reader, front_at, front, ending, records, piece_at, listed, named_at, flagged_at, last, options, body_of, record_of, nodes}
use Rattle.records.proofs.Traces.{shift-shift, then-done, shift-done}
use Rattle.records.proofs.Readings.{front-local, repeat-step}
use Rattle.records.specs.declared.sorts.Sort.{Sort as Kind}
use Rattle.records.specs.declared.sorts.Sort.TheVariants.{Plain as plain, Temp as temp, Divert as divert, Tunnel as tunnel, Thread as thread, Call as call, Variable as variable, Argument as argument, Choice as choice, Gather as gather, Parameter as parameter, StitchName as stitch_name, FlowStart as flow_start}
use Rattle.records.specs.Items.{code, What, Item, sort_of, leaving, ending_at, ending_n, end_with_divert, spanned, past, unlabelled, second_list, choice_body, leaves, what_of, item_as, item_of}
use Rattle.story.specs.Story.{Story}
use Rattle.story.proofs.Endings.{ends-then, ends-shift, second-well}
use Rattle.story.proofs.WellInside.{record-bears}
use Rattle.rules.specs.declared.Rule.TheVariants.{ChoiceUndiverted}
use Rattle.rules.specs.Rules.{Scope}
use Rattle.rules.specs.Meaning.{Is, Broken}
use Rattle.rules.specs.Reader.{Readable, story_of}
use Rattle.rules.specs.Sorts.{VisitedAs, InBranch, ListThen, LabelThen, ChoiceOf, Kinds, leaving_kinds, LastLeaves, Leaves, Undiverted, BodyOf}
use Rattle.rules.proofs.Sorts.{visited-sort, sort-visited}
use Rattle.rules.proofs.Branches.{node-kind, in-branch}
use Rattle.rules.proofs.FileBodies.{file-bodies}

-- 1. The last kind that is no Newline's

-- it leaves, where the kinds before these leave or not
abbrev last_leaves : Bool → List ℕ → Bool
last_leaves sofar [] = sofar
last_leaves sofar (k ∷ ks) = last_leaves (pick (eqb k 1) sofar (leaving k)) ks

-- Newlines alone
abbrev Newlines : List ℕ → Type 0
Newlines ks = (k : ℕ) → k ∈ ks → k ≡ 1

kind-leaves : (k : ℕ) → Means (leaving k) (k ∈ leaving_kinds)
kind-leaves k = record {
  to = λ t. let r = any_of (eqb k) leaving_kinds t in Memᴰ.cast (eqb→eq k r.0 r.2) r.1;
  from = λ m. any-in (eqb k) m (eqb_refl k);
}

past-newlines : (sofar : Bool) (ks : List ℕ) → Newlines ks → last_leaves sofar ks ≡ sofar
past-newlines sofar [] h = refl
past-newlines sofar (k ∷ ks) h = rw (h k (Memᴰ.head refl)) (past-newlines sofar ks (λ j m. h j (Memᴰ.tail m)))

left-last : (sofar : Bool) (before : List ℕ) (k : ℕ) (after : List ℕ) → T (leaving k) → Newlines after → T (last_leaves sofar (before ++ (k ∷ after)))
left-last sofar [] k after t h = rw (past-newlines (pick (eqb k 1) sofar (leaving k)) after h) (by-test (eqb k 1) refl)
  where
    by-test : (i : Bool) → eqb k 1 ≡ i → T (pick i sofar (leaving k))
    by-test true e = absurd (rw (eqb-true k 1 e) at t)
    by-test false e = t
left-last sofar (x ∷ xs) k after t h = left-last (pick (eqb x 1) sofar (leaving x)) xs k after t h

last-split : (sofar : Bool) (ks : List ℕ) → T (last_leaves sofar ks) → LastLeaves ks ⊎ (T sofar × Newlines ks)
last-split sofar [] t = inr (t, λ k m. absurd (Memᴰ.not-nil m))
last-split sofar (k ∷ ks) t = by-rest (last-split (pick (eqb k 1) sofar (leaving k)) ks t)
  where
    by-test : (i : Bool) → eqb k 1 ≡ i → T (pick i sofar (leaving k)) → Newlines ks → LastLeaves (k ∷ ks) ⊎ (T sofar × Newlines (k ∷ ks))
    by-test true e u h = inr (u, λ j m. ⊎_elim (λ p. p ∙ eqb-true k 1 e) (h j) (Memᴰ.cases_cons m))
    by-test false e u h = inl (record { before = []; kind = k; after = ks; all = refl; leaving = (kind-leaves k).to u; newlines = h })

    by-rest : LastLeaves ks ⊎ (T (pick (eqb k 1) sofar (leaving k)) × Newlines ks) → LastLeaves (k ∷ ks) ⊎ (T sofar × Newlines (k ∷ ks))
    by-rest (inl l) =
        inl (record { before = k ∷ l.before; kind = l.kind; after = l.after; all = ap (λ (x : List ℕ). k ∷ x) l.all; leaving = l.leaving; newlines = l.newlines })
    by-rest (inr u) = by-test (eqb k 1) refl u.0 u.1

last-leaves : (ks : List ℕ) → Means (last_leaves false ks) (LastLeaves ks)
last-leaves ks = record {
  to = λ t. ⊎_elim (λ l. l) (λ u. absurd u.0) (last-split false ks t);
  from = λ l. rw l.all (left-last false l.before l.kind l.after ((kind-leaves l.kind).from l.leaving) l.newlines);
}

-- 2. The kinds of some bytes

ending-kinds : (n : ℕ) (sofar : Bool) (ks s : List ℕ) → Kinds ks s → length s ≤ n → ending_n n sofar s ≡ last_leaves sofar ks
unfolding ending_n ending_at head_of
ending-kinds zero sofar [] s e h = refl
ending-kinds (suc n) sofar [] s e h = rw e
ending-kinds zero sofar (k ∷ ks) s e h = absurd (omega (arith, head-fits s k e.0 refl e.1))
ending-kinds (suc n) sofar (k ∷ ks) s e h =
    rw e.1 (ending-kinds n (pick (eqb k 1) sofar (leaving k)) ks (drop (5 + e.0) s) e.2 (omega (arith, head-fits s k e.0 refl e.1, length-drop (5 + e.0) s)))

-- bytes of these kinds end with a divert where their last non-Newline leaves
pub end_leaves : (ks s : List ℕ) → Kinds ks s → Means (end_with_divert s) (LastLeaves ks)
unfolding end_with_divert
end_leaves ks s h = rw (ending-kinds (length s) false ks s h (omega arith)) (last-leaves ks)

-- what is read well as records has kinds
module _ (f : Reader) where
  kinds-in : (n : ℕ) (s : List ℕ) → length s ≤ n → ends (records f s) ≡ well → (ks : List ℕ) × Kinds ks s
  unfolding front_at ends
  kinds-in zero [] h good = ([], refl)
  kinds-in zero (x ∷ s) h good = absurd (omega arith)
  kinds-in (suc n) [] h good = ([], refl)
  kinds-in (suc n) (x ∷ s) h good =
      by-head (head_of (x ∷ s)) refl (λ m. kinds-in n (drop (5 + m) (x ∷ s)) (omega (arith, length-drop (5 + m) (x ∷ s))))
      (rw (repeat-step (front f) (front-local f) (x ∷ s) (omega arith)) at good)
    where
      by-head : (r : Head) → head_of (x ∷ s) ≡ r
          → ((m : ℕ) → ends (records f (drop (5 + m) (x ∷ s))) ≡ well → (ks : List ℕ) × Kinds ks (drop (5 + m) (x ∷ s)))
          → ends (front_at r f (records f) (x ∷ s)) ≡ well → (ks : List ℕ) × Kinds ks (x ∷ s)
      by-head (Head.Piece kind m) e later g =
          let t = f kind (take m (drop 5 (x ∷ s))) in
          let u = records f (drop (5 + m) (x ∷ s)) in
          let rest = later m (sym (ends-shift (5 + m) u) ∙ second-well (ends t) _ (sym (ends-then t (shift (5 + m) u)) ∙ g)) in
          (kind ∷ rest.0, (m, e, rest.1))
      by-head (Head.Refused x) e later g = let z : ◌≡◌ {A = ℕ} 0 1 = cc in absurd (omega arith)

  pub kinds-of : (s : List ℕ) → ends (records f s) ≡ well → (ks : List ℕ) × Kinds ks s
  kinds-of s good = kinds-in (length s) s (omega arith) good

-- 3. The body of a choice is its second list

label-then : (s rest : List ℕ) → LabelThen s rest → unlabelled s ≡ rest
unfolding unlabelled
label-then s rest (inl h) = rw (flag_off s h.0) (sym h.1)
label-then s rest (inr h) =
    let n : ℕ = h.1.0 in
    let count : get_or s 1 0 ≡ n = sym (get_or-drop 1 s 0 0) ∙ name-count (drop 1 s) n refl h.1.1 in
    let two : 2 + n ≡ 1 + (1 + n) = omega arith in
    rw (flag-on s h.0, count, two, ← drop-drop (1 + n) 1 s) (sym h.1.2)

pub body-second : (payload conditions inside : List ℕ) → ChoiceOf payload conditions inside → choice_body payload ≡ inside
unfolding choice_body second_list past spanned
body-second payload conditions inside c =
    rw (label-then payload c.lists c.label, c.first.1, ← c.first.3, c.second.1) (sym c.second.2)

-- nothing is left where reading ends well
none_left : (s : List ℕ) → ends (ending s) ≡ well → [] ≡ s
unfolding ending ends
none_left [] e = refl
none_left (x ∷ s) e = let z : ◌≡◌ {A = ℕ} 0 1 = cc in absurd (omega arith)

-- a list by f and then k, read well
record ListRead (f : Reader) (k : Reading) (s : List ℕ) (t : Trace) : Type 0 where
  inside : List ℕ
  rest : List ℕ
  is_list : ListThen s inside rest
  rest-well : ends (k rest) ≡ well
  trace : t ≡ and_then (shift 4 (records f inside)) (shift (4 + is_list.0) (k rest))

list_read : (f : Reader) (k : Reading) (s : List ℕ) → ends (listed f k s) ≡ well → ListRead f k s (listed f k s)
unfolding piece_at ends
list_read f k s good = by_span (list_of s) refl good
  where
    by_span : (r : Span) → list_of s ≡ r → ends (piece_at r (records f) k s) ≡ well → ListRead f k s (piece_at r (records f) k s)
    by_span (Span.Bytes n) e g =
        let t = shift 4 (records f (take n (drop 4 s))) in
        let u = k (drop (4 + n) s) in
        record {
          inside = take n (drop 4 s);
          rest = drop (4 + n) s;
          is_list = (n, e, refl, refl);
          rest-well = sym (ends-shift (4 + n) u) ∙ second-well (ends t) _ (sym (ends-then t (shift (4 + n) u)) ∙ g);
          trace = refl;
        }
    by_span (Span.Refused x) e g = let z : ◌≡◌ {A = ℕ} 0 1 = cc in absurd (omega arith)

-- a condition list and a node list and nothing more, read well
record ListsRead (f : Role → Reader) (s : List ℕ) (t : Trace) : Type 0 where
  conditions : List ℕ
  last_list : List ℕ
  inside : List ℕ
  first : ListThen s conditions last_list
  second : ListThen last_list inside []
  trace : t ≡ and_then (shift 4 (records (f Cond) conditions)) (shift (8 + first.0) (records (f Node) inside))

lists-read : (f : Role → Reader) (s : List ℕ) → ends (options f s) ≡ well → ListsRead f s (options f s)
unfolding options last ending
lists-read f s good =
    let a = list_read (f Cond) (last Node f) s good in
    let b = list_read (f Node) ending a.rest a.rest-well in
    let none : [] ≡ b.rest = none_left b.rest b.rest-well in
    let far : 4 + a.is_list.0 + 4 ≡ 8 + a.is_list.0 = omega arith in
    record {
      conditions = a.inside;
      last_list = a.rest;
      inside = b.inside;
      first = a.is_list;
      second = (b.is_list.0, b.is_list.1, b.is_list.2, none ∙ b.is_list.3);
      trace =
          a.trace
          ∙ rw (b.trace, ← none, shift-done (4 + b.is_list.0), then-done (shift 4 (records (f Node) b.inside)), shift-shift (4 + a.is_list.0) 4 (records (f Node) b.inside), far);
    }

-- THE GRAMMAR'S SECOND LIST: a choice that is read well is read as its condition list, then as the list of nodes that is its body
pub record ChoiceRead (f : Role → Reader) (payload : List ℕ) : Type 0 where
  pub conditions : List ℕ
  pub parts : ChoiceOf payload conditions (choice_body payload)
  pub at : ℕ
  pub trace : body_of body.Choice f payload ≡ shift at (and_then (shift 4 (records (f Cond) conditions)) (shift (8 + parts.first.0) (records (f Node) (choice_body payload))))

module _ (f : Role → Reader) (payload : List ℕ) where
  -- by its label and its lists
  labelled-read : (at : ℕ) (s : List ℕ) → LabelThen payload s → body_of body.Choice f payload ≡ shift at (options f s) → ends (body_of body.Choice f payload) ≡ well → ChoiceRead f payload
  labelled-read at s label e good =
      let r = lists-read f s (sym (ends-shift at (options f s)) ∙ rw e at good) in
      let parts : ChoiceOf payload r.conditions r.inside = record { lists = s; last_list = r.last_list; label = label; first = r.first; second = r.second } in
      let same : choice_body payload ≡ r.inside = body-second payload r.conditions r.inside parts in
      record {
        conditions = r.conditions;
        parts = record { lists = s; last_list = r.last_list; label = label; first = r.first; second = rw same r.second };
        at = at;
        trace = e ∙ rw same (ap (shift at) r.trace);
      }

  pub choice-read : ends (body_of body.Choice f payload) ≡ well → ChoiceRead f payload
  unfolding body_of flagged_at named_at shift ends
  choice-read good = by_flag (flag_of payload) refl
    where
      by_name : (r : Span) → name_of (drop 1 payload) ≡ r → flag_of payload ≡ (Ok true) → ChoiceRead f payload
      by_name (Span.Bytes n) p e =
          labelled-read (1 + (1 + n)) (drop (1 + n) (drop 1 payload)) (inr (e, (n, p, refl))) (rw (e, p) (shift-shift 1 (1 + n) (options f (drop (1 + n) (drop 1 payload))))) good
      by_name (Span.Refused x) p e = let g = rw (e, p) at good in let z : ◌≡◌ {A = ℕ} 0 1 = cc in absurd (omega arith)

      by_flag : (r : Result Bool Refusal) → flag_of payload ≡ r → ChoiceRead f payload
      by_flag (Ok false) e = labelled-read 1 (drop 1 payload) (inl (e, refl)) (rw e) good
      by_flag (Ok true) e = by_name (name_of (drop 1 payload)) refl e
      by_flag (Err x) e = let g = rw e at good in let z : ◌≡◌ {A = ℕ} 0 1 = cc in absurd (omega arith)

  -- and its body is read well
  pub body-well : ends (body_of body.Choice f payload) ≡ well → ends (records (f Node) (choice_body payload)) ≡ well
  body-well good =
      let c = choice-read good in
      let t = shift 4 (records (f Cond) c.conditions) in
      let u = records (f Node) (choice_body payload) in
      let far = 8 + c.parts.first.0 in
      let both : ends (and_then t (shift far u)) ≡ well = sym (ends-shift c.at (and_then t (shift far u))) ∙ rw c.trace at good in
      sym (ends-shift far u) ∙ second-well (ends t) _ (sym (ends-then t (shift far u)) ∙ both)

-- 4. A choice leaves

-- of a choice that is read well
pub choice-leaves : (f : Role → Reader) (payload : List ℕ) → ends (body_of body.Choice f payload) ≡ well → Means (leaves choice payload) (Leaves payload)
unfolding leaves
choice-leaves f payload good =
    let c = choice-read f payload good in
    let k = kinds-of (f Node) (choice_body payload) (body-well f payload good) in
    record {
      to = λ t. record {
        conditions = c.conditions;
        body = choice_body payload;
        kinds = k.0;
        parts = c.parts;
        records = k.1;
        last = (end_leaves k.0 (choice_body payload) k.1).to t;
      };
      from = λ l. rw (body-second payload l.conditions l.body l.parts) ((end_leaves l.kinds l.body l.records).from l.last);
    }

-- 5. The items of a body that is read well

pub item-branch : (b : ℕ) (s : List ℕ) → ends (nodes s) ≡ well → (r : Record) → r ∈ met b (nodes s) → Means (item_of r).what.branch (InBranch (met b (nodes s)) r)
unfolding item_of item_as what_of
item-branch b s good r m = in-branch b s good r m

-- a choice among the records is read well as one
choice-known : (role : Role) (kind : ℕ) (payload : List ℕ) → VisitedAs choice role kind payload → kind_of role kind ≡ Some body.Choice
unfolding node_kind
choice-known role kind payload v = rw (node-kind role kind v.0, v.1)

pub item-leaves : (b : ℕ) (s : List ℕ) → ends (nodes s) ≡ well → (r : Record) → r ∈ met b (nodes s) → VisitedAs choice r.role r.kind r.payload
    → Means (item_of r).what.leaves (Leaves r.payload)
unfolding item_of item_as what_of
item-leaves b s good r m v =
    let h = record-bears b s good r m in
    let same : h.body ≡ body.Choice = cc (h.known, choice-known r.role r.kind r.payload v) in
    rw (visited-sort choice r.role r.kind r.payload v) (choice-leaves (record_of h.left) r.payload (rw same at h.inside))

-- 6. Rule 11, of the records of a body and of the bodies of a file

choice-code : (k : Kind) → code choice ≡ code k → k ≡ choice
choice-code plain e = absurd (omega arith)
choice-code temp e = absurd (omega arith)
choice-code divert e = absurd (omega arith)
choice-code tunnel e = absurd (omega arith)
choice-code thread e = absurd (omega arith)
choice-code call e = absurd (omega arith)
choice-code variable e = absurd (omega arith)
choice-code argument e = absurd (omega arith)
choice-code choice e = refl
choice-code gather e = absurd (omega arith)
choice-code parameter e = absurd (omega arith)
choice-code stitch_name e = absurd (omega arith)
choice-code flow_start e = absurd (omega arith)

-- the item of a record is a choice where the record is
is-choice : (r : Record) → Is choice (item_of r).what ↔ VisitedAs choice r.role r.kind r.payload
unfolding item_of item_as what_of
is-choice r = (λ e. by-sort (choice-code (sort_of r.role r.kind r.payload) e), λ v. rw (visited-sort choice r.role r.kind r.payload v))
  where
    by_cases : (choice ≡ plain) ⊎ VisitedAs choice r.role r.kind r.payload → VisitedAs choice r.role r.kind r.payload
    by_cases (inl e) = let z : ◌≡◌ {A = ℕ} 0 1 = cc in absurd (omega arith)
    by_cases (inr v) = v

    by-sort : sort_of r.role r.kind r.payload ≡ choice → VisitedAs choice r.role r.kind r.payload
    by-sort e = by_cases (rw e at (sort-visited r.role r.kind r.payload))

-- the item of a record breaks rule 11 where the record is an undiverted choice
pub breaks-11 : (b : ℕ) (t : List ℕ) → ends (nodes t) ≡ well → (r : Record) → r ∈ met b (nodes t)
    → (s : Story) (scope : Scope) (before : List What) → Broken s scope before ChoiceUndiverted (item_of r).what ↔ Undiverted (met b (nodes t)) r
unfolding Broken
breaks-11 b t good r m s scope before = (
  λ h. let v = (is-choice r).0 h.0 in (v, (item-branch b t good r m).to h.1, λ l. h.2 ((item-leaves b t good r m v).from l)),
  λ h. ((is-choice r).1 h.0, (item-branch b t good r m).from h.1, λ l. h.2 ((item-leaves b t good r m h.0).to l)),
)

-- RULE 11: the items of each body of a readable file are those of records, and break rule 11 where these are undiverted choices
pub rule-11 : (file : List ℕ) → Readable file → (items : List Item) → BodyOf (story_of file) items
    → (rs : List Record)
    × (items ≡ map item_of rs)
    × ((r : Record) → r ∈ rs → (s : Story) (scope : Scope) (before : List What) → Broken s scope before ChoiceUndiverted (item_of r).what ↔ Undiverted rs r)
rule-11 file readable items b =
    let w = file-bodies file readable items b in (met w.at (nodes w.bytes), w.all, breaks-11 w.at w.bytes w.good)
