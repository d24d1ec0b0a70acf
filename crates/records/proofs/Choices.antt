-- A choice as the walk goes through it: its label, its conditions, its nodes, and whether these leave. Assumes nothing.
use Rattle.std.specs.Prelude.{Result, Option, Ok, Err, Some, None}
use Rattle.std.proofs.Common.{◌≡◌, ℕ, ◌+◌, ◌-◌, ◌%◌, ◌^◌, ◌<◌, ◌≤◌, Bool, true, false, not, List, [], ◌∷◌, length, get_or, take, drop, set, sym, refl, ap, ◌∙◌, arith, length-drop, get_or-drop, drop-drop}
use lib.Seq.{set_out}
use Rattle.fields.specs.declared.Refusal.{Refusal}
use Rattle.fields.specs.declared.Refusal.TheVariants.{Short}
use Rattle.fields.specs.declared.Role.{Role}
use Rattle.fields.specs.declared.Role.TheVariants.{Node}
use Rattle.fields.specs.declared.Body.{Body}
use Rattle.fields.specs.declared.Body.TheVariants as body
use Rattle.fields.specs.Bytes.{list_of, name_of, flag_of, span_reach}
use Rattle.fields.specs.Kinds.{kind_of, node_kinds}
use Rattle.fields.proofs.Laws.{same_pair, span_to, to_end, name-within, name-count, off-fits, on_fits, flag_off, flag-on}
use Rattle.records.specs.Grammar.{Reading, Reader, ending, records, listed, named, flagged, last, options, body_of, record_of}
use Rattle.records.specs.declared.sorts.Sort.{Sort as Kind}
use Rattle.records.specs.declared.sorts.Sort.TheVariants.{Plain as plain, Choice as choice}
use Rattle.records.specs.Items.{same_kind, sort_of, end_with_divert, spanned, past, unlabelled, second_list, choice_body, leaves}
use Rattle.records.specs.Work.{St, st, Ran, ended, broke, Visitor, run, keeping, walk_of, Written, Told, end_of, reach_after, label_reach_of, label_reach, nodes_of, ToldNodes, nodes_end, is_choice, payload_leaves, last_slot, leaves_at, put_leaves, nodes_walk, nodes_put}
use Rattle.records.proofs.Tables.{all-pairs}
use Rattle.records.proofs.Marks.{sorts-by, every-kind}
use Rattle.records.proofs.Walking.{told-ended, told-end, flagged-refused, flagged-off, flagged-on, named-refused, named-on, sized_on, sized-else, record-on}
use Rattle.records.proofs.Leaving.{on_out, run-put-leaves, put-leaves-length}

-- 1. The label

-- the place after a piece so many bytes on
after-to : (a e : ℕ) (x : Result ℕ Refusal) → reach_after a x ≡ Ok e → (d : ℕ) × (x ≡ Ok d) × (e ≡ a + d)
unfolding reach_after
after-to a e (Ok d) q = (d, refl, cc)
after-to a e (Err r) q = let z : ◌≡◌ {A = ℕ} 0 1 = cc in absurd (omega arith)

after-refused : (a : ℕ) (y : Refusal) (x : Result ℕ Refusal) → reach_after a x ≡ Err y → x ≡ Err y
unfolding reach_after
after-refused a y (Ok d) q = let z : ◌≡◌ {A = ℕ} 0 1 = cc in absurd (omega arith)
after-refused a y (Err r) q = q

-- so the callee answers, by what it learns of the flag and of the name
module _ (s : List ℕ) {f : Result Bool Refusal} (p : f ≡ flag_of s) where
  pub label-flag-refused : {x : Refusal} → f ≡ Err x → Err x ≡ label_reach s
  unfolding label_reach_of
  label-flag-refused q = rw (← p, q)

  pub label-none : f ≡ (Ok false) → Ok 1 ≡ label_reach s
  unfolding label_reach_of
  label-none q = rw (← p, q)

  module _ (q : f ≡ (Ok true)) {a : Result ℕ Refusal} (n : a ≡ span_reach 1 (name_of (take (length s - 1) (drop 1 s)))) where
    pub label-name-refused : {x : Refusal} → a ≡ Err x → a ≡ label_reach s
    unfolding label_reach_of reach_after
    label-name-refused z = rw (← p, q, ← to_end 1 s, ← n, z)

    pub label-name : {e : ℕ} → a ≡ Ok e → Ok (1 + e) ≡ label_reach s
    unfolding label_reach_of reach_after
    label-name z = rw (← p, q, ← to_end 1 s, ← n, z)

    pub label-name-fits : {e : ℕ} → a ≡ Ok e → e < length s
    label-name-fits {e} z = omega (arith, name-within (take (length s - 1) (drop 1 s)) e n z, length-drop 1 s, on_fits s p q, ap length (to_end 1 s))

-- what the label is: a flag that is off, or one that is on and a name behind it
data Labelled (s : List ℕ) (e : ℕ) : Type 0 where
  none : flag_of s ≡ (Ok false) → e ≡ 1 → Labelled s e
  some : (d : ℕ) → flag_of s ≡ (Ok true) → span_reach 1 (name_of (drop 1 s)) ≡ Ok d → e ≡ 1 + d → Labelled s e

module _ (s : List ℕ) {r : Result ℕ Refusal} (read : r ≡ label_reach s) where
  label-to : (e : ℕ) → r ≡ Ok e → Labelled s e
  unfolding label_reach_of
  label-to e q = by_flag (flag_of s) refl (sym read ∙ q)
    where
      by_flag : (x : Result Bool Refusal) → flag_of s ≡ x → label_reach_of x s ≡ Ok e → Labelled s e
      by_flag (Ok false) p z = none p cc
      by_flag (Ok true) p z = let d = after-to 1 e (span_reach 1 (name_of (drop 1 s))) z in some d.0 p d.1 d.2
      by_flag (Err x) p z = let y : ◌≡◌ {A = ℕ} 0 1 = cc in absurd (omega arith)

  pub label-fits : (e : ℕ) → r ≡ Ok e → (1 ≤ e) × (e ≤ length s)
  label-fits e q = by-label (label-to e q)
    where
      by-label : Labelled s e → (1 ≤ e) × (e ≤ length s)
      by-label (none p z) = omega (arith, off-fits s refl p, z)
      by-label (some d p n z) = omega (arith, on_fits s refl p, z, name-within (drop 1 s) d refl n, length-drop 1 s)

  -- what follows it
  label-past : (e : ℕ) → r ≡ Ok e → unlabelled s ≡ drop e s
  unfolding unlabelled
  label-past e q = by-label (label-to e q)
    where
      by-label : Labelled s e → unlabelled s ≡ drop e s
      by-label (none p z) = rw (flag_off s p, z)
      by-label (some d p n z) =
          let span = span_to 1 (name_of (drop 1 s)) refl d n in
          let count : get_or s 1 0 ≡ d - 1 = sym (get_or-drop 1 s 0 0) ∙ name-count (drop 1 s) (d - 1) refl span.0 in
          let two : 2 + (d - 1) ≡ e = omega (arith, z, span.1) in
          rw (flag-on s p, count, two)

  module _ (v : Visitor St) (b : ℕ) (s₀ : St) (k : Reading) where
    label-on : (e : ℕ) → r ≡ Ok e → run v b s₀ (flagged k (named k) s) ≡ run v (b + e) s₀ (k (take (length s - e) (drop e s)))
    label-on e q = rw (to_end e s) (by-label (label-to e q))
      where
        by-label : Labelled s e → run v b s₀ (flagged k (named k) s) ≡ run v (b + e) s₀ (k (drop e s))
        by-label (none p z) = rw z (flagged-off v b s₀ k (named k) s refl p ∙ rw (to_end 1 s))
        by-label (some d p n z) =
            let there : b + 1 + d ≡ b + (1 + d) = omega arith in
            rw (z, ← there, ← drop-drop d 1 s)
            (flagged-on v b s₀ k (named k) s refl p ∙ rw (to_end 1 s) (named-on v (b + 1) s₀ k (drop 1 s) d refl n ∙ rw (to_end d (drop 1 s))))

    label-refused : (x : Refusal) → r ≡ Err x → Told (run v b s₀ (flagged k (named k) s)) (Err x) s₀.out
    unfolding label_reach_of
    label-refused x q = by_flag (flag_of s) refl (sym read ∙ q)
      where
        by_flag : (y : Result Bool Refusal) → flag_of s ≡ y → label_reach_of y s ≡ Err x → Told (run v b s₀ (flagged k (named k) s)) (Err x) s₀.out
        by_flag (Ok false) p z = let y : ◌≡◌ {A = ℕ} 0 1 = cc in absurd (omega arith)
        by_flag (Ok true) p z =
            rw (flagged-on v b s₀ k (named k) s refl p, to_end 1 s) (named-refused v (b + 1) s₀ k (drop 1 s) x refl (after-refused 1 x (span_reach 1 (name_of (drop 1 s))) z))
        by_flag (Err y) p z = let same : y ≡ x = cc in flagged-refused v b s₀ k (named k) s x refl (p ∙ ap Err same)

-- 2. Lists

module _ (s : List ℕ) (to : ℕ) {r : Result ℕ Refusal} (read : r ≡ span_reach 4 (list_of s)) (at : r ≡ Ok to) where
  -- the list at the front
  list-there : spanned (list_of s) s ≡ take (to - 4) (drop 4 s)
  unfolding spanned
  list-there = rw (span_to 4 (list_of s) read to at).0

  -- what follows it
  list-past : past (list_of s) s ≡ take (length s - to) (drop to s)
  unfolding past
  list-past = let h = span_to 4 (list_of s) read to at in rw (to_end to s, h.0, h.1)

  -- the second list
  pub second-there : second_list s ≡ spanned (list_of (take (length s - to) (drop to s))) (take (length s - to) (drop to s))
  unfolding second_list
  second-there = rw list-past

-- 3. An answer with whether the nodes leave, and one without

pub nodes-answers : (x : Ran St) (leaves : Bool) {w : Result ℕ Refusal} {o : List ℕ} → Told x w o → {a : Result (ℕ × Bool) Refusal} → a ≡ nodes_of leaves w → ToldNodes x leaves a o
nodes-answers x leaves g q = record { answer = rw (← g.answer) q; written = g.written }

pub nodes-refused : (x : Ran St) (leaves : Bool) {r : Refusal} {o : List ℕ} → Told x (Err r) o → ToldNodes x leaves (Err r) o
unfolding nodes_of
nodes-refused x leaves g = nodes-answers x leaves g refl

module _ (x : Ran St) (leaves : Bool) {a : Result (ℕ × Bool) Refusal} {o : List ℕ} (g : ToldNodes x leaves a o) where
  nodes-told : (m : ℕ) (l : Bool) → a ≡ Ok (m, l) → (l ≡ leaves) × Told x (Ok m) o
  unfolding nodes_of
  nodes-told m l q = by-walk (walk_of x) refl g.answer
    where
      by-walk : (w : Result ℕ Refusal) → w ≡ walk_of x → a ≡ nodes_of leaves w → (l ≡ leaves) × Told x (Ok m) o
      by-walk (Ok n) p i = let parts = same_pair {E = Refusal} (sym q ∙ i) in (parts.1, record { answer = rw parts.0 p; written = g.written })
      by-walk (Err r) p i = let y : ◌≡◌ {A = ℕ} 0 1 = cc in absurd (omega arith)

  nodes-told-refused : (r : Refusal) → a ≡ Err r → Told x (Err r) o
  unfolding nodes_of
  nodes-told-refused r q = by-walk (walk_of x) refl g.answer
    where
      by-walk : (w : Result ℕ Refusal) → w ≡ walk_of x → a ≡ nodes_of leaves w → Told x (Err r) o
      by-walk (Ok n) p i = let y : ◌≡◌ {A = ℕ} 0 1 = cc in absurd (omega arith)
      by-walk (Err r') p i = let same : r ≡ r' = cc in record { answer = rw same p; written = g.written }

-- 4. The list of nodes, with nothing left behind it

-- so the callee answers
pub end_refused : (a : Result (ℕ × Bool) Refusal) (u : List ℕ) {x : Refusal} → a ≡ Err x → a ≡ nodes_end a u
unfolding nodes_end
end_refused a [] q = refl
end_refused a (y ∷ u) q = rw q

pub end_left : (a : Result (ℕ × Bool) Refusal) (u : List ℕ) {m : ℕ} {l : Bool} → a ≡ Ok (m, l) → {w : Result ℕ Refusal} → w ≡ end_of m u → {x : Refusal} → w ≡ Err x → Err x ≡ nodes_end a u
unfolding nodes_end end_of
end_left a [] q p z = let y : ◌≡◌ {A = ℕ} 0 1 = cc in absurd (omega arith)
end_left a (y ∷ u) q p {x} z = let same : x ≡ Short = cc in rw (q, same)

pub end_well : (a : Result (ℕ × Bool) Refusal) (u : List ℕ) {m : ℕ} {l : Bool} → a ≡ Ok (m, l) → {w : Result ℕ Refusal} → w ≡ end_of m u → {k : ℕ} → w ≡ Ok k → Ok (k, l) ≡ nodes_end a u
unfolding nodes_end end_of
end_well a [] {m} q p {k} z = let same : k ≡ m = cc in rw (q, same)
end_well a (y ∷ u) q p z = let y : ◌≡◌ {A = ℕ} 0 1 = cc in absurd (omega arith)

module _ (v : Visitor St) (b : ℕ) (s₀ : St) (f : Role → Reader) (s : List ℕ) (to : ℕ) {r : Result ℕ Refusal} (read : r ≡ span_reach 4 (list_of s)) (at : r ≡ Ok to)
    {a : Result (ℕ × Bool) Refusal} {o : List ℕ} (g : ToldNodes (run v (b + 4) s₀ (records (f Node) (take (to - 4) (drop 4 s)))) (end_with_divert (take (to - 4) (drop 4 s))) a o) where
  abbrev inner : Ran St
  inner = run v (b + 4) s₀ (records (f Node) (take (to - 4) (drop 4 s)))

  ends_so : (m : ℕ) (l : Bool) (u : List ℕ) → nodes_end (Ok (m, l)) u ≡ nodes_of l (end_of m u)
  unfolding nodes_end nodes_of end_of
  ends_so m l [] = refl
  ends_so m l (x ∷ u) = refl

  refused-so : (x : Refusal) (u : List ℕ) → nodes_end (Err x) u ≡ Err x
  unfolding nodes_end
  refused-so x [] = refl
  refused-so x (y ∷ u) = refl

  pub nodes-ended : {c : Result (ℕ × Bool) Refusal} → c ≡ nodes_end a (take (length s - to) (drop to s)) → ToldNodes (run v b s₀ (last Node f s)) (end_with_divert (spanned (list_of s) s)) c o
  unfolding last
  nodes-ended {c} z = rw (list-there s to read at) (by_answer a refl)
    where
      rest : List ℕ
      rest = take (length s - to) (drop to s)

      by_answer : (e : Result (ℕ × Bool) Refusal) → a ≡ e → ToldNodes (run v b s₀ (listed (f Node) ending s)) (end_with_divert (take (to - 4) (drop 4 s))) c o
      by_answer (Ok (m, l)) p =
          let h = nodes-told inner (end_with_divert (take (to - 4) (drop 4 s))) g m l p in
          nodes-answers (run v b s₀ (listed (f Node) ending s)) (end_with_divert (take (to - 4) (drop 4 s))) {w = end_of m rest}
          (rw (sized_on v b s₀ (records (f Node)) ending s to m read at h.1 refl) (told-end v (b + to) (st o m) rest refl))
          (z ∙ rw (p, ← h.0) (ends_so m l rest))
      by_answer (Err x) p =
          rw (z, p, refused-so x rest)
          (nodes-refused (run v b s₀ (listed (f Node) ending s)) (end_with_divert (take (to - 4) (drop 4 s)))
          (sized-else v b s₀ (records (f Node)) ending s to read at (nodes-told-refused inner (end_with_divert (take (to - 4) (drop 4 s))) g x p) refl))

-- 5. The bit, as the callee puts it; and the answer of a choice, by that of its nodes

module _ (n : ℕ) (out : List ℕ) where
  pub put-stays : {l : Bool} → l ≡ false → out ≡ put_leaves l n out
  unfolding put_leaves
  put-stays z = rw z

  module _ {l : Bool} (z : l ≡ true) where
    pub put-leaves : set out ((n + 4294967295) % 2 ^ 64 % 4294967296) ((get_or out ((n + 4294967295) % 2 ^ 64 % 4294967296) 0 + 67108864) % 2 ^ 32) ≡ put_leaves l n out
    unfolding put_leaves leaves_at last_slot
    put-leaves = rw z

    pub put_full : length out ≤ (n + 4294967295) % 2 ^ 64 % 4294967296 → out ≡ put_leaves l n out
    unfolding put_leaves leaves_at last_slot
    put_full h = rw z (sym (set_out out _ _ h))

  module _ (a : Result (ℕ × Bool) Refusal) where
    pub put_refused : {x : Refusal} → a ≡ Err x → (Err x ≡ nodes_walk a) × (out ≡ nodes_put a n out)
    unfolding nodes_walk nodes_put
    put_refused q = (rw q, rw q)

    pub put_done : {m : ℕ} {l : Bool} → a ≡ Ok (m, l) → (Ok m ≡ nodes_walk a) × (put_leaves l n out ≡ nodes_put a n out)
    unfolding nodes_walk nodes_put
    put_done q = (rw q, rw q)

-- 6. The choice: its number is as if the bit had been there before its nodes were read

-- of a refused run the buffer's length is all that counts
told-length : (x : Ran St) {r : Refusal} {o o' : List ℕ} → length o' ≡ length o → Told x (Err r) o → Told x (Err r) o'
unfolding walk_of Written
told-length (ended s) e g = let a = g.answer in let z : ◌≡◌ {A = ℕ} 0 1 = cc in absurd (omega arith)
told-length (broke s x) e g = record { answer = g.answer; written = e ∙ g.written }

-- the bit put afterwards
put-told : (x : Ran St) (leaves : Bool) (n : ℕ) {a : Result (ℕ × Bool) Refusal} {o : List ℕ} → ToldNodes x leaves a o → {w : Result ℕ Refusal} → w ≡ nodes_walk a → {o' : List ℕ} → o' ≡ nodes_put a n o
    → Told (on_out (put_leaves leaves n) x) w o'
unfolding nodes_walk nodes_put on_out walk_of Written
put-told x leaves n {a} {o} g {w} p {o'} q = by_answer a refl p q
  where
    by_answer : (e : Result (ℕ × Bool) Refusal) → a ≡ e → w ≡ nodes_walk e → o' ≡ nodes_put e n o → Told (on_out (put_leaves leaves n) x) w o'
    by_answer (Ok (m, l)) z p q =
        let h = nodes-told x leaves g m l z in
        rw (told-ended x h.1 refl) (record { answer = p; written = rw (← h.0) q })
    by_answer (Err r) z p q = by_end x (nodes-told-refused x leaves g r z)
      where
        by_end : (y : Ran St) → Told y (Err r) o → Told (on_out (put_leaves leaves n) y) w o'
        by_end (ended s) h = let c = h.answer in let i : ◌≡◌ {A = ℕ} 0 1 = cc in absurd (omega arith)
        by_end (broke s y) h = record { answer = p ∙ h.answer; written = ap length q ∙ h.written ∙ sym (put-leaves-length leaves n s.out) }

module _ (b n left : ℕ) (s out : List ℕ) {r : Result ℕ Refusal} (read : r ≡ label_reach s) where
  pub choice-refused : (x : Refusal) → r ≡ Err x
      → Told (run keeping b (st (put_leaves (end_with_divert (choice_body s)) n out) n) (flagged (options (record_of left)) (named (options (record_of left))) s)) (Err x) out
  choice-refused x q =
      let o = put_leaves (end_with_divert (choice_body s)) n out in
      told-length (run keeping b (st o n) (flagged (options (record_of left)) (named (options (record_of left))) s)) (sym (put-leaves-length (end_with_divert (choice_body s)) n out))
      (label-refused s read keeping b (st o n) (options (record_of left)) x q)

  module _ (short : length s ≤ 1048576) (e : ℕ) (q : r ≡ Ok e) {a : Result (ℕ × Bool) Refusal} {o : List ℕ}
      (g : ToldNodes (run keeping (b + e) (st out n) (options (record_of left) (take (length s - e) (drop e s)))) (end_with_divert (second_list (take (length s - e) (drop e s)))) a o) where
    body-there : choice_body s ≡ second_list (take (length s - e) (drop e s))
    unfolding choice_body
    body-there = rw (to_end e s, label-past s read e q)

    whole-there : run keeping b (st (put_leaves (end_with_divert (choice_body s)) n out) n) (flagged (options (record_of left)) (named (options (record_of left))) s)
        ≡ on_out (put_leaves (end_with_divert (choice_body s)) n) (run keeping (b + e) (st out n) (options (record_of left) (take (length s - e) (drop e s))))
    unfolding body_of
    whole-there =
        let l = end_with_divert (choice_body s) in
        run-put-leaves l b n left body.Choice s out short ∙ ap (on_out (put_leaves l n)) (label-on s read keeping b (st out n) (options (record_of left)) e q)

    pub choice-told : {w : Result ℕ Refusal} → w ≡ nodes_walk a → {o' : List ℕ} → o' ≡ nodes_put a n o
        → Told (run keeping b (st (put_leaves (end_with_divert (choice_body s)) n out) n) (flagged (options (record_of left)) (named (options (record_of left))) s)) w o'
    choice-told p z =
        let rest = take (length s - e) (drop e s) in
        rw (whole-there, body-there) (put-told (run keeping (b + e) (st out n) (options (record_of left) rest)) (end_with_divert (second_list rest)) n g p z)

-- 7. A record is a choice by its sort where it is one by its payload

same_test : Bool → Bool → Bool
same_test true b = b
same_test false b = not b

same_tests : (a b : Bool) → same_test a b ≡ true → a ≡ b
unfolding same_test
same_tests true true e = refl
same_tests true false e = sym e
same_tests false true e = e
same_tests false false e = refl

agrees : Option Body → Kind → Bool
agrees (Some c) k = same_test (same_kind k choice) (is_choice c)
agrees None k = true

none-agrees : (k : Kind) → agrees None k ≡ true
unfolding agrees
none-agrees k = refl

nodes-agree : (x : Bool) → all-pairs agrees plain node_kinds (sorts-by x) ≡ true
unfolding all-pairs agrees same_test is_choice
nodes-agree true = refl
nodes-agree false = refl

kind-agrees : (role : Role) (kind : ℕ) (payload : List ℕ) → agrees (kind_of role kind) (sort_of role kind payload) ≡ true
unfolding all-pairs agrees same_test is_choice
kind-agrees = every-kind agrees none-agrees nodes-agree refl refl refl refl

sort-leaves : (role : Role) (kind : ℕ) (payload : List ℕ) (c : Body) {r : Option Body} → r ≡ kind_of role kind → r ≡ Some c → leaves (sort_of role kind payload) payload ≡ payload_leaves c payload
unfolding leaves payload_leaves agrees
sort-leaves role kind payload c p q =
    let e = same_tests (same_kind (sort_of role kind payload) choice) (is_choice c) (sym (ap (λ (x : Option Body). agrees x (sort_of role kind payload)) (sym p ∙ q)) ∙ kind-agrees role kind payload) in
    rw e

-- a record of a known kind: noted, then its payload, as if the bit of a choice that leaves were there
pub record-noted : (b : ℕ) (out : List ℕ) (n left : ℕ) (role : Role) (kind : ℕ) (s : List ℕ) (c : Body) {r : Option Body} → r ≡ kind_of role kind → r ≡ Some c → (left ≡ 0 → ⊥)
    → (o : List ℕ) (m : ℕ) → st (put_leaves (leaves (sort_of role kind s) s) m o) m ≡ keeping (st out n) role kind b s
    → run keeping b (st out n) (record_of left role kind s) ≡ run keeping (b + 5) (st (put_leaves (payload_leaves c s) m o) m) (body_of c (record_of (left - 1)) s)
record-noted b out n left role kind s c e q p o m noted =
    record-on keeping b (st out n) left role kind s c {u = st (put_leaves (leaves (sort_of role kind s) s) m o) m} e q p noted ∙ rw (sort-leaves role kind s c e q)
