-- Records that are nothing but a head, and plain: text and the like. Assumes nothing.
use Rattle.std.specs.Prelude.{Result, Ok}
use Rattle.fields.specs.declared.Refusal.{Refusal}
use Rattle.std.proofs.Common.{◌≡◌, true, ◌⊎◌, inl, inr, eqb, ltb, eqb-true, ltb-true, ℕ, zero, suc, ◌+◌, ◌-◌, ◌%◌, ◌^◌, ◌<◌, List, [], length, take, drop, refl, arith}
use Rattle.fields.specs.declared.Role.{Role}
use Rattle.fields.specs.declared.Role.TheVariants.{Node, Branch, Cond, Visited, Argument, Unvisited}
use Rattle.fields.specs.declared.Body.TheVariants.{Exprs}
use Rattle.fields.specs.Bytes.{head_of, read_of_head}
use Rattle.fields.specs.Kinds.{kind_of, node_kind, cond_kind, expr_kind}
use Rattle.records.specs.Grammar.{Reading, front, record_of, body_of, exact, ending, nothing}
use Rattle.records.specs.Items.{sort_of}
use Rattle.records.specs.Work.{st, run, keeping, Told, piece_of, ToldTo, head_end, BareKind, Bare}
use Rattle.records.proofs.Marks.{note-plain}
use Rattle.records.proofs.PiecesRead.{first-answers}
use Rattle.records.proofs.Walking.{record-on, told-done, front-on}

-- 1. The kinds

-- kind 0, in every role
pub bare-zero : {kind : ℕ} (role : Role) → eqb kind 0 ≡ true → BareKind role kind
unfolding kind_of node_kind cond_kind expr_kind sort_of
bare-zero {kind} role e = rw (eqb-true kind 0 e) (at_zero role)
  where
    at_zero : (r : Role) → BareKind r 0
    at_zero Node = record { inner = Visited; nothing_inside = refl; is_plain = λ q. refl }
    at_zero Branch = record { inner = Visited; nothing_inside = refl; is_plain = λ q. refl }
    at_zero Cond = record { inner = Visited; nothing_inside = refl; is_plain = λ q. refl }
    at_zero Visited = record { inner = Visited; nothing_inside = refl; is_plain = λ q. refl }
    at_zero Argument = record { inner = Unvisited; nothing_inside = refl; is_plain = λ q. refl }
    at_zero Unvisited = record { inner = Unvisited; nothing_inside = refl; is_plain = λ q. refl }

-- nodes of kinds 0 and 1, directly in a branch or not
pub bare-node : {kind : ℕ} {role : Role} → (role ≡ Node) ⊎ (role ≡ Branch) → ltb kind 2 ≡ true → BareKind role kind
unfolding kind_of node_kind sort_of
bare-node {kind} r e = below kind r (ltb-true kind 2 e)
  where
    below : (k : ℕ) {role : Role} → (role ≡ Node) ⊎ (role ≡ Branch) → k < 2 → BareKind role k
    below zero {role} r p = bare-zero role refl
    below (suc zero) (inl e) p = rw e (record { inner = Visited; nothing_inside = refl; is_plain = λ q. refl })
    below (suc zero) (inr e) p = rw e (record { inner = Visited; nothing_inside = refl; is_plain = λ q. refl })
    below (suc (suc k)) r p = absurd (omega arith)

-- 2. A walk over such a record

module _ (b : ℕ) (out : List ℕ) (n : ℕ) {next : ℕ} (more : next ≡ (n + 4294967296) % 2 ^ 64) (left : ℕ) (role : Role) where
  bare-record : (kind to : ℕ) → Bare role kind to left → Told (run keeping b (st out n) (record_of left role kind [])) (Ok next) out
  unfolding body_of exact ending
  bare-record kind to h =
      rw (record-on keeping b (st out n) left role kind [] (Exprs 0 h.bare.inner) refl h.bare.nothing_inside h.some_left (note-plain out n role kind b [] (h.bare.is_plain []) refl more))
      (told-done keeping (b + 5) (st out next) (body_of (Exprs 0 h.bare.inner) (record_of (left - 1)) []) refl)

  none_inside : (to : ℕ) (s : List ℕ) → to ≡ 5 → take (to - 5) (drop 5 s) ≡ []
  none_inside to s e = rw e

  pub bare-on : (k : Reading) (s : List ℕ) (kind to : ℕ) {r : Result (ℕ × ℕ) Refusal} → Bare role kind to left → r ≡ read_of_head (head_of s) → r ≡ Ok (kind, to)
      → run keeping b (st out n) (front (record_of left role) k s) ≡ run keeping (b + to) (st out next) (k (take (length s - to) (drop to s)))
  bare-on k s kind to h e q = front-on keeping b (st out n) (record_of left role) k s kind to next e q (rw (none_inside to s h.empty) (bare-record kind to h)) refl

  -- the answer of a call that reads such a record
  pub bare-answers : (s : List ℕ) (kind to : ℕ) {r : Result (ℕ × ℕ) Refusal} → Bare role kind to left → r ≡ read_of_head (head_of s) → r ≡ Ok (kind, to)
      → ToldTo (run keeping b (st out n) (front (record_of left role) nothing s)) (head_end s) (Ok (to, next)) out
  unfolding piece_of
  bare-answers s kind to h e q = first-answers keeping b (st out n) (record_of left role) s kind to {w = Ok next} e q (rw (none_inside to s h.empty) (bare-record kind to h)) refl
