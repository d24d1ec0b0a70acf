-- Flows and stitches as traces: a title, a list of nodes, and what follows; and names, which are no records. Assumes nothing.
use Rattle.std.specs.Prelude.{Result, Ok, Err}
use Rattle.fields.specs.declared.Refusal.{Refusal}
use Rattle.story.specs.declared.Heading.{Heading}
use mathlib.Core.Path.{◌≡◌, refl, ◌∙◌}
use mathlib.Core.List.{List, [], ◌∷◌}
use mathlib.Core.Bool.{Bool, true, false}
use Prim.Native.Nat.{ℕ, zero, suc, ◌+◌, ◌≤◌}
use native.Mathlib.Nat.{add_assoc, add-sub_cancel_left}
use native.Mathlib.Omega.{arith}
use lib.Dec.{ltb}
use lib.ListN.{length, get_or, take, drop, length-drop}
use lib.Seq.{drop-drop, drop-cons}
use borrow.Author.Tests.{ltb-true, ltb-false}
use Rattle.fields.specs.declared.Refusal.TheVariants.{Short}
use Rattle.fields.specs.declared.Role.TheVariants.{Node}
use Rattle.fields.specs.Bytes.{Span, pick, list_of, name_of}
use Rattle.records.specs.Trace.{Trace, done, refuse, and_then, shift, Ending, well, refused, ends}
use Rattle.records.specs.Grammar.{Reading, Reader, named_at, named, piece_at, listed, record_of, nodes, records, repeat_n, repeat}
use Rattle.records.proofs.Traces.{shift-then, shift-shift}
use Rattle.story.specs.Headings.{reach_at, names_reach, counted_reach, list_at, marks_at, params_at, name_then, heading_of}
use Rattle.story.specs.Flows.{names, names_then, counted, titled, part}

-- 1. A title

-- what reaches so far, followed by k
unfoldable reach_trace : Result ℕ Refusal → Reading → List ℕ → Trace
reach_trace (Ok e) k s = shift e (k (drop e s))
reach_trace (Err r) k s = refuse r

-- a title, its nodes, and k
unfoldable pub title_trace : Result Heading Refusal → Reading → List ℕ → Trace
title_trace (Ok h) k s = and_then (shift h.nodes (nodes (part h.nodes h.end s))) (shift h.end (k (drop h.end s)))
title_trace (Err r) k s = refuse r

names-trace : (n : ℕ) (k : Reading) (s : List ℕ) (at : ℕ) → shift at (names_then n k (drop at s)) ≡ reach_trace (names_reach s n at) k s
unfolding names_then names_reach reach_trace reach_at named_at shift
names-trace zero k s at = refl
names-trace (suc n) k s at = by_name (name_of (drop at s)) (λ j. names-trace n k s (at + (1 + j)))
  where
    by_name : (r : Span) → ((j : ℕ) → shift (at + (1 + j)) (names_then n k (drop (at + (1 + j)) s)) ≡ reach_trace (names_reach s n (at + (1 + j))) k s)
        → shift at (named_at r (names_then n k) (drop at s)) ≡ reach_trace (reach_at r (names_reach s n) at) k s
    by_name (Span.Bytes j) more = rw (shift-shift at (1 + j) (names_then n k (drop (1 + j) (drop at s))), drop-drop (1 + j) at s) (more j)
    by_name (Span.Refused r) more = refl

counted-trace : (k : Reading) (s : List ℕ) (at : ℕ) → shift at (counted k (drop at s)) ≡ reach_trace (counted_reach s at) k s
unfolding counted_reach counted reach_trace shift
counted-trace k s at = by-test (ltb at (length s)) refl
  where
    one_on : at + 1 ≡ suc at
    one_on = omega arith

    by-test : (i : Bool) → ltb at (length s) ≡ i → shift at (counted k (drop at s)) ≡ reach_trace (pick i (names_reach s (get_or s at 0) (at + 1)) (Err Short)) k s
    by-test true t =
        rw (drop-cons s at 0 (ltb-true at (length s) t), shift-shift at 1 (names_then (get_or s at 0) k (drop (suc at) s)), one_on) (names-trace (get_or s at 0) k s (suc at))
    by-test false t = rw (none (drop at s) (omega (arith, length-drop at s, ltb-false at (length s) t)))
      where
        none : (u : List ℕ) → length u ≤ 0 → u ≡ []
        none [] h = refl
        none (x ∷ u) h = absurd (omega arith)

-- the records of its node list
abbrev body : Reader
body = record_of 64 Node

list-trace : (k : Reading) (s : List ℕ) (params marks list : ℕ) (r : Span) → shift list (piece_at r (records body) k (drop list s)) ≡ title_trace (list_at params marks list r) k s
unfolding piece_at list_at title_trace nodes part shift
list-trace k s params marks list (Span.Bytes n) =
    rw (shift-then list (shift 4 (records body (take n (drop 4 (drop list s))))) (shift (4 + n) (k (drop (4 + n) (drop list s)))), shift-shift list 4 (records body (take n (drop 4 (drop list s)))), shift-shift list (4 + n) (k (drop (4 + n) (drop list s))), drop-drop 4 list s, drop-drop (4 + n) list s, ← add_assoc list 4 n, add-sub_cancel_left (list + 4) n)
list-trace k s params marks list (Span.Refused x) = refl

marks-trace : (k : Reading) (s : List ℕ) (params marks : ℕ) (r : Result ℕ Refusal) → reach_trace r (listed body k) s ≡ title_trace (marks_at params marks r s) k s
unfolding marks_at reach_trace title_trace
marks-trace k s params marks (Ok list) = list-trace k s params marks list (list_of (drop list s))
marks-trace k s params marks (Err x) = refl

params-trace : (k : Reading) (s : List ℕ) (params : ℕ) (r : Result ℕ Refusal) → reach_trace r (counted (listed body k)) s ≡ title_trace (params_at params r s) k s
unfolding params_at reach_trace title_trace
params-trace k s params (Ok marks) = counted-trace (listed body k) s marks ∙ marks-trace k s params marks (counted_reach s marks)
params-trace k s params (Err x) = refl

name-trace : (k : Reading) (s : List ℕ) (r : Span) → named_at r (counted (counted (listed body k))) s ≡ title_trace (name_then r s) k s
unfolding named_at name_then title_trace
name-trace k s (Span.Bytes n) = counted-trace (counted (listed body k)) s (1 + n) ∙ params-trace k s (1 + n) (counted_reach s (1 + n))
name-trace k s (Span.Refused x) = refl

-- a flow or a stitch from its name on
pub titled-trace : (k : Reading) (s : List ℕ) → titled k s ≡ title_trace (heading_of s) k s
unfolding titled heading_of
titled-trace k s = name-trace k s (name_of s)

-- 2. Names

-- a trace without records
unfoldable pub quiet : Ending → Trace
quiet well = done
quiet (refused r) = refuse r

shift-quiet : (a : ℕ) (e : Ending) → shift a (quiet e) ≡ quiet (ends (shift a (quiet e)))
unfolding shift quiet ends
shift-quiet a well = refl
shift-quiet a (refused r) = refl

names-n-quiet : (n : ℕ) (s : List ℕ) → repeat_n n named s ≡ quiet (ends (repeat_n n named s))
unfolding repeat_n named_at quiet ends
names-n-quiet zero s = refl
names-n-quiet (suc n) [] = refl
names-n-quiet (suc n) (x ∷ s) = by_name (name_of (x ∷ s)) (λ j. names-n-quiet n (drop (1 + j) (x ∷ s)))
  where
    by_name : (r : Span) → ((j : ℕ) → repeat_n n named (drop (1 + j) (x ∷ s)) ≡ quiet (ends (repeat_n n named (drop (1 + j) (x ∷ s)))))
        → named_at r (repeat_n n named) (x ∷ s) ≡ quiet (ends (named_at r (repeat_n n named) (x ∷ s)))
    by_name (Span.Bytes j) more = rw (more j) (shift-quiet (1 + j) (ends (repeat_n n named (drop (1 + j) (x ∷ s)))))
    by_name (Span.Refused r) more = refl

pub names-quiet : (s : List ℕ) → names s ≡ quiet (ends (names s))
unfolding names repeat
names-quiet s = names-n-quiet (length s) s
