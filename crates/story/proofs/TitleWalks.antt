-- Titles as the reading goes through them. Assumes nothing.
use Rattle.std.specs.Prelude.{Result, Ok, Err}
use mathlib.Core.Path.{◌≡◌, refl, sym}
use mathlib.Core.List.{List}
use Prim.Native.Nat.{ℕ, ◌+◌, ◌-◌, ◌≤◌}
use native.Mathlib.Omega.{arith}
use lib.ListN.{length, take, drop}
use Rattle.fields.specs.declared.Refusal.{Refusal}
use Rattle.records.specs.Trace.{and_then, shift}
use Rattle.records.specs.Grammar.{Reading, nothing, nodes}
use Rattle.story.specs.declared.Heading.{Heading}
use Rattle.story.specs.Headings.{heading_of}
use Rattle.story.specs.Flows.{titled, part, title_end}
use Rattle.records.specs.Work.{St, st, Visitor, run, Told, piece_of, ToldTo}
use Rattle.records.proofs.Traces.{then-done, refuse-then, shift-done, run-shift}
use Rattle.records.proofs.Walking.{told-refused}
use Rattle.records.proofs.PiecesRead.{piece-answers, piece-refused, piece-on, piece-else, piece-within}
use Rattle.story.proofs.Reaches.{heading-laid}
use Rattle.story.proofs.Titled.{title_trace, titled-trace}

module _ (v : Visitor St) (b : ℕ) (s₀ : St) where
  pub title-refused : (s : List ℕ) (x : Refusal) {r : Result Heading Refusal} → r ≡ heading_of s → r ≡ Err x
      → ToldTo (run v b s₀ (titled nothing s)) (title_end (heading_of s)) (Err x) s₀.out
  unfolding title_trace
  title-refused s x e q =
      piece-refused (run v b s₀ (titled nothing s)) (title_end (heading_of s)) (told-refused v b s₀ (titled nothing s) x (rw (titled-trace nothing s, ← e, q))) refl

  -- so the callee answers, which reads the title with its nodes
  module _ (s : List ℕ) (h : Heading) {r : Result Heading Refusal} (told : r ≡ heading_of s) (at : r ≡ Ok h) {w : Result ℕ Refusal} {o : List ℕ}
      (g : Told (run v (b + h.nodes) s₀ (nodes (take (h.end - h.nodes) (drop h.nodes s)))) w o) where
    titled-alone : Told (run v b s₀ (titled nothing s)) w o
    unfolding title_trace part
    titled-alone =
        let inside = nodes (take (h.end - h.nodes) (drop h.nodes s)) in
        rw (titled-trace nothing s, ← told, at, shift-done h.end, then-done (shift h.nodes inside), run-shift v b h.nodes s₀ inside) g

    pub title-answers : {a : Result (ℕ × ℕ) Refusal} → a ≡ piece_of h.end w → ToldTo (run v b s₀ (titled nothing s)) (title_end (heading_of s)) a o
    unfolding title_end
    title-answers z = piece-answers (run v b s₀ (titled nothing s)) (title_end (heading_of s)) titled-alone h.end z (rw (← told, at))

  -- so its caller learns of it
  module _ (s : List ℕ) where
    trace-then : (k : Reading) (x : Result Heading Refusal) → title_trace x k s ≡ and_then (title_trace x nothing s) (shift (title_end x) (k (drop (title_end x) s)))
    unfolding title_trace title_end
    trace-then k (Ok h) = rw (shift-done h.end, then-done (shift h.nodes (nodes (part h.nodes h.end s))))
    trace-then k (Err r) = sym (refuse-then r (shift 0 (k (drop 0 s))))

    titled-then : (k : Reading) → titled k s ≡ and_then (titled nothing s) (shift (title_end (heading_of s)) (k (drop (title_end (heading_of s)) s)))
    titled-then k = rw (titled-trace k s, titled-trace nothing s) (trace-then k (heading_of s))

    title-end-fits : (x : Result Heading Refusal) → x ≡ heading_of s → title_end x ≤ length s
    unfolding title_end
    title-end-fits (Ok h) p = omega (arith, heading-laid s h p refl)
    title-end-fits (Err r) p = omega arith

    module _ {a : Result (ℕ × ℕ) Refusal} {o : List ℕ} (g : ToldTo (run v b s₀ (titled nothing s)) (title_end (heading_of s)) a o) where
      pub title-fits : (e m : ℕ) → a ≡ Ok (e, m) → (0 ≤ e) × (e ≤ length s)
      title-fits = piece-within v b s₀ (titled nothing s) (title_end (heading_of s)) g 0 (length s) (title-end-fits (heading_of s) refl) (λ m z. omega arith)

      pub titled-on : (k : Reading) (e m : ℕ) → a ≡ Ok (e, m) → run v b s₀ (titled k s) ≡ run v (b + e) (st o m) (k (take (length s - e) (drop e s)))
      titled-on k = piece-on v b s₀ (titled nothing s) (title_end (heading_of s)) g k s (titled k s) (titled-then k)

      pub titled-else : (k : Reading) (x : Refusal) → a ≡ Err x → Told (run v b s₀ (titled k s)) (Err x) o
      titled-else k =
          let to = title_end (heading_of s) in
          piece-else v b s₀ (titled nothing s) to g (shift to (k (drop to s))) (titled k s) (titled-then k)
