-- Reading a section is refused by 4, 5 or 6 and by no other: `met-4-to-6`. Assumes nothing.
use mathlib.Core.Path.{◌≡◌, refl, sym, ◌∙◌}
use mathlib.Core.List.{List}
use Prim.Native.Nat.{ℕ, ◌≤◌}
use native.Mathlib.Omega.{arith}
use Rattle.fields.specs.declared.Refusal.{Refusal}
use Rattle.fields.specs.Refusals.{refusal_number}
use Rattle.records.specs.Trace.{Trace, Ending, well, refused, ends}
use Rattle.records.specs.Grammar.{body_of, record_of}
use Rattle.story.proofs.Endings.{then_ends, ends-then, ends-shift}
use Rattle.story.proofs.Induction.{OfReading, short, unknown, deep, Kept, names-hold, nodes-hold, flows-hold}
use Rattle.demands.specs.Refusals.{Meets, FirstMet, in_globals, in_externals, in_root, in_flows}

-- a reading ends, if not well, at a refusal of reading
abbrev EndsInside : ℕ → ℕ → Trace → Type 0
EndsInside lo hi t = (r : Refusal) → ends t ≡ refused r → OfReading r

-- of two readings one after the other
both-inside : (t u : Trace) (r : Refusal) → (ends t ≡ refused r → OfReading r) → (ends u ≡ refused r → OfReading r) → (a : Ending) → ends t ≡ a → then_ends a (ends u) ≡ refused r → OfReading r
unfolding then_ends
both-inside t u r p q well f e = q e
both-inside t u r p q (refused x) f e = p (f ∙ e)

-- every way of the grammar to build a reading keeps it
inside : Kept EndsInside
unfolding ends
inside = record {
  wider = λ t p q h. h;
  none = λ lo hi r e. let z : ◌≡◌ {A = ℕ} 0 1 = cc in absurd (omega arith);
  refused = λ lo hi x i r e. let same : x ≡ r = cc in rw (← same) i;
  both = λ t u p q g h r e. both-inside t u r (g r) (h r) (ends t) refl (sym (ends-then t u) ∙ e);
  further = λ a lo hi t g r e. g r (sym (ends-shift a t) ∙ e);
  one = λ left kind role s b known h r e. h r (sym (ends-shift 5 (body_of b (record_of left) s)) ∙ e);
}

-- the numbers of these refusals
number-inside : (r : Refusal) {n : ℕ} → OfReading r → refusal_number r ≡ n → (4 ≤ n) × (n ≤ 6)
unfolding refusal_number
number-inside r short e = (omega arith, omega arith)
number-inside r unknown e = (omega arith, omega arith)
number-inside r deep e = (omega arith, omega arith)

meets-inside : (t : Trace) {n : ℕ} → ((r : Refusal) → ends t ≡ refused r → OfReading r) → Meets t n → (4 ≤ n) × (n ≤ 6)
meets-inside t p (r, e, k) = number-inside r (p r e) k

-- what is first met reading the sections is 4, 5 or 6
pub met-4-to-6 : (file : List ℕ) {n : ℕ} → FirstMet file n → (4 ≤ n) × (n ≤ 6)
met-4-to-6 file (in_globals m) = meets-inside _ (names-hold EndsInside inside _) m
met-4-to-6 file (in_externals a m) = meets-inside _ (names-hold EndsInside inside _) m
met-4-to-6 file (in_root a b m) = meets-inside _ (nodes-hold EndsInside inside _) m
met-4-to-6 file (in_flows a b c m) = meets-inside _ (flows-hold EndsInside inside _) m
