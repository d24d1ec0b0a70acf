-- Every record of nodes that end well is read well inside; and records stand five bytes apart at least. Assumes nothing.
use Rattle.std.specs.Prelude.{Some}
use mathlib.Core.Path.{◌≡◌, sym, ◌∙◌, ap}
use mathlib.Core.List.Memᴰ
use mathlib.Core.List.{List, Memᴰ}
use mathlib.Core.Logic.{◌⊎◌, inl, inr}
use Prim.Native.Nat.{ℕ, ◌+◌, ◌≤◌}
use native.Mathlib.Omega.{arith}
use lib.ListN.{length}
use Rattle.names.specs.Words.{Sorted}
use Rattle.fields.specs.declared.Role.{Role}
use Rattle.fields.specs.declared.Body.{Body}
use Rattle.fields.specs.Kinds.{kind_of}
use Rattle.records.specs.Trace.{Trace, done, refuse, emit, and_then, shift, Record, met, well, ends}
use Rattle.records.specs.Grammar.{body_of, record_of, nodes}
use Rattle.story.proofs.Endings.{ends-then, ends-shift, first-well, second-well}
use Rattle.story.proofs.Induction.{Each, each-then, each-shift, each-met, Kept, nodes-hold}

-- 1. Read well inside

-- the payload is read well as its kind says, with so many levels left
pub record Bears (role : Role) (kind : ℕ) (payload : List ℕ) : Type 0 where
  pub left : ℕ
  pub body : Body
  pub known : kind_of role kind ≡ Some body
  pub inside : ends (body_of body (record_of left) payload) ≡ well

-- each record of the trace is
abbrev pub Good : Trace → Type 0
Good t = Each Bears t

-- good where reading ends well
abbrev pub Sound : ℕ → ℕ → Trace → Type 0
Sound lo hi t = ends t ≡ well → Good t

pub sound : Kept Sound
unfolding Each ends
sound = record {
  wider = λ t p q h. h;
  none = λ lo hi e. tt;
  refused = λ lo hi r i e. tt;
  both = λ t u p q g h e. each-then Bears t u (g (first-well _ _ (sym (ends-then t u) ∙ e))) (h (second-well (ends t) _ (sym (ends-then t u) ∙ e)));
  further = λ a lo hi t g e. each-shift Bears a t (g (sym (ends-shift a t) ∙ e));
  one = λ left kind role s b known h e.
      let inside = sym (ends-shift 5 (body_of b (record_of left) s)) ∙ e in
      (record { left = left; body = b; known = known; inside = inside }, each-shift Bears 5 (body_of b (record_of left) s) (h inside));
}

pub record-bears : (b : ℕ) (s : List ℕ) → ends (nodes s) ≡ well → (r : Record) → Memᴰ r (met b (nodes s)) → Bears r.role r.kind r.payload
record-bears b s good r m = each-met Bears b (nodes s) (nodes-hold Sound sound s good) r m

-- 2. Five bytes apart

-- each record of the trace stands between the two places, a head or more after the one before it
pub Spaced : ℕ → ℕ → Trace → Type 0
Spaced lo hi done = Unit {0}
Spaced lo hi (refuse r) = Unit {0}
Spaced lo hi (emit role kind p bs t) = ((lo ≤ p) × (p + 5 ≤ hi)) × Spaced (p + 5) hi t

spaced-wider : {lo hi lo' hi' : ℕ} (t : Trace) → lo' ≤ lo → hi ≤ hi' → Spaced lo hi t → Spaced lo' hi' t
unfolding Spaced
spaced-wider done p q h = tt
spaced-wider (refuse r) p q h = tt
spaced-wider {lo = lo} {hi = hi} {lo' = lo'} {hi' = hi'} (emit role kind a bs t) p q h = (omega (arith, h.0), spaced-wider {lo = a + 5} t (omega arith) q h.1)

spaced-then : {lo mid hi : ℕ} (t u : Trace) → lo ≤ mid → mid ≤ hi → Spaced lo mid t → Spaced mid hi u → Spaced lo hi (and_then t u)
unfolding Spaced and_then
spaced-then done u p q g h = spaced-wider u p (omega arith) h
spaced-then (refuse r) u p q g h = tt
spaced-then {lo = lo} {mid = mid} {hi = hi} (emit role kind a bs t) u p q g h = (omega (arith, g.0), spaced-then {lo = a + 5} t u (omega (arith, g.0)) q g.1 h)

spaced-shift : (a lo hi : ℕ) (t : Trace) → Spaced lo hi t → Spaced (a + lo) (a + hi) (shift a t)
unfolding Spaced shift
spaced-shift a lo hi done h = tt
spaced-shift a lo hi (refuse r) h = tt
spaced-shift a lo hi (emit role kind p bs t) h =
    (omega (arith, h.0), spaced-wider (shift a t) (omega arith) (omega arith) (spaced-shift a (p + 5) hi t h.1))

pub spaced : Kept Spaced
unfolding Spaced
spaced = record {
  wider = spaced-wider;
  none = λ lo hi. tt;
  refused = λ lo hi r i. tt;
  both = spaced-then;
  further = spaced-shift;
  one = λ left kind role s b known h.
      (omega arith, spaced-wider (shift 5 (body_of b (record_of left) s)) (omega arith) (omega arith) (spaced-shift 5 0 (length s) (body_of b (record_of left) s) h));
}

-- at least a head further
abbrev pub Apart : Record → Record → Type 0
Apart x y = x.place + 5 ≤ y.place

met-from : (lo hi b : ℕ) (t : Trace) → Spaced lo hi t → (r : Record) → Memᴰ r (met b t) → b + lo ≤ r.place
unfolding Spaced met
met-from lo hi b done h r m = absurd (Memᴰ.not-nil m)
met-from lo hi b (refuse x) h r m = absurd (Memᴰ.not-nil m)
met-from lo hi b (emit role kind p bs t) h r m = by_cases (met-from (p + 5) hi b t h.1 r) (Memᴰ.cases_cons m)
  where
    by_cases : (Memᴰ r (met b t) → b + (p + 5) ≤ r.place)
        → (r ≡ record { role = role; kind = kind; place = b + p; payload = bs }) ⊎ Memᴰ r (met b t) → b + lo ≤ r.place
    by_cases later (inl e) = omega (arith, h.0, ap (λ (x : Record). x.place) e)
    by_cases later (inr i) = omega (arith, h.0, later i)

pub met-apart : (lo hi b : ℕ) (t : Trace) → Spaced lo hi t → Sorted Apart (met b t)
unfolding Spaced met
met-apart lo hi b done h = tt
met-apart lo hi b (refuse x) h = tt
met-apart lo hi b (emit role kind p bs t) h = (λ r m. omega (arith, met-from (p + 5) hi b t h.1 r m), met-apart (p + 5) hi b t h.1)

pub records-apart : (b : ℕ) (s : List ℕ) → Sorted Apart (met b (nodes s))
records-apart b s = met-apart 0 (length s) b (nodes s) (nodes-hold Spaced spaced s)
