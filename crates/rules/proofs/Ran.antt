-- `runs`, numbered from 0 on, has each step of the root, of each flow and of each stitch with the number that `Ran` states, and no other:
-- `the-steps`. The steps of an earlier flow or stitch have smaller numbers: `flows-in-order`, `stitches-in-order`. Assumes nothing.
use mathlib.Core.Path.{◌≡◌, refl, sym, ◌∙◌, ap, subst}
use mathlib.Core.Bool.{Bool, true, false}
use mathlib.Core.List.Memᴰ
use mathlib.Core.List.{List, [], ◌∷◌, ◌++◌, map, append_assoc}
use mathlib.Core.Logic.{⊎_elim, ◌↔◌}
use Prim.Native.Nat.{ℕ, suc, ◌+◌, ◌-◌, ◌*◌, ◌≤◌, ◌<◌}
use native.Mathlib.Omega.{arith}
use lib.Dec.{T}
use lib.ListN.{length, length-append}
use Rattle.names.specs.Words.{each, ◌∈◌}
use Rattle.records.specs.Items.{Item}
use Rattle.story.specs.Story.{Stitch, Flow, Story}
use Rattle.rules.specs.Rules.{Scope, root, knot, stitch}
use Rattle.rules.specs.Steps.{Step, s5, s6, s12, s19, s20, step_number, root_steps, flow_steps, stitch_steps, Run, run, over, stitch_items, param_items, purity_items, stitch_runs, flow_runs, runs, Numbered, numbered}
use Rattle.rules.specs.Meaning.{flow_size, flows_size, flow_begin, stitch_begin, RanInStitch, ran_name, ran_stitch_body, RanInFlow, ran_purity, ran_no_purity, ran_params, ran_flow_body, ran_stitch, ran_flow_gathers, Ran, ran_root, ran_flow, ran_root_gathers}
use Rattle.names.proofs.Bools.{is_true, is_false}
use Rattle.rules.proofs.Numbered.{number-from, number-below, in-numbered-first, in-numbered-second, of-numbered-append, in-numbered-each, of-numbered-each}

-- 1. Steps one after the other, by their numbers

-- k and the numbers that follow it, one for each step
abbrev counted_from : ℕ → List Step → List ℕ
counted_from k [] = []
counted_from k (st ∷ sts) = k ∷ counted_from (suc k) sts

-- the steps come by rising number, from k on, and none is left out
abbrev Consecutive : ℕ → List Step → Type 0
Consecutive k sts = map step_number sts ≡ counted_from k sts

-- one of the steps, at its number, where the step of number k has the number n
record OneOf (n k : ℕ) (sc : Scope) (l : List Item) (sts : List Step) (y : Numbered Run) : Type 0 where
  st : Step
  among : st ∈ sts
  no_less : k ≤ step_number st
  the_number : y.no + k ≡ n + step_number st
  the_step : run sc l st ≡ y.it

-- a step as run is known by its number and its run
same-run : {n m : ℕ} {u v : Run} → n ≡ m → u ≡ v → ◌≡◌ {A = Numbered Run} (record { no = n; it = u }) (record { no = m; it = v })
same-run p q = λ i. record { no = p i; it = q i }

-- what the list of such steps has
module _ (sc : Scope) (l : List Item) where
  of-over : (n k : ℕ) (sts : List Step) → Consecutive k sts → (y : Numbered Run) → y ∈ numbered n (over sc l sts) → OneOf n k sc l sts y
  unfolding over
  of-over n k [] c y m = absurd (Memᴰ.not-nil m)
  of-over n k (st ∷ sts) c y m =
      let first : step_number st ≡ k = cc in
      let rest : Consecutive (suc k) sts = cc in
      ⊎_elim
      (λ e. record {
        st = st;
        among = Memᴰ.head refl;
        no_less = omega arith;
        the_number = omega (arith, ap (λ (z : Numbered Run). z.no) e);
        the_step = sym (ap (λ (z : Numbered Run). z.it) e);
      })
      (λ i. let r = of-over (suc n) (suc k) sts rest y i in record {
        st = r.st;
        among = Memᴰ.tail r.among;
        no_less = omega (arith, r.no_less);
        the_number = omega (arith, r.the_number);
        the_step = r.the_step;
      })
      (Memᴰ.cases_cons m)

  in-over : (n k : ℕ) (sts : List Step) → Consecutive k sts → (st : Step) → st ∈ sts
      → (k ≤ step_number st) × ((i : ℕ) → i + k ≡ n + step_number st → record { no = i; it = run sc l st } ∈ numbered n (over sc l sts))
  unfolding over
  in-over n k [] c st m = absurd (Memᴰ.not-nil m)
  in-over n k (x ∷ xs) c st m =
      let first : step_number x ≡ k = cc in
      let rest : Consecutive (suc k) xs = cc in
      ⊎_elim
      (λ e. let same : step_number st ≡ step_number x = ap step_number e in (omega arith, λ i q. Memᴰ.head (same-run (omega arith) (ap (run sc l) e))))
      (λ j. let r = in-over (suc n) (suc k) xs rest st j in (omega (arith, r.0), λ i q. Memᴰ.tail (r.1 i (omega arith))))
      (Memᴰ.cases_cons m)

in_one : (n : ℕ) (sc : Scope) (l : List Item) (st : Step) → record { no = n; it = run sc l st } ∈ numbered n (over sc l (st ∷ []))
unfolding over
in_one n sc l st = Memᴰ.head refl

over-size : (sc : Scope) (l : List Item) (sts : List Step) → length (over sc l sts) ≡ length sts
unfolding over
over-size sc l [] = refl
over-size sc l (st ∷ sts) = ap suc (over-size sc l sts)

size-after : (n : ℕ) (sc : Scope) (l : List Item) (sts : List Step) → n + length (over sc l sts) ≡ n + length sts
size-after n sc l sts = rw (over-size sc l sts)

-- 2. Each step as run is one that is stated

-- each of the steps as run, numbered from n on, is such that P
record EachRan (P : ℕ → Run → Type 0) (n : ℕ) (us : List Run) : Type 0 where
  holds : (y : Numbered Run) → y ∈ numbered n us → P y.no y.it

module _ (P : ℕ → Run → Type 0) where
  ran_append : {n k : ℕ} {a b : List Run} → n + length a ≡ k → EachRan P n a → EachRan P k b → EachRan P n (a ++ b)
  ran_append {n} {k} {a} {b} e p q = record { holds = λ y m. ⊎_elim (p.holds y) (q.holds y) (of-numbered-append n a b e m) }

  ran-each : {A : Type 0} (f : A → List Run) (n : ℕ) (xs : List A)
      → ((before : List A) (x : A) (after : List A) → xs ≡ before ++ (x ∷ after) → EachRan P (n + length (each f before)) (f x)) → EachRan P n (each f xs)
  ran-each f n xs h = record { holds = λ y m. let r = of-numbered-each f n xs m in (h r.before r.x r.after r.split).holds y r.within }

  ran-one : (n : ℕ) (sc : Scope) (l : List Item) (st : Step) → P n (run sc l st) → EachRan P n (over sc l (st ∷ []))
  unfolding over
  ran-one n sc l st p = record { holds = λ y m. subst (λ (z : Numbered Run). P z.no z.it) (sym (Memᴰ.eq_of_singleton m)) p }

  ran_over : (n k : ℕ) (sc : Scope) (l : List Item) (sts : List Step) → Consecutive k sts
      → ((st : Step) → st ∈ sts → k ≤ step_number st → (i : ℕ) → i + k ≡ n + step_number st → P i (run sc l st)) → EachRan P n (over sc l sts)
  ran_over n k sc l sts c h = record {
    holds = λ y m. let r = of-over sc l n k sts c y m in subst (P y.no) r.the_step (h r.st r.among r.no_less y.no r.the_number);
  }

only-in-stitch : (f : Flow) (t : Stitch) (begin : ℕ) → EachRan (RanInStitch f t begin) begin (stitch_runs f t)
unfolding stitch_runs
only-in-stitch f t begin =
    ran_append _ (size-after begin (stitch f t) (stitch_items t) (s12 ∷ []))
    (ran-one _ begin (stitch f t) (stitch_items t) s12 ran_name)
    (ran_over _ (begin + 1) 13 (stitch f t) t.body stitch_steps refl
    (λ st m h i e. subst (λ (j : ℕ). RanInStitch f t begin j (run (stitch f t) t.body st)) (omega arith) (ran_stitch_body m)))

stitch-size : (f : Flow) (t : Stitch) → length (stitch_runs f t) ≡ 7
unfolding stitch_runs
stitch-size f t = simp (length-append, over-size)

stitches-size : (f : Flow) (ts : List Stitch) → length (each (stitch_runs f) ts) ≡ 7 * length ts
stitches-size f [] = refl
stitches-size f (t ∷ ts) = omega (arith, length-append (stitch_runs f t) (each (stitch_runs f) ts), stitch-size f t, stitches-size f ts)

-- a flow's steps 5 to 11
abbrev step5 : Flow → List Run
step5 f = over (knot f) (purity_items f.function f) (s5 ∷ [])

abbrev step6 : Flow → List Run
step6 f = over (knot f) (param_items f.params) (s6 ∷ [])

abbrev steps7 : Flow → List Run
steps7 f = over (knot f) f.body flow_steps

-- step 5, by the flow's flag
purity : (f : Flow) (begin : ℕ) → RanInFlow f begin begin (run (knot f) (purity_items f.function f) s5)
purity f begin = go f.function ran_purity ran_no_purity
  where
    go : (b : Bool) → (T b → RanInFlow f begin begin (run (knot f) (purity_items true f) s5)) → ((T b → ⊥) → RanInFlow f begin begin (run (knot f) (purity_items false f) s5))
        → RanInFlow f begin begin (run (knot f) (purity_items b f) s5)
    go true p q = p tt
    go false p q = q (λ t. t)

module _ (f : Flow) (begin : ℕ) where
  two_size : begin + length (step5 f ++ step6 f) ≡ begin + 2
  two_size = simp (length-append, over-size)

  own-size : begin + length (step5 f ++ step6 f ++ steps7 f) ≡ begin + 7
  own-size = simp (length-append, over-size)

  all-size : begin + length (step5 f ++ step6 f ++ steps7 f ++ each (stitch_runs f) f.stitches) ≡ stitch_begin begin f.stitches
  all-size = simp (length-append, over-size, stitches-size) (omega arith)

  only-in-flow : EachRan (RanInFlow f begin) begin (flow_runs f)
  unfolding flow_runs
  only-in-flow =
      ran_append _ all-size
      (ran_append _ own-size
      (ran_append _ two_size
      (ran_append _ (size-after begin (knot f) (purity_items f.function f) (s5 ∷ []))
      (ran-one _ begin (knot f) (purity_items f.function f) s5 (purity f begin))
      (ran-one _ (begin + 1) (knot f) (param_items f.params) s6 ran_params))
      (ran_over _ (begin + 2) 7 (knot f) f.body flow_steps refl
      (λ st m h i e. subst (λ (j : ℕ). RanInFlow f begin j (run (knot f) f.body st)) (omega arith) (ran_flow_body m))))
      (ran-each _ (stitch_runs f) (begin + 7) f.stitches (λ before t after e.
      record { holds = λ y m. ran_stitch before t after e ((only-in-stitch f t (stitch_begin begin before)).holds y (rw (stitches-size f before) at m)) })))
      (ran-one _ (stitch_begin begin f.stitches) (knot f) f.body s19 ran_flow_gathers)

flow-size : (f : Flow) → length (flow_runs f) ≡ flow_size f
unfolding flow_runs
flow-size f = simp (length-append, over-size, stitches-size) (omega arith)

flows-size : (fs : List Flow) → length (each flow_runs fs) ≡ flows_size fs
flows-size [] = refl
flows-size (f ∷ fs) = omega (arith, length-append (flow_runs f) (each flow_runs fs), flow-size f, flows-size fs)

module _ (s : Story) where
  flows-end : 0 + length (over root s.root root_steps ++ each flow_runs s.flows) ≡ flow_begin s.flows
  flows-end = simp (length-append, over-size, flows-size) (omega arith)

  only-steps : EachRan (Ran s) 0 (runs s)
  unfolding runs
  only-steps =
      ran_append _ flows-end
      (ran_append _ (size-after 0 root s.root root_steps)
      (ran_over _ 0 1 root s.root root_steps refl
      (λ st m h i e. subst (λ (j : ℕ). Ran s j (run root s.root st)) (omega arith) (ran_root m)))
      (ran-each _ flow_runs 4 s.flows (λ before f after e.
      record { holds = λ y m. ran_flow before f after e ((only-in-flow f (flow_begin before)).holds y (rw (flows-size before) at m)) })))
      (ran-one _ (flow_begin s.flows) root s.root s20 ran_root_gathers)

-- 3. Each step that is stated is run

-- the step has that number in the list, numbered from n on
abbrev RanAs : ℕ → List Run → ℕ → Run → Type 0
RanAs n us i u = record { no = i; it = u } ∈ numbered n us

all-in-stitch : (f : Flow) (t : Stitch) (begin : ℕ) {n : ℕ} {u : Run} → RanInStitch f t begin n u → RanAs begin (stitch_runs f t) n u
unfolding stitch_runs
all-in-stitch f t begin ran_name =
    in-numbered-first begin (over (stitch f t) (stitch_items t) (s12 ∷ [])) (over (stitch f t) t.body stitch_steps) (in_one begin (stitch f t) (stitch_items t) s12)
all-in-stitch f t begin (ran_stitch_body {st = st} m) =
    let r = in-over (stitch f t) t.body (begin + 1) 13 stitch_steps refl st m in
    in-numbered-second begin (over (stitch f t) (stitch_items t) (s12 ∷ [])) (over (stitch f t) t.body stitch_steps)
    (size-after begin (stitch f t) (stitch_items t) (s12 ∷ []))
    (r.1 (begin + (step_number st - 12)) (omega (arith, r.0)))

module _ (f : Flow) (begin : ℕ) where
  -- the parts of a flow's steps
  abbrev stitches : List Run
  stitches = each (stitch_runs f) f.stitches

  abbrev step19 : List Run
  step19 = over (knot f) f.body (s19 ∷ [])

  in-own : {i : ℕ} {u : Run} → RanAs begin (step5 f ++ step6 f ++ steps7 f) i u → RanAs begin (flow_runs f) i u
  unfolding flow_runs
  in-own m = in-numbered-first begin (step5 f ++ step6 f ++ steps7 f ++ stitches) step19 (in-numbered-first begin (step5 f ++ step6 f ++ steps7 f) stitches m)

  in-step5 : (b : Bool) → f.function ≡ b → RanAs begin (flow_runs f) begin (run (knot f) (purity_items b f) s5)
  in-step5 b e =
      subst (λ (c : Bool). RanAs begin (flow_runs f) begin (run (knot f) (purity_items c f) s5)) e
      (in-own (in-numbered-first begin (step5 f ++ step6 f) (steps7 f) (in-numbered-first begin (step5 f) (step6 f)
      (in_one begin (knot f) (purity_items f.function f) s5))))

  all-in-flow : {n : ℕ} {u : Run} → RanInFlow f begin n u → RanAs begin (flow_runs f) n u
  unfolding flow_runs
  all-in-flow (ran_purity t) = in-step5 true (is_true f.function t)
  all-in-flow (ran_no_purity t) = in-step5 false (is_false f.function t)
  all-in-flow ran_params =
      in-own (in-numbered-first begin (step5 f ++ step6 f) (steps7 f)
      (in-numbered-second begin (step5 f) (step6 f) (size-after begin (knot f) (purity_items f.function f) (s5 ∷ []))
      (in_one (begin + 1) (knot f) (param_items f.params) s6)))
  all-in-flow (ran_flow_body {st = st} m) =
      let r = in-over (knot f) f.body (begin + 2) 7 flow_steps refl st m in
      in-own (in-numbered-second begin (step5 f ++ step6 f) (steps7 f) (two_size f begin) (r.1 (begin + (step_number st - 5)) (omega (arith, r.0))))
  all-in-flow (ran_stitch before t after {n = n} {u = u} e r) =
      in-numbered-first begin (step5 f ++ step6 f ++ steps7 f ++ stitches) step19
      (in-numbered-second begin (step5 f ++ step6 f ++ steps7 f) stitches (own-size f begin)
      (subst (λ (ts : List Stitch). RanAs (begin + 7) (each (stitch_runs f) ts) n u) (sym e)
      (in-numbered-each (stitch_runs f) (begin + 7) before t after (rw (stitches-size f before) (all-in-stitch f t (stitch_begin begin before) r)))))
  all-in-flow ran_flow_gathers =
      in-numbered-second begin (step5 f ++ step6 f ++ steps7 f ++ stitches) step19 (all-size f begin)
      (in_one (stitch_begin begin f.stitches) (knot f) f.body s19)

module _ (s : Story) where
  abbrev root_runs : List Run
  root_runs = over root s.root root_steps

  abbrev step20 : List Run
  step20 = over root s.root (s20 ∷ [])

  all-steps : {n : ℕ} {u : Run} → Ran s n u → RanAs 0 (runs s) n u
  unfolding runs
  all-steps (ran_root {st = st} m) =
      let r = in-over root s.root 0 1 root_steps refl st m in
      in-numbered-first 0 (root_runs ++ each flow_runs s.flows) step20
      (in-numbered-first 0 root_runs (each flow_runs s.flows) (r.1 (step_number st - 1) (omega (arith, r.0))))
  all-steps (ran_flow before f after e r) =
      in-numbered-first 0 (root_runs ++ each flow_runs s.flows) step20
      (in-numbered-second 0 root_runs (each flow_runs s.flows) (size-after 0 root s.root root_steps)
      (rw e (in-numbered-each flow_runs 4 before f after (rw (flows-size before) (all-in-flow f (flow_begin before) r)))))
  all-steps ran_root_gathers =
      in-numbered-second 0 (root_runs ++ each flow_runs s.flows) step20 (flows-end s) (in_one (flow_begin s.flows) root s.root s20)

-- THE STEPS AS RUN: the list that computes has the steps that are stated, at their numbers, and no other
pub the-steps : (s : Story) (n : ℕ) (u : Run) → (record { no = n; it = u } ∈ numbered 0 (runs s)) ↔ Ran s n u
the-steps s n u = ((only-steps s).holds (record { no = n; it = u }), all-steps s)

-- the number of steps as run: 4 for the root, 8 and 7 for each stitch for each flow, 1
pub how-many : (s : Story) → length (runs s) ≡ 4 + flows_size s.flows + 1
unfolding runs
how-many s = simp (length-append, over-size, flows-size) (omega arith)

-- 4. In file order

flows-size-append : (a : List Flow) (f : Flow) (b : List Flow) → flows_size (a ++ (f ∷ b)) ≡ flows_size a + flow_size f + flows_size b
flows-size-append [] f b = omega arith
flows-size-append (g ∷ a) f b = omega (arith, flows-size-append a f b)

-- the numbers of a stitch's 7 steps, and those of a flow's
stitch-numbers : (f : Flow) (t : Stitch) (begin : ℕ) {n : ℕ} {u : Run} → RanInStitch f t begin n u → (begin ≤ n) × (n < begin + 7)
stitch-numbers f t begin r =
    let m = all-in-stitch f t begin r in
    (number-from begin (stitch_runs f t) _ m, omega (arith, number-below begin (stitch_runs f t) _ m, stitch-size f t))

flow-numbers : (f : Flow) (begin : ℕ) {n : ℕ} {u : Run} → RanInFlow f begin n u → (begin ≤ n) × (n < begin + flow_size f)
flow-numbers f begin r =
    let m = all-in-flow f begin r in
    (number-from begin (flow_runs f) _ m, omega (arith, number-below begin (flow_runs f) _ m, flow-size f))

-- FLOWS IN FILE ORDER: where f stands before g, each step of f has a smaller number than each step of g
pub flows-in-order : (s : Story) (a : List Flow) (f : Flow) (b : List Flow) (g : Flow) (c : List Flow) → s.flows ≡ a ++ (f ∷ b) ++ (g ∷ c)
    → {m n : ℕ} {u v : Run} → RanInFlow f (flow_begin a) m u → RanInFlow g (flow_begin (a ++ (f ∷ b))) n v
    → Ran s m u × Ran s n v × (m < n)
flows-in-order s a f b g c e {m} {n} p q = (
  ran_flow a f (b ++ (g ∷ c)) (e ∙ append_assoc a (f ∷ b) (g ∷ c)) p,
  ran_flow (a ++ (f ∷ b)) g c e q,
  omega (arith, flow-numbers f (flow_begin a) p, flow-numbers g (flow_begin (a ++ (f ∷ b))) q, flows-size-append a f b),
)

-- STITCHES IN FILE ORDER: where t stands before q in a flow, each step of t has a smaller number than each step of q
pub stitches-in-order : (s : Story) (before : List Flow) (f : Flow) (after : List Flow) → s.flows ≡ before ++ (f ∷ after)
    → (a : List Stitch) (t : Stitch) (b : List Stitch) (q : Stitch) (c : List Stitch) → f.stitches ≡ a ++ (t ∷ b) ++ (q ∷ c)
    → {m n : ℕ} {u v : Run} → RanInStitch f t (stitch_begin (flow_begin before) a) m u → RanInStitch f q (stitch_begin (flow_begin before) (a ++ (t ∷ b))) n v
    → Ran s m u × Ran s n v × (m < n)
stitches-in-order s before f after d a t b q c e {m} {n} h k =
    let begin = flow_begin before in (
      ran_flow before f after d (ran_stitch a t (b ++ (q ∷ c)) (e ∙ append_assoc a (t ∷ b) (q ∷ c)) h),
      ran_flow before f after d (ran_stitch (a ++ (t ∷ b)) q c e k),
      omega (arith, stitch-numbers f t (stitch_begin begin a) h, stitch-numbers f q (stitch_begin begin (a ++ (t ∷ b))) k, length-append a (t ∷ b)),
    )
