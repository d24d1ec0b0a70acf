-- What records weigh: five bytes of head, and one more where a record is not plain. Records that are read through weigh no more than
-- their bytes, so that a file of L bytes has at most (L - 20) / 6 records that are not plain. Assumes nothing.
use Rattle.std.specs.Prelude.{Result, Option, Ok, Err, Some, None}
use Rattle.fields.specs.declared.Refusal.{Refusal}
use Rattle.story.specs.declared.Heading.{Heading}
use mathlib.Core.Path.{◌≡◌, refl, sym, ap, ◌∙◌}
use mathlib.Core.Bool.{Bool, true, false}
use mathlib.Core.List.{List, [], ◌∷◌}
use Prim.Native.Nat.{ℕ, zero, suc, ◌+◌, ◌-◌, ◌*◌, ◌≤◌}
use native.Mathlib.Omega.{arith}
use lib.Dec.{ltb, eqb}
use lib.ListN.{length, take, drop, length-take, length-drop}
use borrow.Author.Tests.{ltb-true}
use Rattle.fields.specs.declared.Role.{Role}
use Rattle.fields.specs.declared.Role.TheVariants.{Node, Branch, Cond, Visited}
use Rattle.fields.specs.declared.Body.{Body}
use Rattle.fields.specs.declared.Body.TheVariants as body
use Rattle.fields.specs.declared.Refusal.TheVariants.{Unknown}
use Rattle.fields.specs.Bytes.{Head, Span, pick, head_of, list_of, name_of, flag_of}
use Rattle.fields.specs.Kinds.{kind_of, node_kinds}
use Rattle.fields.proofs.Laws.{head-fits, list-fits, name-fits, off-fits, on_fits}
use Rattle.records.specs.Trace.{Trace, done, refuse, emit, and_then, shift, met, Ending, well, refused, ends}
use Rattle.records.specs.Grammar.{Reading, Reader, front_at, front, ending, repeat_n, repeat, records, exact, piece_at, listed, named_at, named, flagged_at, flagged, moded, last, or_else, arms, options, tested, branch, body_of, whole, too_deep, record_of, nodes, piece}
use Rattle.story.specs.declared.Sections.{Sections}
use Rattle.records.specs.declared.sorts.Sort.{Sort as Kind}
use Rattle.records.specs.declared.sorts.Sort.TheVariants.{Plain as plain}
use Rattle.records.specs.Items.{code, sort_of, what_of, item_as, item_of}
use Rattle.story.specs.Headings.{heading_of}
use Rattle.story.specs.Flows.{names, titled, stitch, stitches, flow, flows, part}
use Rattle.story.specs.File.{sections_read, story_in, InOrder}
use Rattle.story.proofs.Reaches.{heading-laid}
use Rattle.story.proofs.Parts.{part_length}
use Rattle.records.proofs.Tables.{all-pairs}
use Rattle.records.proofs.Marks.{sorts-by, every-kind}
use Rattle.records.specs.Numbers.{number_of, kept_numbers}
use Rattle.records.specs.Work.{items_of}
use Rattle.story.specs.Story.{story_items}
use Rattle.story.proofs.Titled.{title_trace, titled-trace, quiet, names-quiet}
use Rattle.story.proofs.Endings.{both-well, shift-well}
use Rattle.story.proofs.StoryItems.{story-items}

-- 1. Weights

weight : Kind → ℕ
weight k = pick (eqb (code plain) (code k)) 5 6

cost : Trace → ℕ
cost done = 0
cost (refuse r) = 0
cost (emit role kind p bs t) = weight (sort_of role kind bs) + cost t

cost-shift : (a : ℕ) (t : Trace) → cost (shift a t) ≡ cost t
unfolding cost shift
cost-shift a done = refl
cost-shift a (refuse r) = refl
cost-shift a (emit role kind p bs t) = ap (λ (n : ℕ). weight (sort_of role kind bs) + n) (cost-shift a t)

cost-then : (t u : Trace) → cost (and_then t u) ≤ cost t + cost u
unfolding cost and_then
cost-then done u = omega arith
cost-then (refuse r) u = omega arith
cost-then (emit role kind p bs t) u = omega (arith, cost-then t u)

-- records weigh five each, and six where they are kept
kept-cost : (b : ℕ) (t : Trace) → (6 * length (kept_numbers (items_of b t)) ≤ cost t) × (5 * length (items_of b t) ≤ cost t)
unfolding cost weight met kept_numbers item_of item_as what_of
kept-cost b done = omega arith
kept-cost b (refuse r) = omega arith
kept-cost b (emit role kind p bs t) = by-test (eqb (code plain) (code (sort_of role kind bs))) (kept-cost b t)
  where
    number : ℕ
    number = number_of (item_of (record { role = role; kind = kind; place = b + p; payload = bs }))

    by-test : (x : Bool) → (6 * length (kept_numbers (items_of b t)) ≤ cost t) × (5 * length (items_of b t) ≤ cost t)
        → (6 * length (pick x (kept_numbers (items_of b t)) (number ∷ kept_numbers (items_of b t))) ≤ pick x 5 6 + cost t) × (5 * suc (length (items_of b t)) ≤ pick x 5 6 + cost t)
    by-test true h = omega (arith, h)
    by-test false h = omega (arith, h)

-- 2. A record that is not plain has a payload

-- the bytes of a payload that belong to no record inside it, at least
own : Body → ℕ
own (body.Exprs n r) = 0
own body.Single = 1
own (body.Call r) = 1
own body.Conditional = 0
own body.Switch = 0
own body.Sequence = 0
own body.Assign = 1
own body.Choice = 1

light : Option Body → Kind → Bool
light (Some b) k = ltb (weight k) (6 + own b)
light None k = true

none-light : (k : Kind) → light None k ≡ true
unfolding light
none-light k = refl

nodes-light : (x : Bool) → all-pairs light plain node_kinds (sorts-by x) ≡ true
unfolding all-pairs light weight own
nodes-light true = refl
nodes-light false = refl

kind-light : (role : Role) (kind : ℕ) (payload : List ℕ) → light (kind_of role kind) (sort_of role kind payload) ≡ true
unfolding all-pairs light weight own
kind-light = every-kind light none-light nodes-light refl refl refl refl

kind-weighs : (role : Role) (kind : ℕ) (payload : List ℕ) (b : Body) → kind_of role kind ≡ Some b → weight (sort_of role kind payload) ≤ 5 + own b
unfolding light
kind-weighs role kind payload b e =
    omega (arith, ltb-true (weight (sort_of role kind payload)) (6 + own b) (sym (ap (λ (x : Option Body). light x (sort_of role kind payload)) e) ∙ kind-light role kind payload))

-- 3. The grammar: what is read through weighs no more than its bytes, a bytes less

abbrev Weighs : ℕ → Reading → Type 0
Weighs a k = (s : List ℕ) → ends (k s) ≡ well → a + cost (k s) ≤ length s

abbrev WeighsRecord : Reader → Type 0
WeighsRecord f = (kind : ℕ) (p : List ℕ) → ends (f kind p) ≡ well → cost (f kind p) ≤ 5 + length p

-- a part, then the rest, within their bytes
two-parts : (a b : ℕ) (t u : Trace) (n : ℕ) → ends (and_then (shift a t) (shift b u)) ≡ well → (ends t ≡ well → ends u ≡ well → cost t + cost u ≤ n) → cost (and_then (shift a t) (shift b u)) ≤ n
two-parts a b t u n h g =
    let w = both-well (shift a t) (shift b u) h in
    omega (arith, cost-then (shift a t) (shift b u), cost-shift a t, cost-shift b u, g (shift-well a t w.0) (shift-well b u w.1))

front-weighs : (f : Reader) (k : Reading) → WeighsRecord f → Weighs 0 k → Weighs 0 (front f k)
unfolding front_at ends
front-weighs f k g h s = by-head (head_of s) refl
  where
    by-head : (x : Head) → head_of s ≡ x → ends (front_at x f k s) ≡ well → 0 + cost (front_at x f k s) ≤ length s
    by-head (Head.Piece kind n) e z =
        let fits : 5 + n ≤ length s = head-fits s kind n refl e in
        let t = f kind (take n (drop 5 s)) in
        let u = k (drop (5 + n) s) in
        let w = both-well t (shift (5 + n) u) z in
        omega (arith, cost-then t (shift (5 + n) u), cost-shift (5 + n) u, g kind (take n (drop 5 s)) w.0, h (drop (5 + n) s) (shift-well (5 + n) u w.1), length-take n (drop 5 s), length-drop (5 + n) s)
    by-head (Head.Refused x) e z = let y : ◌≡◌ {A = ℕ} 0 1 = cc in absurd (omega arith)

ending-weighs : Weighs 0 ending
unfolding ending cost
ending-weighs [] z = omega arith
ending-weighs (x ∷ s) z = omega arith

repeat-weighs : (g : Reading → Reading) → ((k : Reading) → Weighs 0 k → Weighs 0 (g k)) → Weighs 0 (repeat g)
unfolding repeat repeat_n cost
repeat-weighs g h s = pieces (length s) s
  where
    pieces : (n : ℕ) → Weighs 0 (repeat_n n g)
    pieces zero u z = omega arith
    pieces (suc n) [] z = omega arith
    pieces (suc n) (x ∷ u) z = h (repeat_n n g) (pieces n) (x ∷ u) z

records-weigh : (f : Reader) → WeighsRecord f → Weighs 0 (records f)
records-weigh f g = repeat-weighs (front f) (λ k h. front-weighs f k g h)

exact-weighs : (n : ℕ) (f : Reader) → WeighsRecord f → Weighs 0 (exact n f)
unfolding exact
exact-weighs zero f g s = ending-weighs s
exact-weighs (suc n) f g s = front-weighs f (exact n f) g (exact-weighs n f g) s

piece-weighs : (g k : Reading) → Weighs 0 g → Weighs 0 k → Weighs 0 (piece g k)
unfolding piece_at ends
piece-weighs g k f h s z = omega (arith, by_span (list_of s) refl z)
  where
    by_span : (x : Span) → list_of s ≡ x → ends (piece_at x g k s) ≡ well → cost (piece_at x g k s) ≤ length s
    by_span (Span.Bytes n) e z =
        let fits : 4 + n ≤ length s = list-fits s n refl e in
        two-parts 4 (4 + n) (g (take n (drop 4 s))) (k (drop (4 + n) s)) (length s) z
        (λ x y. omega (arith, f (take n (drop 4 s)) x, h (drop (4 + n) s) y, length-take n (drop 4 s), length-drop (4 + n) s))
    by_span (Span.Refused x) e z = let y : ◌≡◌ {A = ℕ} 0 1 = cc in absurd (omega arith)

listed-weighs : (f : Reader) (k : Reading) → WeighsRecord f → Weighs 0 k → Weighs 0 (listed f k)
listed-weighs f k g h = piece-weighs (records f) k (records-weigh f g) h

named-weighs : (k : Reading) → Weighs 0 k → Weighs 1 (named k)
unfolding named_at ends
named-weighs k h s = by_name (name_of s) refl
  where
    by_name : (x : Span) → name_of s ≡ x → ends (named_at x k s) ≡ well → 1 + cost (named_at x k s) ≤ length s
    by_name (Span.Bytes n) e z =
        omega (arith, name-fits s n refl e, cost-shift (1 + n) (k (drop (1 + n) s)), h (drop (1 + n) s) (shift-well (1 + n) (k (drop (1 + n) s)) z), length-drop (1 + n) s)
    by_name (Span.Refused r) e z = let y : ◌≡◌ {A = ℕ} 0 1 = cc in absurd (omega arith)

flagged-weighs : (j k : Reading) → Weighs 0 j → Weighs 0 k → Weighs 1 (flagged j k)
unfolding flagged_at ends
flagged-weighs j k g h s = by_flag (flag_of s) refl
  where
    by_flag : (x : Result Bool Refusal) → flag_of s ≡ x → ends (flagged_at x j k s) ≡ well → 1 + cost (flagged_at x j k s) ≤ length s
    by_flag (Ok false) e z = omega (arith, off-fits s refl e, cost-shift 1 (j (drop 1 s)), g (drop 1 s) (shift-well 1 (j (drop 1 s)) z), length-drop 1 s)
    by_flag (Ok true) e z = omega (arith, on_fits s refl e, cost-shift 1 (k (drop 1 s)), h (drop 1 s) (shift-well 1 (k (drop 1 s)) z), length-drop 1 s)
    by_flag (Err r) e z = let y : ◌≡◌ {A = ℕ} 0 1 = cc in absurd (omega arith)

moded-weighs : (k : Reading) → Weighs 0 k → Weighs 1 (moded k)
unfolding moded ends cost
moded-weighs k h [] z = let y : ◌≡◌ {A = ℕ} 0 1 = cc in absurd (omega arith)
moded-weighs k h (x ∷ s) z = by_mode (ltb x 4) z
  where
    by_mode : (a : Bool) → ends (pick a (shift 1 (k s)) (refuse Unknown)) ≡ well → 1 + cost (pick a (shift 1 (k s)) (refuse Unknown)) ≤ suc (length s)
    by_mode true z = omega (arith, cost-shift 1 (k s), h s (shift-well 1 (k s) z))
    by_mode false z = let y : ◌≡◌ {A = ℕ} 0 1 = cc in absurd (omega arith)

-- a byte less is no more
weaker : (k : Reading) → Weighs 1 k → Weighs 0 k
weaker k h s z = omega (arith, h s z)

module _ (f : Role → Reader) (g : (r : Role) → WeighsRecord (f r)) where
  last-weighs : (r : Role) → Weighs 0 (last r f)
  unfolding last
  last-weighs r s = listed-weighs (f r) ending (g r) ending-weighs s

  arms-weigh : Weighs 0 (arms f)
  unfolding arms or_else
  arms-weigh s = listed-weighs (f Branch) (or_else f) (g Branch) (weaker (or_else f) (flagged-weighs ending (last Branch f) ending-weighs (last-weighs Branch))) s

  options-weigh : Weighs 0 (options f)
  unfolding options
  options-weigh s = listed-weighs (f Cond) (last Node f) (g Cond) (last-weighs Node) s

  branch-weighs : (k : Reading) → Weighs 0 k → Weighs 0 (branch f k)
  unfolding branch tested
  branch-weighs k h =
      let list = listed-weighs (f Branch) k (g Branch) h in
      weaker (branch f k) (flagged-weighs (listed (f Branch) k) (front (f Visited) (listed (f Branch) k)) list (front-weighs (f Visited) (listed (f Branch) k) (g Visited) list))

  body-weighs : (b : Body) → Weighs (own b) (body_of b f)
  unfolding body_of own
  body-weighs (body.Exprs n r) s = exact-weighs n (f r) (g r) s
  body-weighs body.Single s = named-weighs ending ending-weighs s
  body-weighs (body.Call r) s = named-weighs (records (f r)) (records-weigh (f r) (g r)) s
  body-weighs body.Conditional s = front-weighs (f Cond) (arms f) (g Cond) arms-weigh s
  body-weighs body.Switch s = front-weighs (f Visited) (repeat (branch f)) (g Visited) (repeat-weighs (branch f) branch-weighs) s
  body-weighs body.Sequence s = repeat-weighs (listed (f Node)) (λ k h. listed-weighs (f Node) k (g Node) h) s
  body-weighs body.Assign s = moded-weighs (named (exact 1 (f Visited))) (weaker (named (exact 1 (f Visited))) (named-weighs (exact 1 (f Visited)) (exact-weighs 1 (f Visited) (g Visited)))) s
  body-weighs body.Choice s = flagged-weighs (options f) (named (options f)) options-weigh (weaker (named (options f)) (named-weighs (options f) options-weigh)) s

  whole-weighs : (x : Option Body) (role : Role) (kind : ℕ) (p : List ℕ) → kind_of role kind ≡ x → ends (whole x f role kind p) ≡ well → cost (whole x f role kind p) ≤ 5 + length p
  unfolding whole ends cost
  whole-weighs (Some b) role kind p e z =
      omega (arith, kind-weighs role kind p b e, cost-shift 5 (body_of b f p), body-weighs b p (shift-well 5 (body_of b f p) z))
  whole-weighs None role kind p e z = let y : ◌≡◌ {A = ℕ} 0 1 = cc in absurd (omega arith)

record-weighs : (left : ℕ) (role : Role) → WeighsRecord (record_of left role)
unfolding record_of too_deep ends
record-weighs zero role kind p z = by_kind (kind_of role kind) z
  where
    by_kind : (x : Option Body) → ends (too_deep x) ≡ well → cost (too_deep x) ≤ 5 + length p
    by_kind (Some b) z = let y : ◌≡◌ {A = ℕ} 0 1 = cc in absurd (omega arith)
    by_kind None z = let y : ◌≡◌ {A = ℕ} 0 1 = cc in absurd (omega arith)
record-weighs (suc left) role kind p z = whole-weighs (record_of left) (record-weighs left) (kind_of role kind) role kind p refl z

nodes-weigh : Weighs 0 nodes
unfolding nodes
nodes-weigh s = records-weigh (record_of 64 Node) (record-weighs 64 Node) s

-- 4. Stitches, flows and sections

title-weighs : (k : Reading) → Weighs 0 k → (s : List ℕ) (r : Result Heading Refusal) → r ≡ heading_of s → ends (title_trace r k s) ≡ well → cost (title_trace r k s) ≤ length s
unfolding title_trace ends
title-weighs k g s (Ok h) e z =
    let laid = heading-laid s h e refl in
    let t = nodes (part h.nodes h.end s) in
    two-parts h.nodes h.end t (k (drop h.end s)) (length s) z
    (λ x y. omega (arith, laid, nodes-weigh (part h.nodes h.end s) x, g (drop h.end s) y, part_length h.nodes h.end s laid.within, length-drop h.end s))
title-weighs k g s (Err x) e z = let y : ◌≡◌ {A = ℕ} 0 1 = cc in absurd (omega arith)

titled-weighs : (k : Reading) → Weighs 0 k → Weighs 0 (titled k)
titled-weighs k g s z =
    let e = titled-trace k s in omega (arith, ap cost e, title-weighs k g s (heading_of s) refl (sym (ap ends e) ∙ z))

pieces-weigh : (g : Reading) → Weighs 0 g → Weighs 0 (repeat (piece g))
pieces-weigh g f = repeat-weighs (piece g) (λ k h. piece-weighs g k f h)

stitch-weighs : Weighs 0 stitch
unfolding stitch
stitch-weighs s = titled-weighs ending ending-weighs s

flow-weighs : Weighs 0 flow
unfolding flow
flow-weighs s z =
    let rest = titled-weighs stitches (pieces-weigh stitch stitch-weighs) in omega (arith, flagged-weighs (titled stitches) (titled stitches) rest rest s z)

flows-weigh : Weighs 0 flows
unfolding flows
flows-weigh s = pieces-weigh flow flow-weighs s

names-cost : (s : List ℕ) → cost (names s) ≡ 0
unfolding quiet cost
names-cost s = rw (names-quiet s) (by_end (ends (names s)))
  where
    by_end : (e : Ending) → cost (quiet e) ≡ 0
    by_end well = refl
    by_end (refused r) = refl

sections-weigh : (c : Sections) (s : List ℕ) → InOrder c s → ends (sections_read c s) ≡ well → cost (sections_read c s) + 20 ≤ length s
unfolding sections_read
sections-weigh c s o h =
    let g = names (part 0 c.externals s) in
    let x = names (part c.externals c.root s) in
    let n = nodes (part c.root c.flows s) in
    let f = flows (part c.flows c.end s) in
    let behind = and_then (shift c.root n) (shift c.flows f) in
    let w = both-well g (and_then x behind) h in
    let v = both-well x behind w.1 in
    let most : cost behind ≤ c.end - c.root = two-parts c.root c.flows n f (c.end - c.root) v.1
    (λ y z. omega (arith, o, nodes-weigh (part c.root c.flows s) y, flows-weigh (part c.flows c.end s) z, part_length c.root c.flows s (omega (arith, o)), part_length c.flows c.end s (omega (arith, o)))) in
    omega (arith, o, most, cost-then g (and_then x behind), cost-then x behind, names-cost (part 0 c.externals s), names-cost (part c.externals c.root s))

-- 5. THE BOUND: a readable file of L bytes has at most (L - 20) / 6 records that are not plain

module _ (c : Sections) (s : List ℕ) (o : InOrder c s) (h : ends (sections_read c s) ≡ well) where
  trace-few : 6 * length (kept_numbers (items_of 0 (sections_read c s))) + 20 ≤ length s
  trace-few = omega (arith, kept-cost 0 (sections_read c s), sections-weigh c s o h)

  pub kept-few : 6 * length (kept_numbers (story_items (story_in c s))) + 20 ≤ length s
  kept-few = rw (← story-items c s h) trace-few
