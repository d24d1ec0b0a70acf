-- The items of a trace, and those of a readable file: the story's, in file order. Assumes nothing.
use Rattle.std.specs.Prelude.{Result, Ok, Err, true, false, Bool}
use Rattle.fields.specs.declared.Refusal.{Refusal}
use Rattle.story.specs.declared.Heading.{Heading}
use mathlib.Core.Path.{◌≡◌, refl, sym, ap, ◌∙◌}
use mathlib.Core.List.{List, [], ◌∷◌, ◌++◌, map, append-nil, map-append}
use Prim.Native.Nat.{ℕ, zero, suc, ◌+◌}
use native.Mathlib.Nat.{add_assoc, zero-add}
use native.Mathlib.Omega.{arith}
use lib.ListN.{length, take, drop}
use lib.Seq.{drop-drop}
use Rattle.fields.specs.Bytes.{Span, list_of, flag_of}
use Rattle.names.specs.Words.{each}
use Rattle.records.specs.Trace.{Trace, and_then, shift, met, Ending, well, refused, ends}
use Rattle.records.specs.Grammar.{Reading, repeat_n, repeat, ending, flagged_at, nodes, piece_at, piece}
use Rattle.story.specs.declared.Sections.{Sections}
use Rattle.records.specs.Items.{Item, item_of, items_ended, items_in}
use Rattle.story.specs.Headings.{heading_of}
use Rattle.story.specs.Flows.{names, titled, stitch, stitches, flow, flows, part, titled_at, titled_in, pieces_at, pieces_n, pieces_in, stitch_in, title_end, flow_in, flows_in}
use Rattle.story.specs.File.{sections_read, story_in}
use Rattle.story.proofs.Endings.{both-well, shift-well}
use Rattle.records.specs.Work.{items_of}
use Rattle.story.specs.Story.{stitch_items, flow_items, story_items}
use Rattle.story.proofs.RecordsMet.{met-then, met-shift}
use Rattle.story.proofs.Titled.{title_trace, titled-trace, quiet, names-quiet}

-- 1. The items of two traces, of a trace further on

items-then : (b : ℕ) (t u : Trace) → ends t ≡ well → items_of b (and_then t u) ≡ items_of b t ++ items_of b u
items-then b t u h = rw (met-then b t u h) (map-append item_of (met b t) (met b u))

items-shift : (b a : ℕ) (t : Trace) → items_of b (shift a t) ≡ items_of (b + a) t
items-shift b a t = ap (map item_of) (met-shift b a t)

-- the items of a list that can be read
items-in : (b : ℕ) (s : List ℕ) → ends (nodes s) ≡ well → items_of b (nodes s) ≡ items_in b s
unfolding items_in items_ended
items-in b s h = rw h

-- names have none
names-items : (b : ℕ) (s : List ℕ) → items_of b (names s) ≡ []
unfolding quiet met
names-items b s = rw (names-quiet s) (by_end (ends (names s)))
  where
    by_end : (e : Ending) → items_of b (quiet e) ≡ []
    by_end well = refl
    by_end (refused r) = refl

ending-items : (b : ℕ) (s : List ℕ) → items_of b (ending s) ≡ []
unfolding ending met
ending-items b [] = refl
ending-items b (x ∷ s) = refl

-- 2. Pieces

module _ {A : Type 0} (g : Reading) (f : ℕ → List ℕ → A) (items : A → List Item) (one : (b : ℕ) (s : List ℕ) → ends (g s) ≡ well → items_of (b + 4) (g s) ≡ items (f b s)) where
  pieces-n-items : (n b : ℕ) (s : List ℕ) → ends (repeat_n n (piece g) s) ≡ well → items_of b (repeat_n n (piece g) s) ≡ each items (pieces_n n f b s)
  unfolding repeat_n pieces_n piece_at pieces_at list_of met ends
  pieces-n-items zero b s h = refl
  pieces-n-items (suc n) b [] h = refl
  pieces-n-items (suc n) b (x ∷ s) h = by_span (list_of (x ∷ s)) h (λ k. pieces-n-items n (b + (4 + k)) (drop (4 + k) (x ∷ s)))
    where
      by_span : (r : Span) → ends (piece_at r g (repeat_n n (piece g)) (x ∷ s)) ≡ well
          → ((k : ℕ) → ends (repeat_n n (piece g) (drop (4 + k) (x ∷ s))) ≡ well → items_of (b + (4 + k)) (repeat_n n (piece g) (drop (4 + k) (x ∷ s))) ≡ each items (pieces_n n f (b + (4 + k)) (drop (4 + k) (x ∷ s))))
          → items_of b (piece_at r g (repeat_n n (piece g)) (x ∷ s)) ≡ each items (pieces_at r f (pieces_n n f) b (x ∷ s))
      by_span (Span.Bytes k) h later =
          let p = g (take k (drop 4 (x ∷ s))) in
          let q = repeat_n n (piece g) (drop (4 + k) (x ∷ s)) in
          let w = both-well (shift 4 p) (shift (4 + k) q) h in
          items-then b (shift 4 p) (shift (4 + k) q) w.0
          ∙ rw (items-shift b 4 p, items-shift b (4 + k) q, one b (take k (drop 4 (x ∷ s))) (shift-well 4 p w.0), later k (shift-well (4 + k) q w.1))
      by_span (Span.Refused x) h later = let z : ◌≡◌ {A = ℕ} 0 1 = cc in absurd (omega arith)

  pub pieces-items : (b : ℕ) (s : List ℕ) → ends (repeat (piece g) s) ≡ well → items_of b (repeat (piece g) s) ≡ each items (pieces_in f b s)
  unfolding repeat pieces_in
  pieces-items b s h = pieces-n-items (length s) b s h

-- 3. Stitches and flows

stitch-at : (b : ℕ) (s : List ℕ) (r : Result Heading Refusal) → ends (title_trace r ending s) ≡ well → items_of b (title_trace r ending s) ≡ (titled_at r b s).body
unfolding title_trace titled_at ends
stitch-at b s (Ok h) e =
    let p = nodes (part h.nodes h.end s) in
    let q = ending (drop h.end s) in
    let w = both-well (shift h.nodes p) (shift h.end q) e in
    items-then b (shift h.nodes p) (shift h.end q) w.0
    ∙ rw (items-shift b h.nodes p, items-shift b h.end q, ending-items (b + h.end) (drop h.end s), append-nil (items_of (b + h.nodes) p))
    (items-in (b + h.nodes) (part h.nodes h.end s) (shift-well h.nodes p w.0))
stitch-at b s (Err x) e = let z : ◌≡◌ {A = ℕ} 0 1 = cc in absurd (omega arith)

pub stitch-items : (b : ℕ) (s : List ℕ) → ends (stitch s) ≡ well → items_of (b + 4) (stitch s) ≡ stitch_items (stitch_in b s)
unfolding stitch stitch_in titled_in
stitch-items b s h = rw (titled-trace ending s) (stitch-at (b + 4) s (heading_of s) (sym (ap ends (titled-trace ending s)) ∙ h))

-- a flow from its name on, which stands at b
flow-at : (b : ℕ) (s : List ℕ) (r : Result Heading Refusal) → ends (title_trace r stitches s) ≡ well
    → items_of b (title_trace r stitches s) ≡ (titled_at r b s).body ++ each stitch_items (pieces_in stitch_in (b + title_end r) (drop (title_end r) s))
unfolding title_trace titled_at title_end ends
flow-at b s (Ok h) e =
    let p = nodes (part h.nodes h.end s) in
    let q = stitches (drop h.end s) in
    let w = both-well (shift h.nodes p) (shift h.end q) e in
    items-then b (shift h.nodes p) (shift h.end q) w.0
    ∙ rw (items-shift b h.nodes p, items-shift b h.end q, items-in (b + h.nodes) (part h.nodes h.end s) (shift-well h.nodes p w.0), pieces-items stitch stitch_in stitch_items stitch-items (b + h.end) (drop h.end s) (shift-well h.end q w.1))
flow-at b s (Err x) e = let z : ◌≡◌ {A = ℕ} 0 1 = cc in absurd (omega arith)

flow-named : (b : ℕ) (s : List ℕ) → ends (titled stitches (drop 1 s)) ≡ well → items_of (b + 5) (titled stitches (drop 1 s)) ≡ flow_items (flow_in b s)
unfolding flow_in flow_items titled_in
flow-named b s h =
    let r = heading_of (drop 1 s) in
    rw (titled-trace stitches (drop 1 s), ← add_assoc b 5 (title_end r), ← drop-drop (title_end r) 1 s)
    (flow-at (b + 5) (drop 1 s) r (sym (ap ends (titled-trace stitches (drop 1 s))) ∙ h))

flow-flagged : (b : ℕ) (s : List ℕ) (r : Result Bool Refusal) → ends (flagged_at r (titled stitches) (titled stitches) s) ≡ well
    → items_of (b + 4) (flagged_at r (titled stitches) (titled stitches) s) ≡ flow_items (flow_in b s)
unfolding flagged_at ends
flow-flagged b s r e = by_flag r e
  where
    five : b + 4 + 1 ≡ b + 5
    five = omega arith

    rest : ends (shift 1 (titled stitches (drop 1 s))) ≡ well → items_of (b + 4) (shift 1 (titled stitches (drop 1 s))) ≡ flow_items (flow_in b s)
    rest h = rw (items-shift (b + 4) 1 (titled stitches (drop 1 s)), five) (flow-named b s (shift-well 1 (titled stitches (drop 1 s)) h))

    by_flag : (x : Result Bool Refusal) → ends (flagged_at x (titled stitches) (titled stitches) s) ≡ well → items_of (b + 4) (flagged_at x (titled stitches) (titled stitches) s) ≡ flow_items (flow_in b s)
    by_flag (Ok false) h = rest h
    by_flag (Ok true) h = rest h
    by_flag (Err x) h = let z : ◌≡◌ {A = ℕ} 0 1 = cc in absurd (omega arith)

flow-items : (b : ℕ) (s : List ℕ) → ends (flow s) ≡ well → items_of (b + 4) (flow s) ≡ flow_items (flow_in b s)
unfolding flow
flow-items b s h = flow-flagged b s (flag_of s) h

pub flows-items : (b : ℕ) (s : List ℕ) → ends (flows s) ≡ well → items_of b (flows s) ≡ each flow_items (flows_in b s)
unfolding flows flows_in
flows-items b s h = pieces-items flow flow_in flow_items flow-items b s h

-- 4. A file

-- THE ITEMS of a readable file are the story's
pub story-items : (c : Sections) (s : List ℕ) → ends (sections_read c s) ≡ well → items_of 0 (sections_read c s) ≡ story_items (story_in c s)
unfolding sections_read story_in story_items
story-items c s h =
    let g = names (part 0 c.externals s) in
    let x = names (part c.externals c.root s) in
    let n = nodes (part c.root c.flows s) in
    let f = flows (part c.flows c.end s) in
    let behind = and_then (shift c.root n) (shift c.flows f) in
    let w = both-well g (and_then x behind) h in
    let v = both-well x behind w.1 in
    let u = both-well (shift c.root n) (shift c.flows f) v.1 in
    items-then 0 g (and_then x behind) w.0
    ∙ rw (names-items 0 (part 0 c.externals s))
    (items-then 0 x behind v.0
    ∙ rw (names-items 0 (part c.externals c.root s))
    (items-then 0 (shift c.root n) (shift c.flows f) u.0
    ∙ rw (items-shift 0 c.root n, items-shift 0 c.flows f, zero-add c.root, zero-add c.flows, items-in c.root (part c.root c.flows s) (shift-well c.root n u.0), flows-items c.flows (part c.flows c.end s) (shift-well c.flows f u.1))))
