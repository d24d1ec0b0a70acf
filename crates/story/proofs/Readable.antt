-- The parts of a readable file are readable: its sections, each name, each flow, each stitch, each list of nodes. Assumes nothing.
use Rattle.std.specs.Prelude.{Result, Ok, Err, true, false, Bool}
use mathlib.Core.Path.{◌≡◌, refl, sym, ◌∙◌, ap}
use mathlib.Core.List.{List, [], ◌∷◌}
use Prim.Native.Nat.{ℕ, ◌+◌, ◌≤◌, ◌<◌}
use native.Mathlib.Omega.{arith}
use lib.ListN.{length, take, drop}
use Rattle.fields.specs.declared.Refusal.{Refusal}
use Rattle.fields.specs.Bytes.{Span, list_of, name_of, flag_of}
use Rattle.fields.proofs.Laws.{list-fits, name-fits, off-fits, on_fits}
use Rattle.records.specs.Trace.{shift, Ending, well, refused, ends}
use Rattle.records.specs.Grammar.{Reading, repeat, ending, nodes, piece}
use Rattle.story.specs.declared.Sections.{Sections}
use Rattle.story.specs.declared.Heading.{Heading}
use Rattle.story.specs.Headings.{heading_of}
use Rattle.story.specs.Flows.{names, titled, stitch, flow, flows, part, stitches}
use Rattle.story.specs.File.{InOrder, opened_of, sections_read, read_ended, read_at, read_of}
use Rattle.story.proofs.Endings.{first-well, second-well, both-well, shift-well}
use Rattle.story.proofs.Reaches.{Laid, heading-laid}
use Rattle.story.proofs.Titled.{title_trace, titled-trace}
use Rattle.story.proofs.Pieces.{names-on, names-refused, pieces_step, pieces-end-refused}
use Rattle.story.proofs.Titles.{flag_ends, flow-ends}
use Rattle.story.proofs.Opening.{opened-in-order, sections-end}

-- 1. The file

-- a file that can be read, with its sections
pub record Readable (c : Sections) (s : List ℕ) : Type 0 where
  pub order : InOrder c s
  pub globals : ends (names (part 0 c.externals s)) ≡ well
  pub externals : ends (names (part c.externals c.root s)) ≡ well
  pub root : ends (nodes (part c.root c.flows s)) ≡ well
  pub flows : ends (flows (part c.flows c.end s)) ≡ well

ended-well : (e : Ending) (c d : Sections) → read_ended e (Ok d) ≡ Ok c → (e ≡ well) × (d ≡ c)
unfolding read_ended
ended-well well c d p = (refl, cc)
ended-well (refused x) c d p = let z : ◌≡◌ {A = ℕ} 0 1 = cc in absurd (omega arith)

opened-well : (s : List ℕ) (c : Sections) (o : Result Sections Refusal) → read_at o s ≡ Ok c → (o ≡ Ok c) × (ends (sections_read c s) ≡ well)
unfolding read_at
opened-well s c (Ok d) p =
    let h = ended-well (ends (sections_read d s)) c d p in (ap Ok h.1, rw (← h.1) h.0)
opened-well s c (Err x) p = let z : ◌≡◌ {A = ℕ} 0 1 = cc in absurd (omega arith)

pub readable : (s : List ℕ) (c : Sections) {r : Result Sections Refusal} → r ≡ read_of s → r ≡ Ok c → Readable c s
unfolding read_of
readable s c p q =
    let o = opened-well s c (opened_of s) (sym p ∙ q) in
    let all = sym (sections-end c s) ∙ o.1 in
    let later = second-well (ends (names (part 0 c.externals s))) _ all in
    let last = second-well (ends (names (part c.externals c.root s))) _ later in
    record {
      order = opened-in-order s c refl o.0;
      globals = first-well _ _ all;
      externals = first-well _ _ later;
      root = first-well _ _ last;
      flows = second-well (ends (nodes (part c.root c.flows s))) _ last;
    }

-- 2. Names

module _ (t : List ℕ) (good : ends (names t) ≡ well) where
  pub names-rest : (k : ℕ) {r : Span} → r ≡ name_of t → r ≡ Span.Bytes k → ends (names (drop (1 + k) t)) ≡ well
  names-rest k p q = sym (names-on t k (omega (arith, name-fits t k p q)) p q) ∙ good

  names-never-refused : {x : Refusal} {r : Span} → 0 < length t → r ≡ name_of t → r ≡ Span.Refused x → ⊥
  names-never-refused h p q = let e = names-refused t h p q in let z : ◌≡◌ {A = ℕ} 0 1 = cc in omega arith

  pub names-front : 0 < length t → (k : ℕ) × (name_of t ≡ Span.Bytes k)
  names-front h = by_name (name_of t) refl
    where
      by_name : (r : Span) → r ≡ name_of t → (k : ℕ) × (name_of t ≡ Span.Bytes k)
      by_name (Span.Bytes k) p = (k, sym p)
      by_name (Span.Refused x) p = absurd (names-never-refused h p refl)

-- 3. Pieces, each by g

module _ (g : Reading) (t : List ℕ) (good : ends (repeat (piece g) t) ≡ well) where
  pub piece-first : (n : ℕ) {r : Span} → r ≡ list_of t → r ≡ Span.Bytes n → ends (g (take n (drop 4 t))) ≡ well
  piece-first n p q = first-well _ _ (sym (pieces_step g t n (omega (arith, list-fits t n p q)) p q) ∙ good)

  pub piece-rest : (n : ℕ) {r : Span} → r ≡ list_of t → r ≡ Span.Bytes n → ends (repeat (piece g) (drop (4 + n) t)) ≡ well
  piece-rest n p q = second-well (ends (g (take n (drop 4 t)))) _ (sym (pieces_step g t n (omega (arith, list-fits t n p q)) p q) ∙ good)

  piece-never-refused : {x : Refusal} {r : Span} → 0 < length t → r ≡ list_of t → r ≡ Span.Refused x → ⊥
  piece-never-refused h p q = let e = pieces-end-refused g t h p q in let z : ◌≡◌ {A = ℕ} 0 1 = cc in omega arith

  -- where there is no further piece, nothing is left
  pub piece-none-left : {x : Refusal} {r : Span} → r ≡ list_of t → r ≡ Span.Refused x → length t ≤ 0
  piece-none-left p q = by_bytes t (λ h. piece-never-refused h p q)
    where
      by_bytes : (s : List ℕ) → (0 < length s → ⊥) → length s ≤ 0
      by_bytes [] never = omega arith
      by_bytes (x ∷ s) never = absurd (never (omega arith))

-- flows are pieces
pub flows-pieces : (t : List ℕ) → ends (flows t) ≡ ends (repeat (piece flow) t)
unfolding flows
flows-pieces t = refl

-- 4. A title, then what follows it by k

-- a title that is read well: its heading, its nodes, and what follows them
pub record TitledWell (k : Reading) (h : Heading) (s : List ℕ) : Type 0 where
  pub told : heading_of s ≡ Ok h
  pub laid : Laid h s
  pub nodes : ends (nodes (part h.nodes h.end s)) ≡ well
  pub rest : ends (k (drop h.end s)) ≡ well

module _ (k : Reading) (s : List ℕ) (good : ends (titled k s) ≡ well) where
  traced : ends (title_trace (heading_of s) k s) ≡ well
  traced = sym (ap ends (titled-trace k s)) ∙ good

  pub titled-well : (h : Heading) {r : Result Heading Refusal} → r ≡ heading_of s → r ≡ Ok h → TitledWell k h s
  unfolding title_trace
  titled-well h p q =
      let to = sym p ∙ q in
      let inside = nodes (part h.nodes h.end s) in
      let after = k (drop h.end s) in
      let d = both-well (shift h.nodes inside) (shift h.end after) (rw to at traced) in
      record { told = to; laid = heading-laid s h p q; nodes = shift-well h.nodes inside d.0; rest = shift-well h.end after d.1 }

  titled-never-refused : {x : Refusal} {r : Result Heading Refusal} → r ≡ heading_of s → r ≡ Err x → ⊥
  unfolding title_trace ends
  titled-never-refused p q = let e = rw (sym p ∙ q) at traced in let z : ◌≡◌ {A = ℕ} 0 1 = cc in omega arith

  -- there is a heading
  pub titled-heading : (h : Heading) × TitledWell k h s
  titled-heading = by-heading (heading_of s) refl
    where
      by-heading : (r : Result Heading Refusal) → r ≡ heading_of s → (h : Heading) × TitledWell k h s
      by-heading (Ok h) p = (h, titled-well h p refl)
      by-heading (Err x) p = absurd (titled-never-refused p refl)

-- 5. A flow and a stitch

module _ (s : List ℕ) (good : ends (flow s) ≡ well) where
  flag-well : (r : Result Bool Refusal) → r ≡ flag_of s → flag_ends r (ends (titled stitches (drop 1 s))) ≡ well → (1 ≤ length s) × (ends (titled stitches (drop 1 s)) ≡ well)
  unfolding flag_ends
  flag-well (Ok false) p e = (off-fits s p refl, e)
  flag-well (Ok true) p e = (on_fits s p refl, e)
  flag-well (Err x) p e = let z : ◌≡◌ {A = ℕ} 0 1 = cc in absurd (omega arith)

  -- after its flag a flow is a title and stitches
  pub flow-titled : (1 ≤ length s) × (ends (titled stitches (drop 1 s)) ≡ well)
  flow-titled = flag-well (flag_of s) refl (sym (flow-ends s) ∙ good)

module _ (s : List ℕ) (good : ends (stitch s) ≡ well) where
  -- a stitch is a title and nothing more
  pub stitch-titled : ends (titled ending s) ≡ well
  unfolding stitch
  stitch-titled = good
