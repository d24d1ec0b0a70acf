-- What the rules ask of a reader of files, the reader supplies: `supplied`. Assumes nothing.
use Rattle.std.specs.Prelude.{Ok}
use mathlib.Core.Path.{◌≡◌, refl, sym, ◌∙◌, ap₂}
use mathlib.Core.List.{List, ◌∷◌, map}
use Prim.Native.Nat.{ℕ, zero, suc, ◌+◌}
use native.Mathlib.Omega.{arith}
use lib.Dec.{eqb}
use lib.ListN.{length, get_or, take, drop}
use lib.Seq.{get_or-take, drop-drop}
use Rattle.fields.specs.Bytes.{Span, list_of}
use Rattle.records.specs.Trace.{well, ends}
use Rattle.records.specs.Grammar as grammar
use Rattle.story.specs.declared.Sections.{Sections}
use Rattle.story.specs.declared.Heading.{Heading}
use Rattle.story.specs.Story.{words}
use Rattle.records.specs.Items.{name_in}
use Rattle.story.specs.Headings.{counted_reach}
use Rattle.story.specs.Flows.{stitch, flow, flows, names_in, counted_in, part, pieces_at, pieces_n, pieces_in, stitch_in, flow_in, flows_in}
use Rattle.story.specs.File.{read_of, story_in}
use Rattle.story.proofs.Unfolding.{flow-in}
use Rattle.story.proofs.Readable as file
use Rattle.story.proofs.Parts.{counted-part}
use Rattle.story.proofs.Alike.{same-items, same-names-in, same-counted, same-stitch}
use Rattle.story.proofs.Places.{story-root-rises, story-flows-rise}
use Rattle.rules.specs.Placed.{Placed}
use Rattle.rules.specs.Files.{unplaced_stitch, unplaced_flow, unplaced, flow_read, file_read, Supplied}
use Rattle.rules.specs.Reader.{Readable, story_at, story_of, pieces_by, stitch_bytes, flow_parts, flow_bytes, parts_in, parts_at, parts_of, reading}

-- 1. Places rise

story-placed : (c : Sections) (s : List ℕ) → Placed (story_in c s)
story-placed c s = record {
  root = story-root-rises c s;
  flows = λ f m. let h = story-flows-rise c s f m in record { params = h.params; begins = h.begins; body = h.body; stitches = h.stitches };
}

-- 2. Pieces that are read well: what f makes of each where it stands is, to p, what h makes of its bytes, to q

module _ {A B C : Type 0} (g : grammar.Reading) (f : ℕ → List ℕ → A) (h : List ℕ → B) (p : A → C) (q : B → C)
    (same : (at : ℕ) (s : List ℕ) → ends (g s) ≡ well → p (f at s) ≡ q (h s)) where
  pieces-n : (n a b : ℕ) (t : List ℕ) → ends (grammar.repeat (grammar.piece g) t) ≡ well → map p (pieces_n n f a t) ≡ map q (pieces_n n (λ (at : ℕ) (s : List ℕ). h s) b t)
  unfolding pieces_n pieces_at
  pieces-n zero a b t good = refl
  pieces-n (suc n) a b t good = by_span (list_of t) refl (λ k. pieces-n n (a + (4 + k)) (b + (4 + k)) (drop (4 + k) t))
    where
      by_span : (r : Span) → r ≡ list_of t
          → ((k : ℕ) → ends (grammar.repeat (grammar.piece g) (drop (4 + k) t)) ≡ well → map p (pieces_n n f (a + (4 + k)) (drop (4 + k) t)) ≡ map q (pieces_n n (λ (at : ℕ) (s : List ℕ). h s) (b + (4 + k)) (drop (4 + k) t)))
          → map p (pieces_at r f (pieces_n n f) a t) ≡ map q (pieces_at r (λ (at : ℕ) (s : List ℕ). h s) (pieces_n n (λ (at : ℕ) (s : List ℕ). h s)) b t)
      by_span (Span.Bytes k) e later = ap₂ ◌∷◌ (same a (take k (drop 4 t)) (file.piece-first g t good k e refl)) (later k (file.piece-rest g t good k e refl))
      by_span (Span.Refused x) e later = refl

  pieces-read : (at : ℕ) (t : List ℕ) → ends (grammar.repeat (grammar.piece g) t) ≡ well → map p (pieces_in f at t) ≡ map q (pieces_by h t)
  unfolding pieces_in
  pieces-read at t good = pieces-n (length t) at 0 t good

-- 3. A stitch, a flow, a file

stitch-read : (at : ℕ) (s : List ℕ) → unplaced_stitch (stitch_in at s) ≡ reading.stitch s
unfolding unplaced_stitch reading
stitch-read at s =
    let e = same-stitch at 0 s in λ i. record { name = e.name i; params = e.params i; marks = e.marks i; body = e.body i }

-- parameters, from their bytes
params-read : (at p : ℕ) (s : List ℕ) {e : ℕ} → counted_reach s p ≡ Ok e → words (counted_in at (drop p s)) ≡ words (counted_in 0 (part p e s))
params-read at p s to = rw (counted-part 0 p s to) (same-counted at 0 (drop p s))

flow-read : (at : ℕ) (s : List ℕ) → ends (flow s) ≡ well → unplaced_flow (flow_in at s) ≡ flow_read reading (flow_bytes s)
unfolding flow_bytes flow_parts unplaced_flow flow_read reading
flow-read at s good =
    let titled = file.titled-heading _ (drop 1 s) (file.flow-titled s good).1 in
    let h : Heading = titled.0 in
    let w : file.TitledWell _ h (drop 1 s) = titled.1 in
    let flag : get_or s 0 0 ≡ get_or (take 1 s) 0 0 = sym (get_or-take 1 s 0 0 (omega arith)) in
    let params = params-read (at + 5 + h.params) h.params (drop 1 s) w.laid.params-read in
    let marks = params-read (at + 5 + h.marks) h.marks (drop 1 s) w.laid.marks-read in
    let body = same-items (at + 5 + h.nodes) 0 (part h.nodes h.end (drop 1 s)) in
    let stitches = pieces-read stitch stitch_in stitch_bytes unplaced_stitch reading.stitch (λ a t e. stitch-read a t) (at + (5 + h.end)) (drop h.end (drop 1 s)) w.rest in
    rw (flow-in at s h refl w.told, w.told, ← drop-drop h.end 1 s)
    (λ i. record {
      function = eqb (flag i) 1;
      own = record { name = name_in (drop 1 s); params = params i; marks = marks i; body = body i };
      stitches = stitches i;
    })

flows-read : (at : ℕ) (t : List ℕ) → ends (flows t) ≡ well → map unplaced_flow (flows_in at t) ≡ map (flow_read reading) (pieces_by flow_bytes t)
unfolding flows_in
flows-read at t good = pieces-read flow flow_in flow_bytes unplaced_flow (flow_read reading) flow-read at t (sym (file.flows-pieces t) ∙ good)

file-read : (c : Sections) (s : List ℕ) → file.Readable c s → unplaced (story_in c s) ≡ file_read reading (parts_in c s)
unfolding unplaced story_in file_read parts_in reading
file-read c s good =
    let externals = same-names-in c.externals 0 (part c.externals c.root s) in
    let root = same-items c.root 0 (part c.root c.flows s) in
    let flows = flows-read c.flows (part c.flows c.end s) good.flows in
    λ i. record { globals = words (names_in 0 (part 0 c.externals s)); externals = externals i; root = root i; flows = flows i }

-- 4. What is supplied

module _ (s : List ℕ) (c : Sections) (told : read_of s ≡ Ok c) where
  -- the story and the parts of a readable file are those in its sections
  pub story-told : story_of s ≡ story_in c s
  unfolding story_of story_at
  story-told = rw told

  pub parts-told : parts_of s ≡ parts_in c s
  unfolding parts_of parts_at
  parts-told = rw told

pub supplied : Supplied Readable story_of parts_of reading
supplied = record {
  placed = λ s r. rw (story-told s r.sections r.told) (story-placed r.sections s);
  read = λ s r.
      rw (story-told s r.sections r.told, parts-told s r.sections r.told) (file-read r.sections s (file.readable s r.sections refl r.told));
}
