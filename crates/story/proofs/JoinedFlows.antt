-- A title, a stitch and a flow that are read well are their parts joined, without a gap. Assumes nothing.
use Rattle.std.specs.Prelude.{Ok, Err}
use mathlib.Core.Path.{◌≡◌, refl, sym, ◌∙◌, ap, subst}
use mathlib.Core.Bool.{Bool, true, false}
use mathlib.Core.List.{List, [], ◌∷◌, ◌++◌}
use Prim.Native.Nat.{ℕ, ◌+◌, ◌-◌, ◌≤◌}
use native.Mathlib.Omega.{arith}
use lib.Dec.{ltb, eqb, eqb→eq}
use lib.ListN.{length, get_or, take, drop, length-drop, take-append-drop}
use lib.Seq.{length-take-le, take_all, drop-cons, drop-drop}
use Rattle.fields.specs.declared.Refusal.TheVariants.{Short, Unknown}
use Rattle.fields.specs.Bytes.{pick, flag_of}
use Rattle.records.specs.Trace.{well, ends}
use Rattle.records.specs.Grammar.{Reading, ending}
use Rattle.story.specs.declared.Heading.{Heading}
use Rattle.records.specs.Items.{name_in, items_in}
use Rattle.story.specs.Flows.{titled, stitch, flow, counted_in, part, pieces_in, stitch_in, flow_in, stitches}
use Rattle.story.specs.Whole.{Joined, Sized, IsName, IsList, IsTitle, IsStitch, Flagged, IsFlow}
use Rattle.story.proofs.Titles.{flag_ends, flow-ends}
use Rattle.story.proofs.Readable.{TitledWell, titled-heading, flow-titled, stitch-titled}
use Rattle.fields.proofs.Laws.{name-count}
use Rattle.story.proofs.Unfolding.{titled-in, flow-in}
use Rattle.story.proofs.Parts.{part_length}
use Rattle.story.proofs.JoinedBytes.{part-split, front-split, is_name, counted-joined, pieces-joined, is_list}

-- 1. Titles

module _ (at : ℕ) {k : Reading} {h : Heading} {s : List ℕ} (w : TitledWell k h s) where
  -- the node list of a title
  title-list : IsList (at + (h.nodes - 4)) (part (h.nodes - 4) h.end s) (items_in (at + h.nodes) (part h.nodes h.end s))
  unfolding part
  title-list =
      let list = h.nodes - 4 in
      let n = h.end - h.nodes in
      let size : 4 + n ≡ h.end - list = omega (arith, w.laid.marks, w.laid.nodes) in
      let begin : list + 4 ≡ h.nodes = omega (arith, w.laid.marks) in
      let place : at + list + 4 ≡ at + h.nodes = omega (arith, w.laid.marks) in
      rw (size, drop-drop 4 list s, begin, place) at (is_list (at + list) n (drop list s) w.laid.list_read (rw (drop-drop 4 list s, begin) w.nodes))

  -- the name of a title
  title-name : IsName at (take h.params s) (record { at = at; bytes = name_in s })
  unfolding name_in
  title-name =
      let first : 1 + (h.params - 1) ≡ h.params = omega (arith, w.laid.some) in
      rw (name-count s (h.params - 1) refl w.laid.name-read) (rw first at (is_name at (h.params - 1) s w.laid.name-read))

  -- name, parameters, divert parameters and node list of a title
  title-is : IsTitle at (take h.end s) (record {
    name = record { at = at; bytes = name_in s };
    params = counted_in (at + h.params) (drop h.params s);
    marks = counted_in (at + h.marks) (drop h.marks s);
    body = items_in (at + h.nodes) (part h.nodes h.end s);
  })
  title-is =
      let list = h.nodes - 4 in
      let name = take h.params s in
      let params = part h.params h.marks s in
      let marks = part h.marks list s in
      let name-size : length name ≡ h.params = length-take-le h.params s (omega (arith, w.laid)) in
      let params-size = part_length h.params h.marks s (omega (arith, w.laid)) in
      let marks-size = part_length h.marks list s (omega (arith, w.laid)) in
      let params-end : at + length name + length params ≡ at + h.marks = omega (arith, name-size, params-size, w.laid) in
      let marks-end : at + length name + length params + length marks ≡ at + list = omega (arith, name-size, params-size, marks-size, w.laid) in
      record {
        name = name;
        params = params;
        marks = marks;
        list = part list h.end s;
        bytes = front-split h.params h.end s (omega (arith, w.laid)) ∙ ap (λ (u : List ℕ). name ++ u)
            (part-split h.params h.marks h.end s (omega (arith, w.laid)) (omega (arith, w.laid)) ∙ ap (λ (u : List ℕ). params ++ u)
            (part-split h.marks list h.end s (omega (arith, w.laid)) (omega (arith, w.laid))));
        is_name = title-name;
        are_params = rw name-size (counted-joined at s h.params w.laid.params-read);
        are_marks = rw params-end (counted-joined at s h.marks w.laid.marks-read);
        is_list = rw marks-end title-list;
      }

-- 2. Stitches

-- nothing is left where nothing more was read
none_after : (s : List ℕ) → ends (ending s) ≡ well → length s ≤ 0
unfolding ending ends
none_after [] e = omega arith
none_after (x ∷ s) e = let z : ◌≡◌ {A = ℕ} 0 1 = cc in absurd (omega arith)

-- a stitch behind its length
is-stitch : (at : ℕ) (size u : List ℕ) → Sized size u → ends (stitch u) ≡ well → IsStitch at (size ++ u) (stitch_in at u)
unfolding stitch_in
is-stitch at size u z good =
    let d = titled-heading ending u (stitch-titled u good) in
    let h = d.0 in
    let whole : take h.end u ≡ u = take_all h.end u (omega (arith, none_after (drop h.end u) d.1.rest, length-drop h.end u)) in
    rw (titled-in (at + 4) u h refl d.1.told) (record { size = size; title = u; bytes = refl; sized = z; is_title = rw whole at (title-is (at + 4) d.1) })

-- 3. Flows

-- the flag of a flow
flow-flag : (u : List ℕ) → ends (flow u) ≡ well → Flagged (get_or u 0 0) (eqb (get_or u 0 0) 1)
unfolding flag_of flag_ends
flow-flag u good = by_tests (ltb (length u) 1) (eqb (get_or u 0 0) 0) (eqb (get_or u 0 0) 1) refl refl (rw (flow-ends u) at good)
  where
    by_tests : (i j k : Bool) → eqb (get_or u 0 0) 0 ≡ j → eqb (get_or u 0 0) 1 ≡ k
        → flag_ends (pick i (Err Short) (pick j (Ok false) (pick k (Ok true) (Err Unknown)))) (ends (titled stitches (drop 1 u))) ≡ well → Flagged (get_or u 0 0) k
    by_tests true j k p q e = let z : ◌≡◌ {A = ℕ} 0 1 = cc in absurd (omega arith)
    by_tests false true true p q e = eqb→eq (get_or u 0 0) 1 (rw q tt)
    by_tests false true false p q e = eqb→eq (get_or u 0 0) 0 (rw p tt)
    by_tests false false true p q e = eqb→eq (get_or u 0 0) 1 (rw q tt)
    by_tests false false false p q e = let z : ◌≡◌ {A = ℕ} 0 1 = cc in absurd (omega arith)

-- a flow behind its length
pub is-flow : (at : ℕ) (size u : List ℕ) → Sized size u → ends (flow u) ≡ well → IsFlow at (size ++ u) (flow_in at u)
is-flow at size u z good =
    let f = flow-titled u good in
    let d = titled-heading stitches (drop 1 u) f.1 in
    let h = d.0 in
    let title = take h.end (drop 1 u) in
    let rest = drop h.end (drop 1 u) in
    let opened : u ≡ get_or u 0 0 ∷ title ++ rest
    = drop-cons u 0 0 f.0 ∙ ap (λ (v : List ℕ). get_or u 0 0 ∷ v) (sym (take-append-drop h.end (drop 1 u))) in
    let after : at + 5 + length title ≡ at + (5 + h.end) = omega (arith, length-take-le h.end (drop 1 u) d.1.laid.within) in
    let joined : Joined IsStitch (at + (5 + h.end)) rest (pieces_in stitch_in (at + (5 + h.end)) (drop (1 + h.end) u))
    = rw (drop-drop h.end 1 u) (pieces-joined stitch stitch_in IsStitch is-stitch (at + (5 + h.end)) (drop (1 + h.end) u) (rw (drop-drop h.end 1 u) at d.1.rest)) in
    rw (flow-in at u h refl d.1.told) (record {
      size = size;
      flag = get_or u 0 0;
      title = title;
      stitches = rest;
      bytes = ap (λ (v : List ℕ). size ++ v) opened;
      sized = subst (λ (v : List ℕ). Sized size v) opened z;
      place = refl;
      flagged = flow-flag u good;
      is_title = title-is (at + 5) d.1;
      are_stitches = rw after joined;
    })
