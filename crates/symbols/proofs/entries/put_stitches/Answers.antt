-- `symbols::entries::put_stitches` meets its contract. The loop's invariant: what is left to be visited are the stitches from `at` on,
-- they can be read, and their items are kept. Assumes nothing.
use mathlib.Core.Path.{ap, refl}
use mathlib.Core.List.{List, map}
use native.Mathlib.Omega.{arith}
use Rattle.names.specs.Words.{each}
use Rattle.story.specs.Story.{Stitch}
use Rattle.story.specs.Plain.{stitch_without_plain}
use Rattle.searches.proofs.Viewed.{stitch-laid}
use Rattle.searches.proofs.Readable.{no-stitch, stitch-readable}
use Rattle.items.proofs.Kept.{stitch-rest, stitches-plain, stitches-from}
use Rattle.symbols.specs.Placed.{stitch_placed}
use Rattle.symbols.proofs.Visiting.{visiting-parts, visiting-end, visiting-ready, visiting-many}
use Rattle.symbols.proofs.entries.put_stitches.Goals as goal

pub loop-s-init : goal.loop-s-init
loop-s-init g c =
    ((c.requires.name_in_bounds.1.ordered), (c.requires.file_value, c.requires.stitches_kept), visiting-parts g.met.V.Visit.laws refl c.requires.ready)

pub stitch_view-requires : goal.stitch_view-requires
stitch_view-requires g c = (c.loop-s.invariant.0, c.requires.name_in_bounds.1.within)

pub returns : goal.returns
returns g c =
    visiting-end g.met.V.Visit.laws c.loop-s.invariant.2
    (ap (λ (ts : List Stitch). each (stitch_placed c.args.v.name) (map stitch_without_plain ts))
    (no-stitch c.args.file.now c.loop-s.at c.args.v.end c.loop-s.invariant.1.0 c.stitch_view.ensures c.in_default.is))

pub put_stitch-requires : goal.put_stitch-requires
put_stitch-requires g c =
    let file = c.args.file.now in
    let loop = c.loop-s in
    let r = c.requires.name_in_bounds.1 in
    let view = c.stitch_view.ensures in
    let l = stitch-laid file loop.at c.args.v.end c.in-Some.s view c.in-Some.is in record {
      name_lt_params = (l.name, omega (arith, r.within), r.short);
      ready = visiting-ready g.met.V.Visit.laws loop.invariant.2 _ _
          (ap (each (stitch_placed c.args.v.name)) (stitches-plain file _ loop.at c.args.v.end loop.invariant.0 r.within r.short loop.invariant.1.0 loop.invariant.1.1 c.in-Some.s view c.in-Some.is))
          c.requires.ready;
    }

pub loop-s-smaller : goal.loop-s-smaller
loop-s-smaller g c =
    let l = stitch-laid c.args.file.now c.loop-s.at c.args.v.end c.in-Some.s c.stitch_view.ensures c.in-Some.is in omega (arith, c.loop-s.invariant.0)

pub loop-s-preserved : goal.loop-s-preserved
loop-s-preserved g c =
    let file = c.args.file.now in
    let loop = c.loop-s in
    let r = c.requires.name_in_bounds.1 in
    let view = c.stitch_view.ensures in
    let l = stitch-laid file loop.at c.args.v.end c.in-Some.s view c.in-Some.is in (
      omega (arith, loop.invariant.0),
      (
        (stitch-readable file loop.at c.args.v.end loop.invariant.1.0 view c.in-Some.s c.in-Some.is).rest,
        stitches-from c.items_from-rest.ensures (stitch-rest file _ loop.at c.args.v.end loop.invariant.0 r.within r.short loop.invariant.1.0 loop.invariant.1.1 c.in-Some.s view c.in-Some.is),
      ),
      visiting-many g.met.V.Visit.laws loop.invariant.2
          (ap (each (stitch_placed c.args.v.name)) (stitches-plain file _ loop.at c.args.v.end loop.invariant.0 r.within r.short loop.invariant.1.0 loop.invariant.1.1 c.in-Some.s view c.in-Some.is))
          c.put_stitch.ensures,
    )
