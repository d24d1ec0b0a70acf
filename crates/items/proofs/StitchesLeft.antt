-- The stitches of a flow one after the other. Assumes nothing.
use Rattle.std.specs.Prelude.{Option, Some, None, is_some}
use mathlib.Core.Path.{◌≡◌, refl, ap}
use mathlib.Core.List.{List, [], map}
use Prim.Native.Nat.{ℕ, ◌-◌, ◌<◌}
use native.Mathlib.Omega.{arith}
use Rattle.story.specs.Plain.{stitch_without_plain}
use Rattle.searches.specs.declared.views.StitchView.{StitchView}
use Rattle.searches.specs.Views.{stitch_view_of}
use Rattle.searches.proofs.Viewed.{StitchLaid, stitch-viewed, stitch-laid}
use Rattle.searches.proofs.Readable.{no-stitch, stitch-readable}
use Rattle.items.specs.Bodies.{kept_stitches}
use Rattle.items.specs.Stitches.{has_stitches, StitchesReady}

module _ (file : List ℕ) (at end : ℕ) (ready : StitchesReady file at end) {r : Option StitchView} (told : r ≡ stitch_view_of file at end) where
  -- no stitch is left
  pub no-stitches : r ≡ None → kept_stitches file at end ≡ []
  no-stitches q = ap (map stitch_without_plain) (no-stitch file at end ready.good told q)

  -- the first is seen exactly if there is some
  pub some_stitch : is_some r ≡ has_stitches file at end
  some_stitch = by-view r refl
    where
      by-view : (v : Option StitchView) → r ≡ v → is_some r ≡ has_stitches file at end
      by-view None q = rw (q, no-stitches q) refl
      by-view (Some w) q = rw (q, stitch-viewed file at end w told q) refl

  module _ (w : StitchView) (q : r ≡ Some w) where
    laid : StitchLaid at end w
    laid = stitch-laid file at end w told q

    -- the stitches after it can be read
    pub stitches-after : StitchesReady file w.end end
    stitches-after = record {
      ordered = laid.within;
      within = ready.within;
      short = ready.short;
      good = (stitch-readable file at end ready.good told w q).rest;
    }

    -- fewer bytes are left
    pub stitches-fewer : end - w.end < end - at
    stitches-fewer = omega (arith, laid)
