-- `symbols::entries::put_stitch` meets its contract: its three parts are visited in order. Assumes nothing.
use mathlib.Core.Path.{refl, sym, subst}
use mathlib.Core.List.{List}
use Prim.Native.Nat.{ℕ}
use Rattle.symbols.specs.Placed.{labels_placed}
use Rattle.items.specs.Bodies.{items_at, kept_stitch}
use Rattle.symbols.proofs.Visiting.{visiting-parts, visiting-end, visiting-ready, visiting-many, ready-first}
use Rattle.symbols.proofs.Parts.{stitch-parts}
use Rattle.symbols.proofs.entries.put_stitch.Goals as goal

pub visit-requires : goal.visit-requires
visit-requires g c =
    ready-first g.met.V.Visit.laws _ _ (stitch-parts c.args.flow (kept_stitch c.args.file.now c.args.kept.numbers.now c.args.v)) c.requires.ready

pub put_params-requires : goal.put_params-requires
put_params-requires g c =
    let ready = c.requires.ready in
    let none = visiting-parts g.met.V.Visit.laws (stitch-parts c.args.flow (kept_stitch c.args.file.now c.args.kept.numbers.now c.args.v)) ready in
    let title = visiting-many g.met.V.Visit.laws none refl c.visit.ensures in
    record { short = c.requires.name_lt_params.2; ready = visiting-ready g.met.V.Visit.laws title _ _ refl ready }

pub collect_labels_from_nodes-requires : goal.collect_labels_from_nodes-requires
collect_labels_from_nodes-requires g c =
    let ready = c.requires.ready in
    let none = visiting-parts g.met.V.Visit.laws (stitch-parts c.args.flow (kept_stitch c.args.file.now c.args.kept.numbers.now c.args.v)) ready in
    let title = visiting-many g.met.V.Visit.laws none refl c.visit.ensures in
    let params = visiting-many g.met.V.Visit.laws title refl c.put_params.ensures in
    subst (λ (b : List ℕ). g.V.Visit.ready c.put_params.new.visitor (labels_placed c.args.flow c.args.v.name (items_at c.args.file.now b))) (sym c.body_items-body.ensures)
    (visiting-ready g.met.V.Visit.laws params _ _ refl ready)

pub returns : goal.returns
returns g c =
    let ready = c.requires.ready in
    let none = visiting-parts g.met.V.Visit.laws (stitch-parts c.args.flow (kept_stitch c.args.file.now c.args.kept.numbers.now c.args.v)) ready in
    let title = visiting-many g.met.V.Visit.laws none refl c.visit.ensures in
    let params = visiting-many g.met.V.Visit.laws title refl c.put_params.ensures in
    let labels = visiting-many g.met.V.Visit.laws params refl (rw c.body_items-body.ensures at c.collect_labels_from_nodes.ensures) in
    visiting-end g.met.V.Visit.laws labels refl
