-- `symbols::entries::put_flow` meets its contract: its parts are visited in order. Assumes nothing.
use mathlib.Core.Path.{◌≡◌, refl, sym, subst}
use mathlib.Core.List.{List}
use Rattle.symbols.specs.declared.Places.{Places}
use Rattle.symbols.specs.Numbers.{absent}
use Rattle.symbols.specs.Placed.{labels_placed, prefix_number}
use native.Mathlib.Omega.{arith}
use Rattle.items.specs.Bodies.{items_at, kept_flow}
use Rattle.symbols.proofs.Visiting.{visiting-parts, visiting-end, visiting-ready, visiting-many, ready-first}
use Rattle.symbols.proofs.Parts.{flow-parts}
use Rattle.symbols.proofs.entries.put_flow.Goals as goal

pub visit-requires : goal.visit-requires
visit-requires g c =
    ready-first g.met.V.Visit.laws _ _ (flow-parts (kept_flow c.args.file.now c.args.kept.numbers.now c.args.v)) c.requires.ready

pub put_params-requires : goal.put_params-requires
put_params-requires g c =
    let ready = c.requires.ready in
    let none = visiting-parts g.met.V.Visit.laws (flow-parts (kept_flow c.args.file.now c.args.kept.numbers.now c.args.v)) ready in
    let title = visiting-many g.met.V.Visit.laws none refl c.visit.ensures in
    record { short = c.requires.name_lt_params.2.short; ready = visiting-ready g.met.V.Visit.laws title _ _ refl ready }

pub prefix_number-prefix-requires : goal.prefix_number-prefix-requires
prefix_number-prefix-requires g c = omega (arith, c.requires.name_lt_params.0, c.requires.name_lt_params.1, c.requires.name_lt_params.2.short)

pub collect_labels_from_nodes-requires : goal.collect_labels_from_nodes-requires
collect_labels_from_nodes-requires g c =
    let ready = c.requires.ready in
    let none = visiting-parts g.met.V.Visit.laws (flow-parts (kept_flow c.args.file.now c.args.kept.numbers.now c.args.v)) ready in
    let title = visiting-many g.met.V.Visit.laws none refl c.visit.ensures in
    let params = visiting-many g.met.V.Visit.laws title refl c.put_params.ensures in
    let f = kept_flow c.args.file.now c.args.kept.numbers.now c.args.v in
    let e : labels_placed c.prefix_number-prefix.result absent (items_at c.args.file.now c.body_items-own.result.now) ≡ labels_placed (prefix_number f.name.bytes f.name.at) absent f.body
    = rw (c.prefix_number-prefix.ensures, c.body_items-own.ensures) in
    subst (λ (ps : List Places). g.V.Visit.ready c.put_params.new.visitor ps) (sym e) (visiting-ready g.met.V.Visit.laws params _ _ refl ready)

pub put_stitches-requires : goal.put_stitches-requires
put_stitches-requires g c =
    let ready = c.requires.ready in
    let none = visiting-parts g.met.V.Visit.laws (flow-parts (kept_flow c.args.file.now c.args.kept.numbers.now c.args.v)) ready in
    let title = visiting-many g.met.V.Visit.laws none refl c.visit.ensures in
    let params = visiting-many g.met.V.Visit.laws title refl c.put_params.ensures in
    let labels = visiting-many g.met.V.Visit.laws params refl (rw (c.prefix_number-prefix.ensures, c.body_items-own.ensures) at c.collect_labels_from_nodes.ensures) in record { name_in_bounds = (omega (arith, c.requires.name_lt_params.0, c.requires.name_lt_params.1), c.requires.name_lt_params.2); file_value = c.requires.file_value; stitches_kept = c.requires.stitches_kept; ready = visiting-ready g.met.V.Visit.laws labels _ _ refl ready }

pub returns : goal.returns
returns g c =
    let ready = c.requires.ready in
    let none = visiting-parts g.met.V.Visit.laws (flow-parts (kept_flow c.args.file.now c.args.kept.numbers.now c.args.v)) ready in
    let title = visiting-many g.met.V.Visit.laws none refl c.visit.ensures in
    let params = visiting-many g.met.V.Visit.laws title refl c.put_params.ensures in
    let labels = visiting-many g.met.V.Visit.laws params refl (rw (c.prefix_number-prefix.ensures, c.body_items-own.ensures) at c.collect_labels_from_nodes.ensures) in
    visiting-end g.met.V.Visit.laws (visiting-many g.met.V.Visit.laws labels refl c.put_stitches.ensures) refl
