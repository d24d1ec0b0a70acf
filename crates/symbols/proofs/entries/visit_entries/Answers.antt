-- `symbols::entries::visit_entries` meets its contract: globals, labels of the root and flows are visited in order, without plain items,
-- which change nothing. Assumes nothing.
use mathlib.Core.Path.{refl, sym, ap, subst, ◌∙◌}
use mathlib.Core.List.{List}
use Rattle.records.specs.Items.{Item}
use Rattle.symbols.specs.Numbers.{absent}
use Rattle.symbols.specs.Placed.{labels_placed}
use native.Mathlib.Omega.{arith}
use lib.ListN.{length-take}
use Rattle.story.specs.Plain.{without_plain}
use Rattle.story.specs.File.{story_in}
use Rattle.story.proofs.Readable.{readable}
use Rattle.story.proofs.Plain.{story-unlabelled}
use Rattle.items.specs.Bodies.{items_at}
use Rattle.items.proofs.Kept.{kept-flows, root-plain}
use Rattle.symbols.proofs.Named.{section-names}
use Rattle.symbols.proofs.Parts.{story-parts}
use Rattle.symbols.proofs.Visiting.{visiting-parts, visiting-end, visiting-ready, visiting-many, ready-first}
use Rattle.symbols.proofs.entries.visit_entries.Goals as goal

pub slice_bounds-globals-end : goal.slice_bounds-globals-end
slice_bounds-globals-end g c =
    let o = (readable c.args.story.now.source.file.now c.args.story.now.source.sections refl c.args.story.now.numbers_kept.read).order in
    omega (arith, length-take c.args.story.now.source.sections.externals c.args.story.now.source.file.now)

pub put_names-requires : goal.put_names-requires
unfolding story_in without_plain
put_names-requires g c =
    let file = c.args.story.now.source.file.now in
    let sections = c.args.story.now.source.sections in
    let r = readable file sections refl c.args.story.now.numbers_kept.read in
    let o = r.order in
    let names = section-names file sections.externals (omega arith) in
    let ready = c.requires in
    record { short = omega (arith, length-take sections.externals file, o.short); ready = rw names (ready-first g.met.V.Visit.laws _ _ (story-parts (story_in sections file) (story-unlabelled sections file)) ready) }

pub collect_labels_from_nodes-requires : goal.collect_labels_from_nodes-requires
unfolding story_in without_plain
collect_labels_from_nodes-requires g c =
    let file = c.args.story.now.source.file.now in
    let sections = c.args.story.now.source.sections in
    let r = readable file sections refl c.args.story.now.numbers_kept.read in
    let o = r.order in
    let names = section-names file sections.externals (omega arith) in
    let ready = c.requires in
    let none = visiting-parts g.met.V.Visit.laws (story-parts (story_in sections file) (story-unlabelled sections file)) ready in
    let globals = visiting-many g.met.V.Visit.laws none refl (rw names at c.put_names.ensures) in
    subst (λ (b : List Item). g.V.Visit.ready c.put_names.new.visitor (labels_placed absent absent b)) (sym (ap (items_at file) c.body_items-own.ensures ∙ root-plain c.args.story.now.numbers_kept))
    (visiting-ready g.met.V.Visit.laws globals _ _ refl ready)

pub put_flows-requires : goal.put_flows-requires
unfolding story_in without_plain
put_flows-requires g c =
    let file = c.args.story.now.source.file.now in
    let sections = c.args.story.now.source.sections in
    let r = readable file sections refl c.args.story.now.numbers_kept.read in
    let o = r.order in
    let names = section-names file sections.externals (omega arith) in
    let ready = c.requires in
    let none = visiting-parts g.met.V.Visit.laws (story-parts (story_in sections file) (story-unlabelled sections file)) ready in
    let globals = visiting-many g.met.V.Visit.laws none refl (rw names at c.put_names.ensures) in
    let root = visiting-many g.met.V.Visit.laws globals refl (rw (ap (items_at file) c.body_items-own.ensures ∙ root-plain c.args.story.now.numbers_kept) at c.collect_labels_from_nodes.ensures) in record { range = record { ordered = o.flows; within = omega arith; short = o.short }; file_value = r.flows; flows_kept = kept-flows c.args.story.now.numbers_kept; ready = visiting-ready g.met.V.Visit.laws root _ _ refl ready }

pub returns : goal.returns
unfolding story_in without_plain
returns g c =
    let file = c.args.story.now.source.file.now in
    let sections = c.args.story.now.source.sections in
    let r = readable file sections refl c.args.story.now.numbers_kept.read in
    let o = r.order in
    let names = section-names file sections.externals (omega arith) in
    let none = visiting-parts g.met.V.Visit.laws (story-parts (story_in sections file) (story-unlabelled sections file)) c.requires in
    let globals = visiting-many g.met.V.Visit.laws none refl (rw names at c.put_names.ensures) in
    let root = visiting-many g.met.V.Visit.laws globals refl (rw (ap (items_at file) c.body_items-own.ensures ∙ root-plain c.args.story.now.numbers_kept) at c.collect_labels_from_nodes.ensures) in
    visiting-end g.met.V.Visit.laws (visiting-many g.met.V.Visit.laws root refl c.put_flows.ensures) refl
