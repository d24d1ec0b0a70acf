-- `symbols::entries::put_label` meets its contract, by whether the name is a label. Assumes nothing.
use Rattle.records.specs.Numbers.{item_in}
use Rattle.symbols.proofs.Labels.{label-one, label-passed}
use mathlib.Core.Path.{subst, sym}
use mathlib.Core.List.{List}
use Rattle.symbols.specs.declared.Places.{Places}
use Rattle.symbols.proofs.entries.put_label.Goals as goal

pub visit-requires : goal.visit-requires
visit-requires g c =
    let file = c.args.file.now in
    subst (λ (ps : List Places). g.V.Visit.ready c.args.visitor.now ps) (label-one c.args.flow c.args.stitch (item_in file c.args.item) (c.is_labelled.ensures file) c.if-is_labelled.true (c.named_at-own.ensures.0 file)) c.requires

pub returns-then-is_labelled : goal.returns-then-is_labelled
returns-then-is_labelled g c =
    let file = c.args.file.now in
    subst (λ (ps : List Places). g.V.Visit.visited c.args.visitor.now ps c.visit.new.self) (sym (label-one c.args.flow c.args.stitch (item_in file c.args.item) (c.is_labelled.ensures file) c.if-is_labelled.true (c.named_at-own.ensures.0 file))) c.visit.ensures

pub returns-else-is_labelled : goal.returns-else-is_labelled
returns-else-is_labelled g c =
    let file = c.args.file.now in
    subst (λ (ps : List Places). g.V.Visit.visited c.args.visitor.now ps c.args.visitor.now) (sym (label-passed c.args.flow c.args.stitch (item_in file c.args.item) (c.is_labelled.ensures file) c.if-is_labelled.false)) (g.met.V.Visit.laws.none _ _ c.requires)
