-- `sets::known::Known::is_external` meets its contract: the set decides, and then the names that are not in it. Assumes nothing.
use Rattle.sets.proofs.Holding.{holding-found}
use Rattle.sets.proofs.Sections.{section-left}
use Rattle.sets.proofs.known.Known.is_external.Goals as goal

pub returns-then-has : goal.returns-then-has
returns-then-has c =
    holding-found c.args.self.now.names_in.externals c.args.name.now c.has.ensures c.if-has.true

pub returns-else-has : goal.returns-else-has
returns-else-has c =
    section-left c.args.self.now.source.file.now c.args.self.now.rest.externals c.args.self.now.source.sections.root c.args.self.now.names_in.externals c.args.name.now c.has.ensures c.if-has.false c.section_has_name.ensures
