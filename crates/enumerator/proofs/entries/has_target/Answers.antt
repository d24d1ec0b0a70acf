-- `enumerator::entries::has_target` meets its contract: the spellings of the entries are those of the story. Assumes nothing.
use mathlib.Core.Path.{refl, ◌∙◌, ap}
use Rattle.names.specs.Words.{any}
use Rattle.symbols.specs.Fits.{answers}
use Rattle.story.proofs.Readable.{readable}
use Rattle.enumerator.proofs.Spelled.{places-spelled}
use Rattle.enumerator.proofs.entries.has_target.Goals as goal

pub returns : goal.returns
returns c =
    let file = c.args.story.now.source.file.now in
    c.enumerate-met.ensures.asked ∙ ap (any (answers c.args.target.now)) (places-spelled c.args.story.now.source.sections file (readable file c.args.story.now.source.sections refl c.args.story.now.numbers_kept.read))
