-- `enumerator::entries::enumerate` meets its contract. Assumes nothing.
use Rattle.std.proofs.Common.{refl}
use Rattle.story.proofs.Readable.{readable}
use Rattle.enumerator.proofs.Ready.{story-ready}
use Rattle.enumerator.proofs.entries.enumerate.Goals as goal

pub visit_entries-requires : goal.visit_entries-requires
visit_entries-requires c =
    story-ready c.args.story.now.source.sections c.args.story.now.source.file.now (readable c.args.story.now.source.file.now c.args.story.now.source.sections refl c.args.story.now.numbers_kept.read) c.requires.0 c.requires.1
