-- `enumerator::entries::write_entries` meets its contract: the entries are visited from an empty set on. Assumes nothing.
use Rattle.enumerator.proofs.Entered.{entered}
use Rattle.enumerator.proofs.entries.write_entries.Goals as goal

pub returns : goal.returns
returns c =
    entered c.args.story.now.source.sections c.clear.ensures c.enumerate.ensures
