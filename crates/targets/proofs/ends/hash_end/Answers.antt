-- `targets::ends::hash_end` meets its contract. Assumes nothing.
use Rattle.targets.proofs.Comparing.{end-hash}
use Rattle.targets.proofs.ends.hash_end.Goals as goal

pub returns : goal.returns
returns c =
    end-hash c.args.file.now c.args.e c.name_at-name.ensures c.end_of.ensures c.hash_of-first.ensures c.hash_after-second.ensures c.hash_after.ensures
