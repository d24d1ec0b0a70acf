-- `broken::asked::Story::items` meets its contract. Assumes nothing.
use Rattle.items.proofs.Standing.{kept-names-stand}
use Rattle.broken.proofs.asked.Story.items.Goals as goal

pub invariant_of-result : goal.invariant_of-result
invariant_of-result c = record { names_stand = kept-names-stand c.args.self.now.targets_ready.read }
