-- `validate_story`: the kept numbers rise. Assumes nothing.
use Rattle.items.proofs.Kept.{kept-rising}
use Rattle.context.proofs.context.validate_story.Goals as goal

pub invariant_of-whole : goal.invariant_of-whole
invariant_of-whole c = record { rising = kept-rising c.requires.kept }
