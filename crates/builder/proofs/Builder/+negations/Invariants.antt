-- The Negates that are left fall.
use Rattle.builder.proofs.Builder.+negations.Given as goal

abbrev pub decreases-negations : goal.decreases-negations
decreases-negations l = l.many
