-- `sets::holds` meets its contract. Assumes nothing.
use Rattle.sets.specs.Sets.{number_of, name_slots}
use Rattle.sets.proofs.Walking.{number-bound, marks-differ, class_of}
use Rattle.std.proofs.Common.{◌∷◌, ◌-◌, ◌∙◌}
use borrow.Author.Tests.{ne_eqb}
use Rattle.sets.proofs.holds.Goals as goal

pub returns-else-number-tag : goal.returns-else-number-tag
returns-else-number-tag c =
    ne_eqb _ _ c.if-number-tag.false ∙ marks-differ (name_slots c.args.file.now) (number_of c.args.class ∷ c.args.name.now) c.args.slot c.requires.1 c.requires.2 c.if-number-tag.false

pub returns-then-number-tag : goal.returns-then-number-tag
returns-then-number-tag c =
    class_of (number_of c.args.class) c.args.name.now _ (c.args.slot - 1) (number-bound c.args.class) c.requires.1 c.if-number-tag.true c.same_at.ensures
