-- `targets::ends::same_parts` meets its contract. Assumes nothing.
use Rattle.targets.proofs.Comparing.{parts_same}
use Rattle.targets.proofs.Gaining.{never}
use Rattle.targets.proofs.ends.same_parts.Goals as goal

pub returns-then-e-f : goal.returns-then-e-f
returns-then-e-f c q = never q

pub returns-then-same_names-2 : goal.returns-then-same_names-2
returns-then-same_names-2 c q =
    parts_same c.args.file.now c.args.e c.args.f c.if-e-f.false (c.same_names.ensures c.if-same_names.true) (c.same_names-then-same_names.ensures c.if-same_names-2.true) (c.same_places.ensures q)

pub returns-else-same_names-2 : goal.returns-else-same_names-2
returns-else-same_names-2 c q = never q

pub returns-else-same_names : goal.returns-else-same_names
returns-else-same_names c q = never q
