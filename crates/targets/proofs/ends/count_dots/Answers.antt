-- `targets::ends::count_dots` meets its contract. Assumes nothing.
use Rattle.std.proofs.Common.{rules, ◌≡◌, ◌==◌, sym, ◌∙◌}
use Rattle.std.specs.Prelude.{count_by}
use Rattle.targets.proofs.Dotted.{dots-counted}
use Rattle.targets.proofs.ends.count_dots.Goals as goal

pub returns : goal.returns
returns c = let e : c.count.result ≡ count_by (λ x. x == 46) c.args.word.now = search rules in e ∙ sym (dots-counted c.args.word.now)
