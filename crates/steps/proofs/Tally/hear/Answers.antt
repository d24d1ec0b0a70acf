-- `Tally::hear`: a breach, where it is not full. Assumes nothing.
use mathlib.Core.Path.{ap}
use Rattle.rules.specs.Steps.{names_of}
use Rattle.steps.specs.Heard.{names_at}
use Rattle.steps.proofs.Hearing.{hears-none, hears-one}
use Rattle.steps.proofs.Tally.hear.Goals as goal

pub returns-then-is_full : goal.returns-then-is_full
returns-then-is_full c = hears-none _ c.is_full.ensures c.if-is_full.true _ _

pub returns : goal.returns
returns c =
    hears-one c.args.self c.is_full.ensures c.if-is_full.false c.args.rule c.args.place
    (names_of c.args.rule c.args.flow c.args.own) (ap names_at c.names_of-first.ensures) c.rule_number-number.ensures
    _ c.write_breach.ensures
