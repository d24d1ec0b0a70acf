-- `is_item_clear`: the passes are asked one after the other, as far as one that is broken. Assumes nothing.
use Rattle.std.proofs.Common.{rules, true, false}
use Rattle.std.proofs.lemmas.Iterator.{cases_from_all, YieldsList-from_slice}
use Rattle.context.proofs.Clear.{Passes, each-pass}
use Rattle.context.proofs.view.StepView.is_item_clear.Goals as goal

pub returns : goal.returns
returns c =
    each-pass _ _ _ _ c.args.passes.now _
    (cases_from_all _ _ _ (Passes _ _ _ _ true) (Passes _ _ _ _ false) c.all.ensures.ran (YieldsList-from_slice c.args.passes.now cc) (λ x q k. search rules) (λ x q k. search rules))
