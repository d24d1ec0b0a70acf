-- `validate_first_steps`: step 5 finds nothing, so that step 6 decides. Assumes nothing.
use mathlib.Core.Path.{sym, ◌∙◌}
use Rattle.context.proofs.Runs.{purity_passed}
use Rattle.context.proofs.view.KnotView.validate_first_steps.Goals as goal

pub returns : goal.returns
returns c =
    purity_passed _ _ _ _ c.args.self.now.flow_ready (sym c.in_default.is ∙ c.validate_function_purity.ensures)
    (λ h. rw (← c.args.self.now.knot.same) at (c.validate_flow_parameter_names.ensures h))
