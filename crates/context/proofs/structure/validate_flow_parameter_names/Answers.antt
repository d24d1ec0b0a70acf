-- `validate_flow_parameter_names`. The loop's invariant: nothing is found before the names that are left. Assumes nothing.
use Rattle.std.proofs.Common.{refl, sym, ◌∙◌}
use Rattle.context.proofs.Params.{params-none, params-found, params-passed}
use Rattle.context.proofs.structure.validate_flow_parameter_names.Goals as goal

pub loop-name-init : goal.loop-name-init
loop-name-init c h = rw (c.into_iter-name-iterator.ensures.into_iter_gives, c.counted-name-items.ensures.names) refl

pub returns-in-Some-check_parameter_name : goal.returns-in-Some-check_parameter_name
returns-in-Some-check_parameter_name c h =
    params-found _ _ _ h c.in-Some.ensures.steps c.check_parameter_name.ensures c.in-Some-check_parameter_name.is c.breach_at.ensures
    ∙ sym (c.loop-name.invariant h)

pub loop-name-preserved : goal.loop-name-preserved
loop-name-preserved c h = c.loop-name.invariant h ∙ params-passed _ _ _ h c.in-Some.ensures.steps c.check_parameter_name.ensures c.in_default.is

pub returns : goal.returns
returns c h = params-none _ _ _ h c.in-None.ensures.steps.0 ∙ sym (c.loop-name.invariant h)
