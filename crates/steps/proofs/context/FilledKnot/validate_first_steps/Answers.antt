-- `steps::context::FilledKnot::validate_first_steps` meets its contract. Assumes nothing.
use Rattle.items.specs.Bodies.{kept_flow}
use Rattle.steps.specs.Heard.{heard}
use Rattle.steps.proofs.Knots.{knot-heading, knot-params, knot-scope-is, knot-flow-is, first-told}
use Rattle.steps.proofs.context.FilledKnot.validate_first_steps.Goals as goal

pub validate_function_purity-purity-requires : goal.validate_function_purity-purity-requires
validate_function_purity-purity-requires c = knot-heading c.args.self.now.ready

pub validate_flow_parameter_names-requires : goal.validate_flow_parameter_names-requires
validate_flow_parameter_names-requires c = record { heading_ready = knot-heading c.args.self.now.ready; params_in_bounds = knot-params c.args.self.now.ready }

pub returns : goal.returns
returns c = first-told c.args.self.now.ready c.args.self.now.story.now.view.sections (heard c.args.tally c.args.list.now) (c.validate_function_purity-purity.ensures.list_after _ (kept_flow c.args.self.now.story.now.file.now c.args.self.now.story.now.kept.now c.args.self.now.knot.flow) (knot-scope-is c.args.self.now.ready) (knot-flow-is c.args.self.now.ready c.args.tally)) (c.validate_flow_parameter_names.ensures _ (knot-scope-is c.args.self.now.ready))
