-- `steps::headings::validate_flow_parameter_names` meets its contract. The loop's invariant: what is to be heard is what is to be heard of the
-- parameters that are left. Assumes nothing.
use Rattle.searches.specs.NameViews.{names_left}
use Rattle.searches.proofs.Names.{AllIn}
use Rattle.steps.proofs.Naming.{ParamsLeft}
use Rattle.steps.proofs.headings.validate_flow_parameter_names.Given as goal

abbrev pub invariant-loop-name : goal.invariant-loop-name
invariant-loop-name l = record {
  inside : AllIn l.story.file.now (names_left l.name-iterator);
  left : ParamsLeft l.story.view.sections l.story.file.now l.story.kept.now l.h l.initial.list l.list l.tally (names_left l.name-iterator);
}
