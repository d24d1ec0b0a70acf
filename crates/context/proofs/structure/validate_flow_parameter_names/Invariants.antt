-- `validate_flow_parameter_names`. The loop's invariant: nothing is found before the names that are left. Assumes nothing.
use Rattle.std.proofs.Common.{◌≡◌, drop}
use Rattle.story.specs.Flows.{counted_in}
use Rattle.rules.specs.Rules.{Here}
use Rattle.searches.specs.NameViews.{names_left}
use Rattle.context.specs.Scopes.{params_found}
use Rattle.context.proofs.structure.validate_flow_parameter_names.Given as goal

abbrev pub invariant-loop-name : goal.invariant-loop-name
invariant-loop-name l = (h : Here)
    → params_found l.story.source.file.now l.story.source.sections h l.flow (counted_in l.params (drop l.params l.story.source.file.now))
    ≡ params_found l.story.source.file.now l.story.source.sections h l.flow (names_left l.name-iterator)
