-- `validate_flows`. The loop's invariant: nothing is found before the flows from the place on, which can be read and are kept. Assumes nothing.
use mathlib.Core.Path.{◌≡◌}
use Prim.Native.Nat.{◌-◌}
use Rattle.names.specs.Words.{each}
use Rattle.items.specs.Bodies.{kept_story}
use Rattle.rules.specs.Steps.{flow_runs}
use Rattle.context.specs.Found.{found_runs}
use Rattle.context.specs.Scopes.{kept_flows, FlowsReady}
use Rattle.context.proofs.view.WholeView.validate_flows.Given as goal

abbrev pub invariant-loop-v : goal.invariant-loop-v
invariant-loop-v l = record {
  ready : FlowsReady l.self.index.story.source.file.now l.rest.numbers.now l.at l.self.index.story.source.sections.end;
  quiet : found_runs (kept_story l.self.index.story.source.sections l.self.index.story.source.file.now) (each flow_runs (kept_story l.self.index.story.source.sections l.self.index.story.source.file.now).flows)
      ≡ found_runs (kept_story l.self.index.story.source.sections l.self.index.story.source.file.now) (each flow_runs (kept_flows l.self.index.story.source.file.now l.at l.self.index.story.source.sections.end));
}

abbrev pub decreases-loop-v : goal.decreases-loop-v
decreases-loop-v l = l.self.index.story.source.sections.end - l.at
