-- `steps::headings::validate_flow_parameter_names` meets its contract. Assumes nothing.
use mathlib.Core.Path.{subst}
use Rattle.std.proofs.Common.{List, ℕ}
use Rattle.searches.specs.NameViews.{names_left}
use Rattle.searches.proofs.Names.{AllIn, left-in}
use Rattle.steps.proofs.Naming.{params-start, params-next, params-end, params-full}
use Rattle.steps.proofs.headings.validate_flow_parameter_names.Goals as goal

pub loop-name-init : goal.loop-name-init
loop-name-init c =
    let names = c.counted-name-items in
    rw c.into_iter-name-iterator.ensures.into_iter_gives
    (record {
      inside = subst (λ (file : List ℕ). AllIn file (names_left names.result)) names.ensures.same_file (left-in names.result);
      left = params-start _ _ _ _ names.ensures.names;
    })

pub returns-then-is_full : goal.returns-then-is_full
returns-then-is_full c = λ s k. params-full c.loop-name.invariant.left s k c.is_full.ensures c.if-is_full.true

pub loop-name-preserved : goal.loop-name-preserved
loop-name-preserved c =
    let at-name = rw c.in-Some.ensures.steps at c.loop-name.invariant.inside in
    record {
      inside = at-name.2;
      left = params-next c.loop-name.invariant.left c.in-Some.ensures.steps at-name.1 c.visit_name-tally.ensures;
    }

pub returns : goal.returns
returns c = λ s k. params-end c.loop-name.invariant.left s k c.in-None.ensures.steps.0 c.next_run.ensures
