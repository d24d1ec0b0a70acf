-- `steps::context::validate_story` meets its contract: the root's first steps, the flows, the root's gathers. Assumes nothing.
use Rattle.std.specs.Prelude.{false}
use Rattle.items.proofs.Kept.{kept-rising}
use Rattle.steps.specs.Heard.{heard}
use Rattle.steps.specs.declared.brackets.Along.TheVariants as along
use Rattle.steps.proofs.Coursing.{along-last, along-tested}
use Rattle.steps.proofs.Idle.{idle-knot}
use Rattle.steps.proofs.Roots.{root-scope-ready, root-course-ready, root-told, story-told}
use Rattle.steps.proofs.context.validate_story.Goals as goal

pub invariant_of-numbers : goal.invariant_of-numbers
invariant_of-numbers c = record { rising = kept-rising c.args.story.now.targets_ready.read }

pub put_knot-rests-requires : goal.put_knot-rests-requires
put_knot-rests-requires c = rw (c.items.ensures.file, c.items.ensures.items) (root-scope-ready c.args.story.now.targets_ready.read c.root_scope-scope.ensures)

pub invariant_of-root : goal.invariant_of-root
invariant_of-root c = record { ready = root-course-ready c.args.story.now.targets_ready.read c.root_scope-scope.ensures c.own.ensures (rw (c.items.ensures.file, c.items.ensures.items) at c.put_knot-rests.ensures.filled); gathers_last = rw c.steps.ensures (along-last along.Root) }

pub validate-first-requires : goal.validate-first-requires
validate-first-requires c = rw (c.own.ensures, c.steps.ensures) (along-tested along.Root false)

pub invariant_of-gathers : goal.invariant_of-gathers
invariant_of-gathers c = record { ready = root-course-ready c.args.story.now.targets_ready.read c.root_scope-scope.ensures c.own-2.ensures (idle-knot _ _ _ c.default.ensures.0 c.default.ensures.1.0); gathers_last = rw c.steps-2.ensures (along-last along.RootGathers) }

pub validate-requires : goal.validate-requires
validate-requires c = rw (c.own-2.ensures, c.steps-2.ensures) (along-tested along.RootGathers false)

pub returns : goal.returns
returns c =
    let read = c.args.story.now.targets_ready.read in
    let first = root-told read c.root_scope-scope.ensures _ _ c.own.ensures (rw c.steps.ensures at c.validate-first.ensures) in
    let gathers = root-told read c.root_scope-scope.ensures _ _ c.own-2.ensures (rw c.steps-2.ensures at c.validate.ensures) in
    story-told read c.root_scope-scope.ensures (heard c.args.t.tally c.args.list.now) first c.validate_flows-flows.ensures gathers
