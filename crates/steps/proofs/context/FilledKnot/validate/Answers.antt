-- `steps::context::FilledKnot::validate` meets its contract, by whether the look finds the own list clear. Assumes nothing.
use Rattle.steps.specs.Heard.{heard}
use Rattle.steps.specs.declared.brackets.Along.TheVariants as along
use Rattle.steps.proofs.Coursing.{along-last, along-tested}
use Rattle.steps.proofs.Knots.{knot-course, own-told, own-passed, knot-told}
use Rattle.steps.proofs.context.FilledKnot.validate.Goals as goal

pub invariant_of-own : goal.invariant_of-own
invariant_of-own c = record { ready = rw c.own.ensures (knot-course c.args.self.now.ready _); gathers_last = rw c.steps.ensures (along-last along.Flow) }

pub returns-then-is_clear : goal.returns-then-is_clear
returns-then-is_clear c =
    let ready = c.args.self.now.ready in
    let sections = c.args.self.now.story.now.view.sections in
    let function = c.args.self.now.knot.flow.function in
    let clear = rw c.own.ensures at c.is_clear.ensures in
    let own = own-passed ready sections clear c.if-is_clear.true _ (along-tested along.Flow function) c.validate_first_steps-first.result _ (rw c.many.ensures at c.pass_runs-passed.ensures) in
    let gathers = own-passed ready sections clear c.if-is_clear.true _ (along-tested along.FlowGathers function) c.validate_stitches-tally.result _ (rw c.many-then-is_clear.ensures at c.pass_runs.ensures) in
    knot-told ready sections (heard c.args.before c.args.list.now) c.validate_first_steps-first.ensures own c.validate_stitches-tally.ensures gathers

pub invariant_of-gathers : goal.invariant_of-gathers
invariant_of-gathers c = record { ready = rw c.own-2.ensures (knot-course c.args.self.now.ready _); gathers_last = rw c.steps-2.ensures (along-last along.FlowGathers) }

pub returns : goal.returns
returns c =
    let ready = c.args.self.now.ready in
    let own = own-told ready _ _ c.own.ensures (rw c.steps.ensures at c.validate_steps-after.ensures) in
    let gathers = own-told ready _ _ c.own-2.ensures (rw c.steps-2.ensures at c.validate_steps.ensures) in
    knot-told ready c.args.self.now.story.now.view.sections (heard c.args.before c.args.list.now) c.validate_first_steps-first.ensures own c.validate_stitches-tally-2.ensures gathers
