-- `steps::context::FilledKnot::validate_stitch` meets its contract: its name, then the steps along its body. Assumes nothing.
use Rattle.steps.specs.Heard.{heard}
use Rattle.steps.specs.declared.brackets.Along.TheVariants as along
use Rattle.steps.proofs.Coursing.{along-last, along-tested}
use Rattle.steps.proofs.Stories.{stitch-heading, stitch-course, stitch-scope-is, stitch-told}
use Rattle.steps.proofs.context.FilledKnot.validate_stitch.Goals as goal

pub validate_stitch_name-first-requires : goal.validate_stitch_name-first-requires
validate_stitch_name-first-requires c = stitch-heading c.args.self.now.ready c.requires c.stitch_scope-scope.ensures

pub invariant_of-own : goal.invariant_of-own
invariant_of-own c = record { ready = stitch-course c.args.self.now.ready c.requires c.stitch_scope-scope.ensures _ _ _; gathers_last = rw c.steps.ensures (along-last along.Stitch) }

pub validate-requires : goal.validate-requires
validate-requires c = rw c.steps.ensures (along-tested along.Stitch _)

pub returns : goal.returns
returns c = stitch-told c.args.self.now.ready c.requires c.stitch_scope-scope.ensures c.args.self.now.story.now.view.sections (heard c.args.t.tally c.args.list.now) (c.validate_stitch_name-first.ensures _ (stitch-scope-is c.args.self.now.ready c.requires c.stitch_scope-scope.ensures)) ((rw c.steps.ensures at c.validate.ensures) _ (stitch-scope-is c.args.self.now.ready c.requires c.stitch_scope-scope.ensures))
