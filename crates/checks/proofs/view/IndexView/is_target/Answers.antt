-- `is_target`: where it is no reserved word, a spelling. Assumes nothing.
use Rattle.checks.proofs.Asked.{target_asked}
use Rattle.checks.proofs.view.IndexView.is_target.Goals as goal

pub returns : goal.returns
returns c =
    target_asked _ _ _ c.is_reserved.ensures c.if-is_reserved.false c.args.self.now.spelled c.find_target_in.ensures
