-- That what was read lies within the bytes, as one set for the bounds of the walk.
use Rattle.std.proofs.Common.{length-take, length-drop}
use Rattle.fields.proofs.Laws.{list-within, name-within, head-within, off-fits, on_fits}
use Rattle.records.proofs.PiecesRead.{first_fits, listed-fits, test_fits, branch_fits}
use Rattle.records.proofs.Choices.{label-fits}

pub ruleset fits = (list-within, name-within, head-within, off-fits, on_fits, first_fits, listed-fits, test_fits, branch_fits, label-fits, length-take, length-drop)
