-- That what was read lies within the bytes, as one set for the bounds of the reading.
use Rattle.std.proofs.Common.{length-take, length-drop}
use Rattle.fields.proofs.Laws.{list-within, name-within, flag-within}
use Rattle.story.proofs.TitleWalks.{title-fits}

pub ruleset fits = (list-within, name-within, flag-within, title-fits, length-take, length-drop)
