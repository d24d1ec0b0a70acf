-- `check_story`: the index is the story's, and the answer its verdict. Assumes nothing.
use Rattle.validator.proofs.Reports.{written, ready, story-accepted, story-breached}
use Rattle.validator.proofs.check_story.Goals as goal

pub validate_story-found-requires : goal.validate_story-found-requires
validate_story-found-requires c =
    let good = c.args.story.now.numbers_kept.read in
    let index = written c.args.story.now.source.file.now good c.requires.0 c.write_index-count.ensures in
    record { ready = ready c.args.story.now.source.file.now good index c.put_functions.ensures; kept = c.args.story.now.numbers_kept }

pub write_breach-requires : goal.write_breach-requires
write_breach-requires c =
    c.requires.1

pub returns-in_default : goal.returns-in_default
returns-in_default c =
    let index = written c.args.story.now.source.file.now c.args.story.now.numbers_kept.read c.requires.0 c.write_index-count.ensures in
    story-accepted index c.args.message.now c.validate_story-found.ensures c.in_default.is

pub returns : goal.returns
returns c =
    let index = written c.args.story.now.source.file.now c.args.story.now.numbers_kept.read c.requires.0 c.write_index-count.ensures in
    story-breached index c.validate_story-found.ensures c.in-Some.is c.write_breach.ensures
