-- `read`: the trailer, then the sections; what is refused clears the buffer. Assumes nothing.
use Rattle.story.proofs.Opening.{opened-in-order}
use Rattle.story.proofs.Answers.{trailer-refused, sections-refused, file-read}
use Rattle.story.proofs.read.Goals as goal

pub invariant_of-view : goal.invariant_of-view
invariant_of-view c = record { in_order = opened-in-order c.args.file.now c.in-Ok.c c.read_trailer.ensures c.in-Ok.is }

pub returns-in-Err : goal.returns-in-Err
returns-in-Err c = trailer-refused c.args.file.now c.args.items.now c.read_trailer.ensures c.in-Err.is c.refused.ensures

pub returns-in-Err-read_sections : goal.returns-in-Err-read_sections
returns-in-Err-read_sections c =
    let a = c.args in
    sections-refused a.file.now a.items.now c.in-Ok.c c.read_trailer.ensures c.in-Ok.is c.read_sections.ensures c.in-Err-read_sections.is c.refused-in-Err-read_sections.ensures

pub returns-in-Ok-read_sections : goal.returns-in-Ok-read_sections
returns-in-Ok-read_sections c =
    let a = c.args in
    file-read a.file.now a.items.now c.in-Ok.c c.read_trailer.ensures c.in-Ok.is c.read_sections.ensures c.in-Ok-read_sections.is
