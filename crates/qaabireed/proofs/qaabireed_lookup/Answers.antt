-- `qaabireed_lookup` meets its contract: where the buffer is long enough, the lookup's answer is written as numbers. Assumes nothing.
use Rattle.qaabireed.proofs.Lookups.{looked-narrow}
use Rattle.qaabireed.proofs.Written.{lookup-refused, lookup-answered}
use Rattle.qaabireed.proofs.qaabireed_lookup.Goals as goal

pub returns-then-res-lt4 : goal.returns-then-res-lt4
returns-then-res-lt4 c = lookup-refused c.if-res-lt4.true

pub lookup_numbers-requires : goal.lookup_numbers-requires
lookup_numbers-requires c = looked-narrow c.lookup-answer.ensures

pub returns : goal.returns
returns c =
    lookup-answered c.if-res-lt4.false c.lookup-answer.ensures (rw c.lookup_numbers.ensures at c.put.ensures)
