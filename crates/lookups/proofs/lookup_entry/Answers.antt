-- `lookups::lookup_entry` meets its contract, by what the two searches found. Assumes nothing.
use Rattle.lookups.specs.Results.{answer_of}
use Rattle.lookups.specs.Lookup.{ending_answer, entry_of}
use Rattle.lookups.proofs.lookup_entry.Goals as goal

pub returns-in-Some : goal.returns-in-Some
unfolding answer_of entry_of
returns-in-Some c = rw (← c.find_exact.ensures, c.in-Some.is)

pub returns-in-Some-find_ending : goal.returns-in-Some-find_ending
unfolding answer_of entry_of ending_answer
returns-in-Some-find_ending c =
    rw (← c.find_exact.ensures, c.in_default.is, ← c.find_ending.ensures, c.in-Some-find_ending.is)

pub returns : goal.returns
unfolding answer_of entry_of ending_answer
returns c =
    rw (← c.find_exact.ensures, c.in_default.is, ← c.find_ending.ensures, c.in_default-find_ending.is)
