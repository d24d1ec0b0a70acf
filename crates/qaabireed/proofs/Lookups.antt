-- Each number of what a lookup answers has 32 bits: `looked-narrow`. Assumes nothing.
use mathlib.Core.Path.{◌≡◌, refl}
use mathlib.Core.List.{List}
use Prim.Native.Nat.{ℕ, ◌≤◌, ◌<◌, ◌^◌}
use native.Mathlib.Omega.{arith}
use lib.Dec.{lit<}
use Rattle.std.proofs.Common.{Ok, Err}
use lib.ListN.{length, length-map}
use Rattle.names.specs.Words.{Bytes}
use Rattle.story.specs.declared.Sections.{Sections}
use Rattle.story.specs.Story.{Story}
use Rattle.story.specs.File.{read_of, story_in}
use Rattle.story.proofs.Readable.{readable}
use Rattle.symbols.specs.Index.{spelling, entries}
use Rattle.symbols.proofs.Owners.{entries-few}
use Rattle.lookups.specs.declared.LookupRefusal.TheVariants.{Unreadable, ShortIndex}
use Rattle.lookups.specs.Results.{Answer, LookupAnswer, answer_of, result_of}
use Rattle.lookups.specs.Results as lookup
use Rattle.lookups.specs.Meaning.{Meant}
use Rattle.lookups.specs.Lookup.{Looked}
use Rattle.qaabireed.specs.Numbers.{answer_numbers, lookup_numbers, Narrow}
use Rattle.qaabireed.proofs.Narrow.{refusal-narrow}

-- an entry that is named is one of the story's
module _ (s : Story) (t : Bytes) (short : length (entries s) ≤ 1048576) {n : ℕ} (h : n < 2 ^ 32) where
  answer-narrow : (a : Answer) → Meant s t a → Narrow (answer_numbers a n)
  answer-narrow lookup.pass m = (lit< tt, (lit< tt, (lit< tt, (h, tt))))
  answer-narrow lookup.function m = (lit< tt, (lit< tt, (lit< tt, (h, tt))))
  answer-narrow lookup.reserved m = (lit< tt, (lit< tt, (lit< tt, (h, tt))))
  answer-narrow (lookup.exact k) m =
      (lit< tt, (lit< tt, (omega (arith, (m.exact_matches k refl).1.within, length-map (entries s) spelling), (h, tt))))
  answer-narrow (lookup.ending k) m =
      (lit< tt, (lit< tt, (omega (arith, (m.ending_matches k refl).2.within, length-map (entries s) spelling), (h, tt))))
  answer-narrow lookup.missing m = (lit< tt, (lit< tt, (lit< tt, (h, tt))))

-- no more entries than bytes
entries-short : (file : List ℕ) {c : Sections} → read_of file ≡ Ok c → length (entries (story_in c file)) ≤ 1048576
entries-short file {c} e = let r = readable file c refl e in omega (arith, entries-few c file r, r.order)

pub looked-narrow : {file before target : List ℕ} {r : LookupAnswer} {after : List ℕ} → Looked file before target r after → Narrow (lookup_numbers (result_of r))
unfolding lookup_numbers result_of
looked-narrow {r = Err (Unreadable x)} l = (lit< tt, (refusal-narrow x, (lit< tt, (lit< tt, tt))))
looked-narrow {r = Err ShortIndex} l = (lit< tt, (lit< tt, (lit< tt, (lit< tt, tt))))
looked-narrow {file} {target = target} {r = Ok a} l =
    let m = l.means (answer_of a.target) a.entries refl in
    let few = entries-short file m.1 in
    answer-narrow (story_in m.0 file) target few (omega (arith, m.2, few)) (answer_of a.target) m.3
